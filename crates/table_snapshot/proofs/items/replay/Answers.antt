use Rattle.table_snapshot.proofs.ReplaySteps.{takes_manifest}
use Rattle.table_snapshot.proofs.items.replay.Goals as goal

pub loop-manifest-preserved : goal.loop-manifest-preserved
loop-manifest-preserved c =
    takes_manifest c.args.table.now c.deref-manifest-items.result.now c.loop-manifest.manifest-index
    c.manifest-item.result c.loop-manifest.files c.replay_manifest.new.files _
    c.loop-manifest-test.true c.manifest-item.is c.in_ok-replay_manifest.ensures
    c.loop-manifest.invariant
