use Rattle.table_snapshot.proofs.ReplaySteps.{takes_block}
use Rattle.table_snapshot.proofs.items.replay_manifest.Goals as goal

pub loop-block-preserved : goal.loop-block-preserved
loop-block-preserved c =
    takes_block c.args.manifest.now.seq c.args.table.now c.deref-block-items.result.now
    c.loop-block.block-index c.block-item.result c.loop-block.files c.replay_block.new.files _
    c.loop-block-test.true c.block-item.is c.in_ok-replay_block.ensures c.loop-block.invariant
