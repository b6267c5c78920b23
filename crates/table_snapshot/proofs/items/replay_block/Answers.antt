use Rattle.std.proofs.Common.{◌≡◌, sym, ◌∙◌}
use Rattle.lake_values.specs.Texts.{same_text}
use Rattle.table_snapshot.specs.Files.{item_table}
use Rattle.table_snapshot.proofs.ReplaySteps.{takes_item, skips_item}
use Rattle.table_snapshot.proofs.items.replay_block.Goals as goal
use Rattle.table_snapshot.proofs.items.replay_block.Goals.{then-eq+in_ok-replay_item, else-eq}

pub loop-item-preserved : goal.loop-item-preserved
loop-item-preserved c =
    let compared : c.eq.result ≡ same_text (item_table c.item-item.result) c.args.table.now = rw
    (← c.table_of.ensures) c.eq.ensures in
    elim c.if-eq.branch [
      | then-eq+in_ok-replay_item w ↦
          takes_item c.args.seq c.args.table.now c.deref-item-items.result.now
          c.loop-item.item-index c.item-item.result c.loop-item.files c.if-eq.files _
          c.loop-item-test.true c.item-item.is (sym compared ∙ w.if-eq.true)
          (w.files-is ∙ w.in_ok-replay_item.ensures) c.loop-item.invariant
      | else-eq w ↦
          rw w.files-is (skips_item c.args.seq c.args.table.now c.deref-item-items.result.now
          c.loop-item.item-index c.item-item.result c.loop-item.files _
          c.loop-item-test.true c.item-item.is (sym compared ∙ w.if-eq.false) c.loop-item.invariant)
    ]
