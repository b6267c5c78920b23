use Rattle.table_snapshot.proofs.MapChanges.{puts_next}
use Rattle.table_snapshot.proofs.items.by_name.Goals as goal

pub loop-file-preserved : goal.loop-file-preserved
loop-file-preserved c =
    puts_next c.deref-file-items.result.now c.loop-file.file-index _ c.loop-file.files
    c.put.new.self c.loop-file-test.true
    (rw (c.deref-file-items.ensures.value, c.list.ensures) c.requires) c.loop-file.invariant
    c.in_ok-put.ensures
