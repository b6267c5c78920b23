use Rattle.std.proofs.Common.{◌∙◌, ◌<◌, length, arith}
use Rattle.table_history.specs.Stores.{spare_at, stamped_store, stored}
use Rattle.table_history.proofs.PlaceLemmas.{done_more, unseen}
use Rattle.table_history.proofs.stores.stamp_stores.Goals as goal

pub loop-i-preserved : goal.loop-i-preserved
loop-i-preserved c =
    let h = c.loop-i.invariant in
    let xs = c.loop-i.stores.items in
    let within : c.loop-i.i < length xs = omega (arith, c.loop-i.stores.ok.0, c.loop-i-test.true) in
    record {
      done = done_more stored (stamped_store c.args.version c.args.seq c.args.removed.now) xs c.loop-i.i c.index_mut.result.now _ _ within c.index_mut.ensures.value c.stamp_store.ensures.store h.done;
      spares = unseen spare_at xs c.loop-i.i c.index_mut.result.now _ within c.index_mut.ensures.value c.stamp_store.ensures.spare ∙ h.spares;
      len = h.len;
      used = c.stamp_store.ensures.used;
    }
