use Rattle.std.proofs.Common.{◌<◌, length, arith}
use Rattle.table_history.specs.Stores.{cleared_if, stored}
use Rattle.table_history.proofs.PlaceLemmas.{done_more, more_room}
use Rattle.table_history.proofs.stores.clear_stores.Goals as goal

pub loop-i-preserved : goal.loop-i-preserved
loop-i-preserved c =
    let h = c.loop-i.invariant in
    let xs = c.loop-i.stores.items in
    let within : c.loop-i.i < length xs = omega (arith, c.loop-i.stores.ok.0, c.loop-i-test.true) in
    record {
      done = done_more stored (cleared_if c.args.marks.now) xs c.loop-i.i c.index_mut.result.now _ _ within c.index_mut.ensures.value c.clear_named.ensures.store h.done;
      room = λ name rows room. more_room xs c.loop-i.i c.index_mut.result.now _ within c.index_mut.ensures.value c.clear_named.ensures.name (omega (arith, c.clear_named.ensures.capacity, c.clear_named.ensures.len)) name rows (h.room name rows room);
      len = h.len;
    }
