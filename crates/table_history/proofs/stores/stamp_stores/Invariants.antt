use Rattle.std.proofs.Common.{◌≡◌, ◌++◌, length, map, take, drop, vec_len}
use Rattle.table_history.specs.Stores.{spare_at, stamped_store, stored}
use Rattle.table_history.proofs.stores.stamp_stores.Given as goal

abbrev pub invariant-loop-i : goal.invariant-loop-i
invariant-loop-i l = record {
  done : map stored (take l.i l.stores.items) ++ map (stamped_store l.version l.seq l.removed) (map stored (drop l.i l.stores.items))
      ≡ map (stamped_store l.version l.seq l.removed) (map stored l.fn.stores.items);
  spares : map spare_at l.stores.items ≡ map spare_at l.fn.stores.items;
  len : vec_len l.stores ≡ vec_len l.fn.stores;
  used : vec_len l.used ≡ length l.removed;
}
