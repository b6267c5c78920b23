use Rattle.std.proofs.Common.{◌≡◌, ◌++◌, ℕ, List, true, map, take, drop, vec_len}
use Rattle.table_history.specs.Histories.{has_spare_rows}
use Rattle.table_history.specs.Stores.{cleared_if, spare_at, stored}
use Rattle.table_history.proofs.stores.clear_stores.Given as goal

abbrev pub invariant-loop-i : goal.invariant-loop-i
invariant-loop-i l = record {
  done : map stored (take l.i l.stores.items) ++ map (cleared_if l.marks) (map stored (drop l.i l.stores.items)) ≡ map (cleared_if l.marks) (map stored l.fn.stores.items);
  room : (name : List ℕ) (rows : ℕ) → has_spare_rows (map spare_at l.fn.stores.items) name rows ≡ true → has_spare_rows (map spare_at l.stores.items) name rows ≡ true;
  len : vec_len l.stores ≡ vec_len l.fn.stores;
}
