use Rattle.std.proofs.Common.{◌≡◌, ◌+◌, ℕ, List, true, map}
use Rattle.table_history.specs.Histories.{has_spare_rows, rows_for}
use Rattle.table_history.specs.Stores.{HaveOwnNames, grown_stores, spare_at, stored}
use Rattle.table_history.proofs.stores.add_parts.Given as goal

abbrev pub invariant-loop-part : goal.invariant-loop-part
invariant-loop-part l = record {
  done : grown_stores l.seq l.part-iterator.rest.items (map stored l.stores.items) ≡ grown_stores l.seq l.fn.added.items (map stored l.fn.stores.items);
  own_names : HaveOwnNames (map stored l.stores.items);
  room : (name : List ℕ) → has_spare_rows (map spare_at l.stores.items) name (rows_for name l.part-iterator.rest.items) ≡ true;
  left : (name : List ℕ) (rows : ℕ) → has_spare_rows (map spare_at l.fn.stores.items) name (rows_for name l.fn.added.items + rows) ≡ true → has_spare_rows (map spare_at l.stores.items) name (rows_for name l.part-iterator.rest.items + rows) ≡ true;
}
