use Rattle.std.proofs.Common.{◌≡◌, ◌+◌, ◌++◌, length, map, vec_len}
use Rattle.std.specs.Prelude.{vec_capacity}
use Rattle.table_history.specs.Stores.{kept_by}
use Rattle.table_history.proofs.stores.put_rows.Given as goal

abbrev pub invariant-loop-row : goal.invariant-loop-row
invariant-loop-row l = record {
  rows : l.rows.items ≡ l.fn.rows.items ++ map (kept_by l.schema l.seq l.part) l.yielded;
  len : vec_len l.rows ≡ vec_len l.fn.rows + length l.yielded;
  capacity : vec_capacity l.rows ≡ vec_capacity l.fn.rows;
}
