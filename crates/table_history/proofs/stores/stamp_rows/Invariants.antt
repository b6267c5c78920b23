use Rattle.std.proofs.Common.{◌≡◌, ◌≤◌, ◌++◌, length, take, drop, vec_len}
use Rattle.std.specs.Prelude.{vec_capacity}
use Rattle.std.specs.List.{AllByRecursion}
use Rattle.table_history.specs.Stores.{stamped}
use Rattle.table_history.specs.Strikes.{remaining, times}
use Rattle.table_history.proofs.stores.stamp_rows.Given as goal

abbrev pub invariant-loop-i : goal.invariant-loop-i
invariant-loop-i l = record {
  done : take l.i l.rows.items ++ stamped l.table l.version l.seq (remaining l.removed l.used.items) (drop l.i l.rows.items) ≡ stamped l.table l.version l.seq (times l.removed) l.fn.rows.items;
  len : vec_len l.rows ≡ vec_len l.fn.rows;
  capacity : vec_capacity l.rows ≡ vec_capacity l.fn.rows;
  used : vec_len l.used ≡ length l.removed;
  within : AllByRecursion (λ n. n ≤ length l.removed) l.used.items;
}
