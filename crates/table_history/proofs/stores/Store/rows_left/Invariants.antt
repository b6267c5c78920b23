use Rattle.std.proofs.Common.{◌≡◌, ◌≤◌, ◌++◌, length, map, drop, vec_len}
use Rattle.std.specs.List.{AllByRecursion}
use Rattle.table_history.specs.Stores.{marked_of, rows_at}
use Rattle.table_history.specs.Strikes.{remaining, struck, times}
use Rattle.table_history.proofs.stores.Store.rows_left.Given as goal

abbrev pub invariant-loop-kept : goal.invariant-loop-kept
invariant-loop-kept l = record {
  done : map (marked_of l.self.name) l.rows.items ++ struck (remaining l.removed l.used.items) (rows_at l.version l.self.name (drop l.kept-index l.kept-items))
      ≡ struck (times l.removed) (rows_at l.version l.self.name l.self.rows.items);
  used : vec_len l.used ≡ length l.removed;
  within : AllByRecursion (λ n. n ≤ length l.removed) l.used.items;
}
