use Rattle.std.proofs.Common.{◌≡◌, ◌≤◌, length, map, drop, replicate, None}
use Rattle.lake_values.specs.Reading.{each_at, repeated_at}
use Rattle.lake_values.proofs.Loops.{with_front}
use Rattle.column_file.specs.Lent.{lent_column}
use Rattle.column_file.specs.Reading.{column_at}
use Rattle.column_file.proofs.columns.read_columns.Given as goal

abbrev pub invariant-loop : goal.invariant-loop
invariant-loop l = record {
  so_far : with_front (map lent_column l.columns.items) (each_at (λ before place. column_at l.rows) None (drop l.counter (replicate l.count (tt {0}))) l.next (drop l.next l.bytes)) ≡ repeated_at l.count (column_at l.rows) l.at (drop l.at l.bytes);
  within : l.next ≤ length l.bytes;
}
