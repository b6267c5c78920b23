use Rattle.std.proofs.Common.{◌≡◌, ◌≤◌, length, map, drop, None}
use Rattle.lake_values.specs.Reading.{each_at}
use Rattle.lake_values.proofs.Loops.{with_front}
use Rattle.column_file.specs.Lent.{owned}
use Rattle.column_file.specs.Reading.{number_cell_at, numbers_at}
use Rattle.column_file.proofs.columns.read_numbers.Given as goal

abbrev pub invariant-loop-null : goal.invariant-loop-null
invariant-loop-null l = record {
  so_far : with_front (map owned l.values.items) (each_at (λ before null. number_cell_at null) None (drop l.null-index l.flags) l.next (drop l.next l.bytes)) ≡ numbers_at l.flags l.at (drop l.at l.bytes);
  within : l.next ≤ length l.bytes;
}
