use Rattle.std.proofs.Common.{◌≡◌, ◌≤◌, length, drop}
use Rattle.lake_values.specs.Reading.{each_at}
use Rattle.lake_values.proofs.Loops.{with_front}
use Rattle.column_file.specs.Reading.{text_end_at, ends_at}
use Rattle.column_file.proofs.columns.read_ends.Given as goal

abbrev pub invariant-loop-null : goal.invariant-loop-null
invariant-loop-null l = record {
  so_far : with_front l.ends.items (each_at text_end_at l.before (drop l.null-index l.flags) l.next (drop l.next l.bytes)) ≡ ends_at l.flags l.at (drop l.at l.bytes);
  within : l.next ≤ length l.bytes;
  count : length l.ends.items ≡ l.null-index;
}
