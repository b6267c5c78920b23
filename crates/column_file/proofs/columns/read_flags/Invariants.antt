use Rattle.std.proofs.Common.{◌≡◌, ◌≤◌, length, drop, replicate, None}
use Rattle.lake_values.specs.Reading.{each_at}
use Rattle.lake_values.proofs.Loops.{with_front}
use Rattle.column_file.specs.Reading.{flag_at, flags_at}
use Rattle.column_file.proofs.columns.read_flags.Given as goal

abbrev pub invariant-loop : goal.invariant-loop
invariant-loop l = record {
  so_far : with_front l.flags.items (each_at (λ before place. flag_at) None (drop l.counter (replicate l.rows (tt {0}))) l.next (drop l.next l.bytes)) ≡ flags_at l.rows l.at (drop l.at l.bytes);
  within : l.next ≤ length l.bytes;
}
