use Rattle.std.proofs.Common.{◌≡◌, ◌≤◌, length, drop, replicate}
use Rattle.lake_values.proofs.Loops.{with_front}
use Rattle.lake_values.specs.Reading.{each_at}
use Rattle.deletion_vector.specs.Spelling.{position_at, positions_at}
use Rattle.deletion_vector.proofs.read.read_positions.Given as goal

abbrev pub invariant-loop : goal.invariant-loop
invariant-loop l = record {
  so_far : with_front l.positions.items (each_at position_at l.before (drop l.counter (replicate l.count tt)) l.next (drop l.next l.bytes)) ≡ positions_at l.count l.at (drop l.at l.bytes);
  within : l.next ≤ length l.bytes;
}
