use Rattle.std.proofs.Common.{◌≡◌, ◌≤◌, length, map, drop, None}
use Rattle.lake_values.specs.Reading.{each_at}
use Rattle.lake_values.proofs.Loops.{with_front}
use Rattle.column_file.specs.Lent.{owned}
use Rattle.column_file.specs.Reading.{piece_at, pieces_at, pieces_from}
use Rattle.column_file.proofs.columns.read_pieces.Given as goal

abbrev pub invariant-loop-i : goal.invariant-loop-i
invariant-loop-i l = record {
  so_far : with_front (map owned l.values.items) (each_at (λ before piece. piece_at piece) None (pieces_from l.before (drop l.i l.flags) (drop l.i l.ends)) l.next (drop l.next l.bytes)) ≡ pieces_at l.flags l.ends l.at (drop l.at l.bytes);
  within : l.next ≤ length l.bytes;
}
