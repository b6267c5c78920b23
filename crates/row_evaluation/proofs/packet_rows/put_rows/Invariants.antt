use Rattle.std.proofs.Common.{◌≡◌, ◌++◌, drop}
use Rattle.row_evaluation.proofs.packet_rows.put_rows.Given as goal

abbrev pub invariant-loop-place : goal.invariant-loop-place
invariant-loop-place l = l.rows.items ++ drop l.place l.packet.rows ≡ l.fn.rows.items ++ l.packet.rows
