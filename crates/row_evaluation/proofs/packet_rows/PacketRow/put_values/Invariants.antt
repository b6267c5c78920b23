use Rattle.std.proofs.Common.{◌≡◌, ◌++◌, drop}
use Rattle.row_evaluation.proofs.packet_rows.PacketRow.put_values.Given as goal

abbrev pub invariant-loop-value : goal.invariant-loop-value
invariant-loop-value l = l.values.items ++ drop l.value-index l.self ≡ l.fn.values.items ++ l.self
