use Rattle.std.proofs.Common.{◌≡◌, ◌++◌, drop}
use Rattle.row_packet.specs.Packets.{rows_of_all}
use Rattle.op_aggregate.proofs.finishing.rows_of_parts.Given as goal

abbrev pub invariant-loop-part : goal.invariant-loop-part
invariant-loop-part l = l.rows.items ++ rows_of_all (drop l.part-index l.parts) ≡ rows_of_all l.parts
