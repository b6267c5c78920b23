use Rattle.std.proofs.Common.{◌≡◌, take}
use Rattle.row_packet.specs.Packets.{rows_of_all}
use Rattle.row_packet.proofs.packets.join_all.Given as goal

abbrev pub invariant-loop-part : goal.invariant-loop-part
invariant-loop-part l = (l.joined.width ≡ l.width) × (l.joined.rows ≡ rows_of_all (take l.part-index l.parts.items))
