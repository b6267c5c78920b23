use Rattle.std.proofs.Common.{◌≡◌, [], replicate}
use Rattle.row_packet.proofs.splits.empty_packets.Given as goal

abbrev pub invariant-loop : goal.invariant-loop
invariant-loop l = l.packets.items ≡ replicate l.counter (record { width = l.width; rows = [] })
