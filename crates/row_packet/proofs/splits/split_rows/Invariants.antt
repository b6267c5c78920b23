use Rattle.std.proofs.Common.{◌≡◌, take}
use Rattle.row_packet.specs.Packets.{cells_of}
use Rattle.row_packet.proofs.splits.split_rows.Given as goal

abbrev pub invariant-loop-row : goal.invariant-loop-row
invariant-loop-row l = l.parts.items ≡ cells_of l.column (record { width = l.width; rows = take l.row-index l.rows })
