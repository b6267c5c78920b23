use Rattle.std.proofs.Common.{◌≡◌, ◌++◌, drop}
use Rattle.op_rows.proofs.orders.packet_of.Given as goal

abbrev pub invariant-loop-row : goal.invariant-loop-row
invariant-loop-row l = record {
  same_width : l.packet.width ≡ l.width;
  copied : l.packet.rows ++ drop l.row-index l.rows ≡ l.rows;
}
