use Rattle.std.proofs.Common.{◌≡◌}
use Rattle.format_tests.proofs.packet_tests.column_of.Given as goal

abbrev pub invariant-loop-value : goal.invariant-loop-value
invariant-loop-value l = l.packet.width ≡ 1
