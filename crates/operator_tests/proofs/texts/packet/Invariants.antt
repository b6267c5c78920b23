use Rattle.std.proofs.Common.{◌≡◌}
use Rattle.operator_tests.proofs.texts.packet.Given as goal

abbrev pub invariant-loop-line : goal.invariant-loop-line
invariant-loop-line l = l.packet.width ≡ 2
