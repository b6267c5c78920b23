use Rattle.std.proofs.Common.{◌≡◌}
use Rattle.operator_tests.proofs.group_tests.part.Given as goal

abbrev pub invariant-loop : goal.invariant-loop
invariant-loop l = l.part.width ≡ 3
