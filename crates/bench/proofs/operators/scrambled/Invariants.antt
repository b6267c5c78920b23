use Rattle.std.proofs.Common.{◌≡◌}
use Rattle.bench.proofs.operators.scrambled.Given as goal

abbrev pub invariant-loop-number : goal.invariant-loop-number
invariant-loop-number l = l.packet.width ≡ 2
