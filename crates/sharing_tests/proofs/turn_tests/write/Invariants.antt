use Rattle.std.proofs.Common.{◌≡◌, ◌+◌}
use Rattle.turnstile.specs.Passes.{turns_left}
use Rattle.sharing_tests.specs.Writers.{IsWriter}
use Rattle.sharing_tests.proofs.turn_tests.write.Given as goal

abbrev pub invariant-loop-turn : goal.invariant-loop-turn
invariant-loop-turn g l = IsWriter l.turnstile l.writer.pass l.writer.session
    × (turns_left l.writer.pass + l.turn ≡ 1000)
