use Rattle.std.proofs.Common.{◌≡◌, ◌+◌}
use Rattle.turnstile.specs.Passes.{turns_left}
use Rattle.bench.specs.Takers.{IsTaker}
use Rattle.bench.proofs.turns.take_turns.Given as goal

abbrev pub invariant-loop-turn : goal.invariant-loop-turn
invariant-loop-turn g l = IsTaker l.turnstile l.pass (turns_left l.pass)
    × (turns_left l.pass + l._turn ≡ l.turns)
