use Rattle.std.proofs.Common.{◌≡◌, ◌≤◌, ◌+◌, ◌*◌, All}
use Rattle.turnstile.specs.Passes.{turns_left}
use Rattle.bench.specs.Takers.{HasSessionsFrom, IsTaker}
use Rattle.bench.proofs.turns.takers.Given as goal

abbrev pub invariant-loop-session : goal.invariant-loop-session
invariant-loop-session l = IsTaker l.turnstile l.pass (turns_left l.pass)
    × (turns_left l.pass + l.session * l.turns ≡ l.threads * l.turns + l.turns)
    × HasSessionsFrom l.session l.pass
    × All (λ t. IsTaker l.turnstile t.pass t.turns) l.takers.items
