use Rattle.std.proofs.Common.{◌≡◌, ◌+◌, ◌*◌, length, All}
use Rattle.turnstile.specs.Passes.{turns_left, turns_taken}
use Rattle.sharing_tests.specs.Writers.{HasSessionsFrom, IsNewWriter, IsResting}
use Rattle.sharing_tests.proofs.turn_tests.writers.Given as goal

abbrev pub invariant-loop-session : goal.invariant-loop-session
invariant-loop-session l = IsResting l.turnstile l.pass
    × (turns_left l.pass + l.session * 1000 ≡ 17000) × (turns_taken l.pass ≡ 0)
    × HasSessionsFrom l.session l.pass × (length l.writers.items + 1 ≡ l.session)
    × All (λ w. IsNewWriter l.turnstile w.pass w.session) l.writers.items
