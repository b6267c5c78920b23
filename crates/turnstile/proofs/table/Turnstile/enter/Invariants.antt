use Rattle.std.proofs.Common.{◌≡◌, []}
use Rattle.turnstile.specs.Views.{waiting}
use Rattle.turnstile.specs.Passes.{IsPassOf}
use Rattle.turnstile.proofs.table.Turnstile.enter.Given as goal

abbrev pub invariant-loop : goal.invariant-loop
invariant-loop g l = IsPassOf l.self l.pass
    × (l.pass.seat.me ≡ (waiting l.fn.pass.seat.me.0 l.ticket, []))
