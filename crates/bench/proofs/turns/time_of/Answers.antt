use Rattle.std.proofs.Common.{sym, subst}
use Rattle.turnstile.specs.Sessions.{IsOneOf}
use Rattle.turnstile.proofs.Sessions.{sixteen_has}
use Rattle.bench.specs.Takers.{no_room}
use Rattle.bench.proofs.turns.time_of.Goals as goal

pub takers-requires-clause-sessions : goal.takers-requires-clause-sessions
takers-requires-clause-sessions g c = record {
  each = λ s low high.
      subst (λ l. IsOneOf l s) (sym c.in-Ok.ensures.sessions)
      (sixteen_has no_room c.new.new.value s low high);
}
