use Rattle.std.proofs.Common.{sym, subst}
use Rattle.turnstile.specs.Sessions.{IsOneOf}
use Rattle.turnstile.proofs.Sessions.{sixteen_has}
use Rattle.sharing_tests.specs.Writers.{no_room}
use Rattle.sharing_tests.proofs.turn_tests.each_line_stands_once_at_its_place.Goals as goal

pub writers-requires-clause-sessions : goal.writers-requires-clause-sessions
writers-requires-clause-sessions g c = record {
  each = λ s low high.
      subst (λ l. IsOneOf l s) (sym c.in-Ok.ensures.sessions)
      (sixteen_has no_room c.args.rt s low high);
}
