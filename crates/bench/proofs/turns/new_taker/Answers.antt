use Rattle.std.proofs.Common.{arith, sym, subst}
use Rattle.turnstile.specs.Sessions.{IsOneOf}
use Rattle.turnstile.proofs.Sessions.{others_stay}
use Rattle.bench.proofs.turns.new_taker.Goals as goal

pub returns-clause-sessions : goal.returns-clause-sessions
returns-clause-sessions c = record {
  each = λ s low high.
      let had = c.requires.session.each s (omega arith) high in
      subst (λ l. IsOneOf l s) (sym c.split-pass.ensures.sessions)
      (others_stay _ c.args.session s (λ e. omega arith) had);
}
