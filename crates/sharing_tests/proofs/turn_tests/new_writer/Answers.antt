use Rattle.std.proofs.Common.{arith, sym, subst}
use Rattle.turnstile.specs.Passes.{sessions}
use Rattle.turnstile.specs.Sessions.{IsOneOf, only}
use Rattle.turnstile.proofs.Sessions.{only_goes, others_stay}
use Rattle.sharing_tests.proofs.turn_tests.new_writer.Goals as goal

pub returns-clause-sessions : goal.returns-clause-sessions
returns-clause-sessions c = record {
  each = λ s low high.
      let had = c.requires.session.each s (omega arith) high in
      subst (λ l. IsOneOf l s) (sym c.split-pass.ensures.sessions)
      (others_stay _ c.args.session s (λ e. omega arith) had);
}

pub returns-clause-writer : goal.returns-clause-writer
returns-clause-writer c =
    let made = c.split-pass.ensures in record {
      writer = record {
        resting = record { pass = made.new_pass; idle = made.new_idle };
        turns = omega (arith, made.new_left, made.new_taken);
        session = λ n is.
            let had = c.requires.session.each n (omega arith) (omega (arith, c.requires.number)) in
            subst (λ l. IsOneOf l n) (sym made.new_sessions)
            (subst (λ k. IsOneOf (only k (sessions c.args.pass.now)) n) is (only_goes _ n had));
      };
      left = made.new_left;
    }
