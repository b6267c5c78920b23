use Rattle.std.proofs.Common.{All, arith, subst, sym, ◌∙◌}
use Rattle.std.proofs.lemmas.Grind.{common_steps}
use Rattle.std.proofs.lemmas.List.Elements.{All-push}
use Rattle.sharing_tests.specs.Writers.{IsNewWriter}
use Rattle.sharing_tests.proofs.turn_tests.writers.Goals as goal

pub loop-session-preserved : goal.loop-session-preserved
loop-session-preserved c =
    let made = c.new_writer.ensures in
    let before = c.loop-session.invariant in (
      made.pass,
      omega (arith, made.left, before.1),
      made.taken ∙ before.2,
      made.sessions,
      grind (arith, common_steps),
      subst (All (λ w. IsNewWriter c.args.turnstile.now w.pass w.session))
          (sym c.in_ok-push.ensures.items)
          (All-push (λ w. IsNewWriter c.args.turnstile.now w.pass w.session) _ _ before.5
          made.writer),
    )
