use Rattle.std.proofs.Common.{All, arith, subst}
use Rattle.std.proofs.lemmas.Grind.{common_steps}
use Rattle.std.proofs.lemmas.List.Elements.{All-tail}
use Rattle.sharing_tests.specs.Writers.{IsWriter}
use Rattle.sharing_tests.proofs.turn_tests.gather.Goals as goal

pub loop-writer-preserved : goal.loop-writer-preserved
loop-writer-preserved c =
    let t = c.args.turnstile.now in
    let before = c.loop-writer.invariant in
    let split = c.in-Some.ensures.steps.0 in (
      c.take_in.ensures.pass,
      grind (arith, common_steps, c.take_in.ensures.turns),
      All-tail (λ w. IsWriter t w.pass w.session) c.in-Some.writer _
          (subst (All (λ w. IsWriter t w.pass w.session)) split before.2),
    )
