use Rattle.std.proofs.Common.{◌≡◌, ◌∙◌, ap, sym, arith, ◌+◌, [], ◌∷◌, ◌++◌, length, length-append}
use Rattle.sql_parser.specs.Grammar.{steps_from, step_of}
use Rattle.sql_parser.proofs.Numbering.{steps_from-append}
use Rattle.sql_parser.proofs.scripts.steps_of.Goals as goal

pub loop-line-preserved : goal.loop-line-preserved
loop-line-preserved c =
    let before = c.loop-line.yielded in
    let x = c.in-Some.line in
    let next : c.loop-line.place + 1 ≡ 1 + length before = omega arith in (
      omega (arith, length-append before (x ∷ [])),
      c.in_ok-push.ensures.items ∙ ap (λ steps. steps ++ step_of (c.loop-line.place + 1) x ∷ []) c.loop-line.invariant.1
          ∙ ap (λ place. steps_from 1 before ++ step_of place x ∷ []) next ∙ sym (steps_from-append 1 before x),
    )
