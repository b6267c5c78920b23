use Rattle.std.proofs.Common.{Some, sym, ap, ◌∙◌}
use Rattle.lake_outside.specs.Plans.{later}
use Rattle.lake_outside.proofs.LastMove.{last_before-counted, last_before-kept}
use Rattle.lake_outside.proofs.plans.PoolPlan.last_before.Goals as goal
use Rattle.lake_outside.proofs.plans.PoolPlan.last_before.Goals.{then-is_move_before, else-is_move_before}

pub loop-found-preserved : goal.loop-found-preserved
loop-found-preserved c =
    let here = c.loop-found-test.true in
    let told = c.is_move_before.ensures in
    elim c.if-is_move_before.branch [
      | then-is_move_before w ↦ w.last-is ∙ ap Some (w.later.ensures ∙ ap (later _) c.loop-found.invariant) ∙ sym (last_before-counted _ _ _ _ _ _ _ here told w.if-is_move_before.true)
      | else-is_move_before w ↦ w.last-is ∙ c.loop-found.invariant ∙ sym (last_before-kept _ _ _ _ _ _ _ here told w.if-is_move_before.false)
    ]
