use Rattle.std.proofs.Common.{◌∙◌, sym}
use Rattle.sql_model.specs.Evaluation as spec
use Rattle.row_evaluation.specs.Conditions.{is_guard}
use Rattle.row_evaluation.proofs.Loops.{all_past, all_here}
use Rattle.row_evaluation.proofs.conditions.meets_guards.Goals as goal

pub loop-guard-preserved : goal.loop-guard-preserved
loop-guard-preserved g c =
    let row = g.C.Cells.cells c.args.cells.now in
    let guard = all_here is_guard c.args.guards.now c.loop-guard.guard-index c.guard-item.result c.loop-guard-test.true c.guard-item.is c.loop-guard.invariant.1 in (
      all_past (λ e. spec.holds e row) c.args.guards.now c.loop-guard.guard-index c.guard-item.result c.loop-guard-test.true c.guard-item.is (sym c.if-not-guard_holds.ensures) ∙ c.loop-guard.invariant.0,
      all_past is_guard c.args.guards.now c.loop-guard.guard-index c.guard-item.result c.loop-guard-test.true c.guard-item.is guard ∙ c.loop-guard.invariant.1,
    )
