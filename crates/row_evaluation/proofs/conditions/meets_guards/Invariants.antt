use Rattle.std.proofs.Common.{◌≡◌, true, drop}
use Rattle.std.specs.List.{list_all}
use Rattle.sql_model.specs.Evaluation as spec
use Rattle.row_evaluation.specs.Conditions.{is_guard}
use Rattle.row_evaluation.proofs.conditions.meets_guards.Given as goal

abbrev pub invariant-loop-guard : goal.invariant-loop-guard
invariant-loop-guard g l =
    let row = g.C.Cells.cells l.cells in
    (spec.meets (drop l.guard-index l.guards) row ≡ spec.meets l.guards row)
    × (list_all is_guard (drop l.guard-index l.guards) ≡ true)
