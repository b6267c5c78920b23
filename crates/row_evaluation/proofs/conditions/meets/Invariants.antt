use Rattle.std.proofs.Common.{◌≡◌, drop}
use Rattle.std.specs.Prelude.{◌&&◌}
use Rattle.sql_model.specs.Evaluation as spec
use Rattle.row_evaluation.proofs.conditions.meets.Given as goal

abbrev pub invariant-loop-condition : goal.invariant-loop-condition
invariant-loop-condition g l =
    let row = g.C.Cells.cells l.cells in
    (l.met && spec.meets (drop l.condition-index l.conditions) row ≡ spec.meets l.conditions row)
    × (spec.all_fit (drop l.condition-index l.conditions) row ≡ spec.all_fit l.conditions row)
