use Rattle.std.proofs.Common.{◌≡◌, ◌++◌, drop}
use Rattle.sql_model.specs.Evaluation as spec
use Rattle.row_evaluation.proofs.rows.evaluated.Given as goal

abbrev pub invariant-loop-item : goal.invariant-loop-item
invariant-loop-item g l =
    let row = g.C.Cells.cells l.cells in
    (l.values.items ++ spec.evaluated (drop l.item-index l.items) row ≡ spec.evaluated l.items row)
    × (spec.all_fit (drop l.item-index l.items) row ≡ spec.all_fit l.items row)
