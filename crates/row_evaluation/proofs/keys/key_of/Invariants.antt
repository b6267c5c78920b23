use Rattle.std.proofs.Common.{◌≡◌, ◌++◌, drop}
use Rattle.sql_model.specs.Groups as spec
use Rattle.row_evaluation.proofs.keys.key_of.Given as goal

abbrev pub invariant-loop-column : goal.invariant-loop-column
invariant-loop-column g l =
    let row = g.C.Cells.cells l.cells in
    l.key.items ++ spec.key_of (drop l.column-index l.columns) row ≡ spec.key_of l.columns row
