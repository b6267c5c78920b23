use Rattle.std.proofs.Common.{◌≡◌, ◌+◌, ◌≤◌, map, drop}
use Rattle.sql_model.specs.Groups as spec
use Rattle.row_evaluation.specs.Aggregates.{counted}
use Rattle.row_evaluation.proofs.aggregates.count_of.Given as goal

abbrev pub invariant-loop-row : goal.invariant-loop-row
invariant-loop-row g l =
    let rows = map g.C.Cells.cells l.rows in
    let rest = map g.C.Cells.cells (drop l.row-index l.rows) in
    (l.count ≤ l.row-index)
    × (l.count + counted (spec.values_on l.argument rest) ≡ counted (spec.values_on l.argument rows))
    × (spec.argument_fits rest l.argument ≡ spec.argument_fits rows l.argument)
