use Rattle.std.proofs.Common.{◌≡◌, map, drop}
use Rattle.sql_model.specs.Groups as spec
use Rattle.row_evaluation.specs.Aggregates.{kept_by}
use Rattle.lake_values.specs.Lending.{owned, IsShort}
use Rattle.row_evaluation.proofs.aggregates.extreme_of.Given as goal

abbrev pub invariant-loop-row : goal.invariant-loop-row
invariant-loop-row g l =
    let rows = map g.C.Cells.cells l.rows in
    let rest = map g.C.Cells.cells (drop l.row-index l.rows) in
    let op = kept_by l.extreme in
    IsShort l.kept
    × (spec.joined_by op (owned l.kept) (spec.summary op (spec.values_on l.argument rest)) ≡ spec.summary op (spec.values_on l.argument rows))
    × (spec.argument_fits rest l.argument ≡ spec.argument_fits rows l.argument)
