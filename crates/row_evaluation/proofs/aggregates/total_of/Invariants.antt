use Rattle.std.proofs.Common.{◌≡◌, ◌*◌, ◌^◌, ◌≤ℤ◌, ◌+ℤ◌, pos, map, drop}
use Rattle.lake_values.specs.Order.{number_of}
use Rattle.sql_model.specs.Groups as spec
use Rattle.row_evaluation.specs.Aggregates.{totalled, IsShortTotal}
use Rattle.row_evaluation.proofs.aggregates.total_of.Given as goal

abbrev pub invariant-loop-row : goal.invariant-loop-row
invariant-loop-row g l =
    let rows = map g.C.Cells.cells l.rows in
    let rest = map g.C.Cells.cells (drop l.row-index l.rows) in
    let op = spec.sum_of_both in
    let total = totalled l.total in
    IsShortTotal l.total
    × (number_of total ≤ℤ pos (l.row-index * 2 ^ 63))
    × (pos 0 ≤ℤ (number_of total +ℤ pos (l.row-index * 2 ^ 63)))
    × (spec.joined_by op total (spec.summary op (spec.values_on l.argument rest)) ≡ spec.summary op (spec.values_on l.argument rows))
    × (spec.argument_fits rest l.argument ≡ spec.argument_fits rows l.argument)
