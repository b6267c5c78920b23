use Rattle.std.proofs.Common.{◌≡◌, drop}
use Rattle.lake_values.specs.Order.{row_cmp}
use Rattle.sql_model.specs.Groups as spec
use Rattle.plain_query.proofs.groups.compare_keys.Given as goal

abbrev pub invariant-loop-column : goal.invariant-loop-column
invariant-loop-column g l =
    let a = g.C.Cells.cells l.a in
    let b = g.C.Cells.cells l.b in
    let rest = drop l.column-index l.columns in
    row_cmp (spec.key_of rest a) (spec.key_of rest b) ≡ row_cmp (spec.key_of l.columns a) (spec.key_of l.columns b)
