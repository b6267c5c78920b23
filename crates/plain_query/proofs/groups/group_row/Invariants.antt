use Rattle.std.proofs.Common.{◌≡◌, ◌++◌, map, drop}
use Rattle.std.specs.List.{list_all}
use Rattle.sql_model.specs.Groups as spec
use Rattle.plain_query.proofs.groups.group_row.Given as goal

abbrev pub invariant-loop-agg : goal.invariant-loop-agg
invariant-loop-agg g l =
    let rows = map g.C.Cells.cells l.rows in
    let rest = drop l.agg-index l.aggs in
    (l.values.items ++ map (spec.aggregate rows) rest ≡ spec.group_row l.aggs l.fn.key.items rows)
    × (list_all (spec.aggregate_fits rows) rest ≡ list_all (spec.aggregate_fits rows) l.aggs)
