use Rattle.std.proofs.Common.{◌≡◌, ◌++◌, map, length}
use Rattle.sql_model.specs.Groups as spec
use Rattle.plain_query.proofs.Runs.{KeysRise}
use Rattle.plain_query.proofs.groups.groups_of_sorted.Given as goal

abbrev pub invariant-loop-first : goal.invariant-loop-first
invariant-loop-first g l =
    let rest = map g.C.Cells.cells l.rest in
    let rows = map g.C.Cells.cells l.rows in
    (l.made.items ++ spec.groups l.keys l.aggs rest ≡ spec.groups l.keys l.aggs rows)
    × (spec.groups_fit l.keys l.aggs rest ≡ spec.groups_fit l.keys l.aggs rows)
    × KeysRise l.keys rest

abbrev pub decreases-loop-first : goal.decreases-loop-first
decreases-loop-first g l = length l.rest
