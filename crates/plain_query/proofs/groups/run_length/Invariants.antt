use Rattle.std.proofs.Common.{◌≡◌, ◌+◌, map, drop}
use Rattle.std.specs.List.{position_or_len}
use Rattle.plain_query.specs.Keys.{differ_in}
use Rattle.plain_query.proofs.groups.run_length.Given as goal

abbrev pub invariant-loop-place : goal.invariant-loop-place
invariant-loop-place g l =
    let rest = map g.C.Cells.cells (drop l.place l.rows) in
    let rows = map g.C.Cells.cells l.rows in
    let first = g.C.Cells.cells l.first in
    l.place + position_or_len (differ_in l.keys first) rest ≡ position_or_len (differ_in l.keys first) rows
