use Rattle.std.proofs.Common.{◌≡◌, ◌+◌, ◌++◌, ◌<◌, ◌^◌, map, drop, length}
use Rattle.op_aggregate.specs.Fits.{group_fits}
use Rattle.op_aggregate.specs.Grouping.{first_key}
use Rattle.op_aggregate.specs.Partials.{finals, kept_width}
use Rattle.op_aggregate.proofs.finishing.finished_row.Given as goal

abbrev pub invariant-loop-agg : goal.invariant-loop-agg
invariant-loop-agg g l =
    let rows = map g.C.Cells.cells l.group in
    let rest = drop l.agg-index l.aggs in
    let all = map (drop (length l.columns)) rows in
    let left = map (drop l.place) rows in
    record {
      made : l.values.items ++ finals rest left ≡ first_key l.columns rows ++ finals l.aggs all;
      fits : group_fits rest left ≡ group_fits l.aggs all;
      place : l.place + kept_width rest < 2 ^ 32;
    }
