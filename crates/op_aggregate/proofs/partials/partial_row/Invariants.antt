use Rattle.std.proofs.Common.{◌≡◌, ◌++◌, map, drop}
use Rattle.std.specs.List.{flat_map}
use Rattle.op_aggregate.specs.Fits.{arguments_fit}
use Rattle.op_aggregate.specs.Grouping.{first_key}
use Rattle.op_aggregate.specs.Partials.{kept}
use Rattle.op_aggregate.proofs.partials.partial_row.Given as goal

abbrev pub invariant-loop-agg : goal.invariant-loop-agg
invariant-loop-agg g l =
    let rows = map g.C.Cells.cells l.group in
    let rest = drop l.agg-index l.aggs in
    record {
      made : l.values.items ++ flat_map (kept rows) rest ≡ first_key l.keys rows ++ flat_map (kept rows) l.aggs;
      fits : arguments_fit rest rows ≡ arguments_fit l.aggs rows;
    }
