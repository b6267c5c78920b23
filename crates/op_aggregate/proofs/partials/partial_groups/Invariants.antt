use Rattle.std.proofs.Common.{◌≡◌, ◌+◌, ◌++◌, map, drop, length}
use Rattle.std.specs.List.{list_all, flat_map}
use Rattle.op_aggregate.specs.Fits.{arguments_fit}
use Rattle.op_aggregate.specs.Grouping.{first_key}
use Rattle.op_aggregate.specs.Partials.{kept, kept_width}
use Rattle.op_aggregate.proofs.partials.partial_groups.Given as goal

abbrev pub invariant-loop-group : goal.invariant-loop-group
invariant-loop-group g l =
    let rest = drop l.group-index l.groups in
    record {
      same_width : l.made.width ≡ length l.keys + kept_width l.aggs;
      made : l.made.rows ++ map (λ group. first_key l.keys (map (λ row. g.C.Cells.cells row.now) group.items) ++ flat_map (kept (map (λ row. g.C.Cells.cells row.now) group.items)) l.aggs) rest ≡ map (λ group. first_key l.keys (map (λ row. g.C.Cells.cells row.now) group.items) ++ flat_map (kept (map (λ row. g.C.Cells.cells row.now) group.items)) l.aggs) l.groups;
      fits : list_all (λ group. arguments_fit l.aggs (map (λ row. g.C.Cells.cells row.now) group.items)) rest ≡ list_all (λ group. arguments_fit l.aggs (map (λ row. g.C.Cells.cells row.now) group.items)) l.groups;
    }
