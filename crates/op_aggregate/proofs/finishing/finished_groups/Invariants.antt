use Rattle.std.proofs.Common.{◌≡◌, ◌+◌, ◌++◌, map, drop, length}
use Rattle.std.specs.List.{list_all}
use Rattle.op_aggregate.specs.Fits.{group_fits}
use Rattle.op_aggregate.specs.Grouping.{first_key}
use Rattle.op_aggregate.specs.Partials.{finals}
use Rattle.op_aggregate.proofs.finishing.finished_groups.Given as goal

abbrev pub invariant-loop-group : goal.invariant-loop-group
invariant-loop-group g l =
    let rest = drop l.group-index l.groups in
    record {
      same_width : l.made.width ≡ length l.columns + length l.aggs;
      made : l.made.rows ++ map (λ group. first_key l.columns (map (λ row. g.C.Cells.cells row.now) group.items) ++ finals l.aggs (map (drop (length l.columns)) (map (λ row. g.C.Cells.cells row.now) group.items))) rest
          ≡ map (λ group. first_key l.columns (map (λ row. g.C.Cells.cells row.now) group.items) ++ finals l.aggs (map (drop (length l.columns)) (map (λ row. g.C.Cells.cells row.now) group.items))) l.groups;
      fits : list_all (λ group. group_fits l.aggs (map (drop (length l.columns)) (map (λ row. g.C.Cells.cells row.now) group.items))) rest ≡ list_all (λ group. group_fits l.aggs (map (drop (length l.columns)) (map (λ row. g.C.Cells.cells row.now) group.items))) l.groups;
    }
