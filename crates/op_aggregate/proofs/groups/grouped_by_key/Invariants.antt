use Rattle.std.proofs.Common.{map, take}
use Rattle.op_aggregate.proofs.Gathering.{AreGathered}
use Rattle.op_aggregate.proofs.groups.grouped_by_key.Given as goal

abbrev pub invariant-loop-row : goal.invariant-loop-row
invariant-loop-row g l =
    AreGathered l.columns (map g.C.Cells.cells (take l.row-index l.rows)) (map (λ k. k.items) l.spellings.keys) (map (λ group. map (λ row. g.C.Cells.cells row.now) group.items) l.groups.items)
