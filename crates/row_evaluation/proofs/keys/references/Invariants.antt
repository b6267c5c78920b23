use Rattle.std.proofs.Common.{◌≡◌, ◌++◌, map, drop}
use Rattle.row_evaluation.proofs.keys.references.Given as goal

abbrev pub invariant-loop-row : goal.invariant-loop-row
invariant-loop-row g l = map (λ row. g.C.Cells.cells row.now) l.references.items ++ map g.C.Cells.cells (drop l.row-index l.rows) ≡ map g.C.Cells.cells l.rows
