use Rattle.std.proofs.Common.{◌≡◌, ◌++◌, drop, map}
use Rattle.std.specs.List.{list_all}
use Rattle.sql_model.specs.Evaluation as spec
use Rattle.plain_query.proofs.answers.project.Given as goal

abbrev pub invariant-loop-row : goal.invariant-loop-row
invariant-loop-row g l =
    let cells = g.C.Cells.cells in
    record {
      made : l.made.items ++ map (spec.evaluated l.items) (map cells (drop l.row-index l.rows)) ≡ map (spec.evaluated l.items) (map cells l.rows);
      fits : list_all (spec.all_fit l.items) (map cells (drop l.row-index l.rows)) ≡ list_all (spec.all_fit l.items) (map cells l.rows);
    }
