use Rattle.std.proofs.Common.{◌≡◌, ◌++◌, drop, map, filter}
use Rattle.std.specs.List.{list_all}
use Rattle.sql_model.specs.Evaluation as spec
use Rattle.plain_query.specs.Lists.{all_lent}
use Rattle.plain_query.proofs.answers.keep.Given as goal

abbrev pub invariant-loop-row : goal.invariant-loop-row
invariant-loop-row g l =
    let cells = g.C.Cells.cells in
    record {
      kept : all_lent cells l.kept.items ++ filter (spec.meets l.conditions) (map cells (drop l.row-index l.rows)) ≡ filter (spec.meets l.conditions) (map cells l.rows);
      fits : list_all (spec.all_fit l.conditions) (map cells (drop l.row-index l.rows)) ≡ list_all (spec.all_fit l.conditions) (map cells l.rows);
    }
