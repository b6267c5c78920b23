use Rattle.std.proofs.Common.{◌≡◌, ◌++◌, drop, map, length}
use Rattle.std.specs.List.{list_all}
use Rattle.sql_model.specs.Evaluation.{all_fit, evaluated}
use Rattle.op_rows.proofs.projections.project.Given as goal

abbrev pub invariant-loop-place : goal.invariant-loop-place
invariant-loop-place l =
    let rows = l.packet.rows in
    record {
      same_width : l.made.width ≡ length l.items;
      made : l.made.rows ++ map (evaluated l.items) (drop l.place rows) ≡ map (evaluated l.items) rows;
      fits : list_all (all_fit l.items) (drop l.place rows) ≡ list_all (all_fit l.items) rows;
    }
