use Rattle.std.proofs.Common.{◌≡◌, ◌++◌, drop, filter}
use Rattle.std.specs.List.{list_all}
use Rattle.sql_model.specs.Writing.{is_matched, condition_fits}
use Rattle.op_rows.proofs.filters.filter.Given as goal

abbrev pub invariant-loop-place : goal.invariant-loop-place
invariant-loop-place l =
    let rows = l.packet.rows in
    let matched = is_matched l.guards l.computed in
    let fits = condition_fits l.guards l.computed in
    record {
      same_width : l.kept.width ≡ l.packet.width;
      kept : l.kept.rows ++ filter matched (drop l.place rows) ≡ filter matched rows;
      fits : list_all fits (drop l.place rows) ≡ list_all fits rows;
    }
