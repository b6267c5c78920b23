use Rattle.std.proofs.Common.{◌∙◌, ◌++◌, ap, sym, List}
use Rattle.std.proofs.lemmas.List.{length-append}
use Rattle.sql_model.specs.declared.changes.Mark.{Mark}
use Rattle.sql_model.specs.Units.{share_unit, units_of_marks}
use Rattle.lake_core.specs.declared.rows.CatRow.{CatRow}
use Rattle.lake_core.specs.Rooms.{rows_share}
use Rattle.lake_core.proofs.RoomLemmas.{both_write, names_all}
use Rattle.lake_core.proofs.transactions.Room.of.Goals as goal

pub returns : goal.returns
returns c =
    let removed = c.args.removed.now in
    let more = c.args.more.now in
    let marks = both_write (share_unit (units_of_marks c.empty-marks.result)) (share_unit (units_of_marks c.put_tables.new.marks)) (share_unit (units_of_marks c.put_tables-2.new.marks)) removed more
    (λ us. ap (λ (ms : List Mark). share_unit (units_of_marks ms) us) c.empty-marks.ensures) c.in_ok-put_tables.ensures c.in_ok-put_tables-2.ensures in
    record {
      used = c.in_ok-used.ensures.len ∙ c.in-Some.ensures.1 ∙ sym (length-append removed more);
      names = names_all c.put_tables-2.new.marks (removed ++ more) marks;
      marks = marks;
      rows = both_write (rows_share c.new-rows.result.items) (rows_share c.put_marks.new.rows.items) (rows_share c.put_marks-2.new.rows.items) removed more
          (λ us. ap (λ (rs : List CatRow). rows_share rs us) c.new-rows.ensures.items) c.in_ok-put_marks.ensures c.in_ok-put_marks-2.ensures;
    }
