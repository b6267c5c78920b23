use Rattle.std.proofs.Common.{◌≡◌, ◌∙◌, ◌-◌, Some, List, map, ap, sym, length}
use Rattle.std.specs.Prelude.{slice_get}
use Rattle.std.specs.Option.{option_copied}
use Rattle.std.proofs.lemmas.Result.{on_ok_weaker}
use Rattle.sql_model.specs.declared.changes.Mark.{Mark}
use Rattle.sql_model.specs.Units.{share_unit, whole_table}
use Rattle.lake_core.specs.declared.rows.CatRow.{CatRow}
use Rattle.lake_core.proofs.RoomLemmas.{is_written, more_write, there_write}
use Rattle.lake_core.proofs.rooms.add_mark.Goals as goal
use Rattle.lake_core.proofs.rooms.add_mark.Goals.{in_default-via-in-Some+else-are_equal, in_default-via-in_default}

pub returns-in-Some : goal.returns-in-Some
returns-in-Some c = λ us.
    let last = length c.as_slice.result.now - 1 in
    let there : slice_get c.args.row.now.marks last ≡ Some c.in-Some.last.now =
    ap (λ (ms : List Mark). slice_get ms last) (sym c.as_slice.ensures) ∙ sym c.last.ensures.value ∙ ap option_copied c.in-Some.is in
    there_write c.args.row.now.table c.args.row.now.marks last c.in-Some.last.now there us

pub returns-in_ok-copy-in_default : goal.returns-in_ok-copy-in_default
returns-in_ok-copy-in_default c =
    let same : c.in_default.row ≡ c.args.row.now = elim c.in_default.branch [
      | in_default-via-in-Some+else-are_equal w ↦ w.row-is
      | in_default-via-in_default w ↦ w.row-is
    ] in
    on_ok_weaker c.push.result
    (λ pushed us.
    ap (λ (ms : List Mark). share_unit (map (λ (m : Mark). whole_table c.in_default.row.table) ms) us) pushed
    ∙ more_write c.in_default.row.table c.in_default.row.marks _ us ∙ ap (λ (r : CatRow). is_written r.table us) same)
    c.push.ensures.ok
