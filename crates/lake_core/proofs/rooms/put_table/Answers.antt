use Rattle.std.proofs.Common.{◌≡◌, ◌∙◌, ◌-◌, Some, List, ap, sym, length}
use Rattle.std.specs.Prelude.{slice_get}
use Rattle.std.specs.Option.{option_copied}
use Rattle.sql_model.specs.declared.changes.Mark.{Mark}
use Rattle.lake_values.proofs.SameTexts.{same_text_is}
use Rattle.lake_core.proofs.RoomLemmas.{marks_know}
use Rattle.lake_core.proofs.rooms.put_table.Goals as goal

pub returns-in-Some : goal.returns-in-Some
returns-in-Some c = λ us.
    let last = length c.as_slice.result.now - 1 in
    let there : slice_get c.args.marks.now last ≡ Some c.in-Some.last.now =
    ap (λ (ms : List Mark). slice_get ms last) (sym c.as_slice.ensures) ∙ sym c.last.ensures.value ∙ ap option_copied c.in-Some.is in
    marks_know c.args.marks.now last c.in-Some.last.now c.args.mark.now.table there (same_text_is c.in-Some.last.now.table c.args.mark.now.table (sym c.if-eq.ensures)) us
