use Rattle.std.proofs.Common.{◌≡◌, ◌∙◌, ◌-◌, ◌<◌, List, ℕ, ap, refl, sym, arith, length, vec_len}
use Rattle.std.proofs.lemmas.Result.{on_ok_weaker}
use Rattle.lake_values.proofs.SameTexts.{same_text_is}
use Rattle.lake_core.proofs.RoomLemmas.{is_written, rows_put}
use Rattle.lake_core.proofs.rooms.put_mark.Goals as goal

pub returns-in-Some : goal.returns-in-Some
returns-in-Some c =
    let rows = c.args.rows.now.items in
    let old = c.in-Some.last.now in
    let table = c.args.mark.now.table in
    let named : old.table ≡ table = same_text_is old.table table (sym c.if-eq.ensures) in
    let some : 0 < vec_len c.args.rows.now = c.in-Some.ensures.variant.0 refl in
    let within : vec_len c.args.rows.now - 1 < length rows = omega (arith, some, c.args.rows.now.ok.0) in
    on_ok_weaker c.add_mark.result
    (λ writes us. rows_put rows (vec_len c.args.rows.now - 1) old c.add_mark.new.row table within c.in-Some.ensures.value named us (writes us ∙ ap (λ (t : List ℕ). is_written t us) named))
    c.add_mark.ensures
