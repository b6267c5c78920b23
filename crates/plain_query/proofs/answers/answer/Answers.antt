use Rattle.std.proofs.Common.{map, ◌∙◌}
use Rattle.plain_query.proofs.Ordered.{answer_of_shown}
use Rattle.plain_query.proofs.answers.answer.Goals as goal

pub returns-clause-rows : goal.returns-clause-rows
returns-clause-rows g c =
    let keeps = rw c.as_slice.ensures at c.in_ok-kept.ensures.kept in
    let same = rw c.as_slice-2.ensures.value at c.in_ok-shown.ensures.made in
    let made = rw (c.as_slice-3.ensures, c.as_slice-4.ensures.value) at c.in_ok-made.ensures in
    let ends = rw (c.as_slice-5.ensures, made) at c.in_ok-ordered_rows.ensures in
    ends ∙ answer_of_shown c.args.query.now (map g.C.Cells.cells c.args.rows.now) _ c.in_ok-shown.shown.items keeps same
