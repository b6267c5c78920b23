use Rattle.std.proofs.Common.{◌∙◌}
use Rattle.column_file.proofs.LentColumns.{one_more_row, all_rows}
use Rattle.column_file.proofs.transpose.rows_from.Goals as goal

pub loop-place-preserved : goal.loop-place-preserved
loop-place-preserved c =
    let row = c.in_ok-row_from.ensures in
    let more = one_more_row c.args.count c.loop-place.place c.args.columns.now c.loop-place-test.true c.requires in
    rw c.in_ok-push.ensures.items (let before = c.loop-place.invariant in cc)

pub returns : goal.returns
returns c = c.loop-place.invariant ∙ all_rows c.args.count c.loop-place.place c.args.columns.now c.loop-place-test.false c.requires
