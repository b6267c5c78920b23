use Rattle.std.proofs.Common.{◌∙◌, arith}
use Rattle.std.proofs.lemmas.Int.{ints}
use Rattle.sql_model.specs.Groups.{sum_of_both}
use Rattle.sql_model.proofs.Summaries.{sum_swaps}
use Rattle.row_evaluation.proofs.Folding.{fits_past, joined_past}
use Rattle.row_evaluation.proofs.aggregates.total_of.Goals as goal

pub loop-row-preserved : goal.loop-row-preserved
loop-row-preserved g c =
    let seen = c.in_ok-look.ensures.seen in
    let low = c.loop-row.invariant.2 in
    let high = c.loop-row.invariant.1 in
    let up = c.plus-total.ensures.up in
    let down = c.plus-total.ensures.down in (
      c.plus-total.ensures.short,
      omega (arith, ints),
      omega (arith, ints),
      joined_past g.C.Cells.cells c.args.argument.now c.args.rows.now c.loop-row.row-index c.row-item.result c.loop-row-test.true c.row-item.is sum_of_both sum_swaps _ _ _ seen.value c.plus-total.ensures.value ∙ c.loop-row.invariant.3,
      fits_past g.C.Cells.cells c.args.argument.now c.args.rows.now c.loop-row.row-index c.row-item.result c.loop-row-test.true c.row-item.is seen.fits ∙ c.loop-row.invariant.4,
    )
