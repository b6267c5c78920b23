use Rattle.std.proofs.Common.{◌∙◌}
use Rattle.row_evaluation.specs.Aggregates.{kept_by}
use Rattle.row_evaluation.proofs.Folding.{kept_swaps, fits_past, joined_past}
use Rattle.row_evaluation.proofs.aggregates.extreme_of.Goals as goal

pub loop-row-preserved : goal.loop-row-preserved
loop-row-preserved g c =
    let seen = c.in_ok-look.ensures.seen in (
      c.of_both-kept.ensures.short,
      joined_past g.C.Cells.cells c.args.argument.now c.args.rows.now c.loop-row.row-index c.row-item.result c.loop-row-test.true c.row-item.is (kept_by c.args.extreme) (kept_swaps c.args.extreme) _ _ _ seen.value c.of_both-kept.ensures.value ∙ c.loop-row.invariant.1,
      fits_past g.C.Cells.cells c.args.argument.now c.args.rows.now c.loop-row.row-index c.row-item.result c.loop-row-test.true c.row-item.is seen.fits ∙ c.loop-row.invariant.2,
    )
