use Rattle.std.proofs.Common.{true, false, sym, ◌∙◌, arith}
use Rattle.row_evaluation.proofs.Folding.{counted_past, fits_past}
use Rattle.row_evaluation.proofs.aggregates.count_of.Goals as goal
use Rattle.row_evaluation.proofs.aggregates.count_of.Goals.{then-not-is_null, else-not-is_null}

pub loop-row-preserved : goal.loop-row-preserved
loop-row-preserved g c =
    let seen = c.in_ok-look.ensures.seen in
    let fit = fits_past g.C.Cells.cells c.args.argument.now c.args.rows.now c.loop-row.row-index c.row-item.result c.loop-row-test.true c.row-item.is seen.fits ∙ c.loop-row.invariant.2 in
    let before = c.loop-row.invariant.1 in
    elim c.if-not-is_null.branch [
      | then-not-is_null w ↦
          let past = counted_past g.C.Cells.cells c.args.argument.now c.args.rows.now c.loop-row.row-index c.row-item.result c.loop-row-test.true c.row-item.is _ false seen.value (sym w.if-not-is_null.true ∙ c.is_null.ensures) in
          (omega arith, omega arith, fit)
      | else-not-is_null w ↦
          let past = counted_past g.C.Cells.cells c.args.argument.now c.args.rows.now c.loop-row.row-index c.row-item.result c.loop-row-test.true c.row-item.is _ true seen.value (sym w.if-not-is_null.false ∙ c.is_null.ensures) in
          (omega arith, omega arith, fit)
    ]
