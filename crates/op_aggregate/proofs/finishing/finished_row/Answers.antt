use Rattle.std.proofs.Common.{rules, map, refl, arith}
use Rattle.op_aggregate.proofs.Finals.{final_fails, final_made, final_past, width_here}
use Rattle.op_aggregate.proofs.finishing.finished_row.Goals as goal

pub final_value-requires : goal.final_value-requires
final_value-requires g c = omega (arith, width_here c.args.aggs.now c.loop-agg.agg-index c.agg-item.result c.loop-agg-test.true c.agg-item.is, c.loop-agg.invariant.place)

pub returns-in_err-final_value-clause-overflow : goal.returns-in_err-final_value-clause-overflow
returns-in_err-final_value-clause-overflow g c =
    let unfit = final_fails c.args.aggs.now c.loop-agg.agg-index c.agg-item.result c.loop-agg-test.true c.agg-item.is c.loop-agg.place (map g.C.Cells.cells c.args.group.now) _ refl _ c.loop-agg.invariant.fits in
    search (rules, unfit)

pub overflow_add-place : goal.overflow_add-place
overflow_add-place g c = omega (arith, width_here c.args.aggs.now c.loop-agg.agg-index c.agg-item.result c.loop-agg-test.true c.agg-item.is, c.loop-agg.invariant.place, c.columns_kept.ensures.value)

pub loop-agg-preserved : goal.loop-agg-preserved
loop-agg-preserved g c = record {
  made = final_made c.args.aggs.now c.loop-agg.agg-index c.agg-item.result c.loop-agg-test.true c.agg-item.is c.loop-agg.place (map g.C.Cells.cells c.args.group.now) c.columns_kept.result c.columns_kept.ensures.value
      _ c.loop-agg.values.items _ c.in_ok-final_value.field-0 c.in_ok-final_value.ensures.value c.in_ok-push.ensures.items c.loop-agg.invariant.made;
  fits = final_past c.args.aggs.now c.loop-agg.agg-index c.agg-item.result c.loop-agg-test.true c.agg-item.is c.loop-agg.place (map g.C.Cells.cells c.args.group.now) c.columns_kept.result c.columns_kept.ensures.value
      _ c.loop-agg.invariant.fits c.in_ok-final_value.ensures.fits;
  place = omega (arith, width_here c.args.aggs.now c.loop-agg.agg-index c.agg-item.result c.loop-agg-test.true c.agg-item.is, c.loop-agg.invariant.place, c.columns_kept.ensures.value);
}
