use Rattle.std.proofs.Common.{rules, map, drop, length, sym, ap, ◌∙◌, arith}
use Rattle.row_packet.specs.Packets.{PacketRows}
use Rattle.op_aggregate.specs.Fits.{group_fits}
use Rattle.op_aggregate.specs.Partials.{finals}
use Rattle.op_aggregate.proofs.Made.{few_aggregates, finals_wide, row_made, row_wide, test_fails, test_past}
use Rattle.op_aggregate.proofs.finishing.finished_groups.Goals as goal

pub push-requires : goal.push-requires
push-requires g c =
    row_wide (λ group. map (λ row. g.C.Cells.cells row.now) group.items) c.args.groups.now c.loop-group.group-index c.group-item.result c.loop-group-test.true c.group-item.is (map (λ row. g.C.Cells.cells row.now) c.as_slice.result.now) (ap (map (λ row. g.C.Cells.cells row.now)) c.as_slice.ensures.value)
    c.args.columns.now (λ rows. finals c.args.aggs.now (map (drop (length c.args.columns.now)) rows)) c.in_ok-finished_row.field-0 c.in_ok-finished_row.ensures.row c.requires.wide _ (finals_wide c.args.aggs.now (map (drop (length c.args.columns.now)) (map (λ row. g.C.Cells.cells row.now) c.as_slice.result.now))) ∙ sym c.loop-group.invariant.same_width

pub returns-in_err-finished_row-clause-overflow : goal.returns-in_err-finished_row-clause-overflow
returns-in_err-finished_row-clause-overflow g c =
    let unfit = test_fails (λ group. map (λ row. g.C.Cells.cells row.now) group.items) c.args.groups.now c.loop-group.group-index c.group-item.result c.loop-group-test.true c.group-item.is (map (λ row. g.C.Cells.cells row.now) c.as_slice.result.now) (ap (map (λ row. g.C.Cells.cells row.now)) c.as_slice.ensures.value)
    (λ rows. group_fits c.args.aggs.now (map (drop (length c.args.columns.now)) rows)) _ c.loop-group.invariant.fits in
    search (rules, unfit)

pub loop-group-preserved : goal.loop-group-preserved
loop-group-preserved g c = record {
  same_width = ap (λ (p : PacketRows). p.width) c.in_ok-push.ensures.ok ∙ c.loop-group.invariant.same_width;
  made = row_made (λ group. map (λ row. g.C.Cells.cells row.now) group.items) c.args.groups.now c.loop-group.group-index c.group-item.result c.loop-group-test.true c.group-item.is (map (λ row. g.C.Cells.cells row.now) c.as_slice.result.now) (ap (map (λ row. g.C.Cells.cells row.now)) c.as_slice.ensures.value)
      c.args.columns.now (λ rows. finals c.args.aggs.now (map (drop (length c.args.columns.now)) rows)) c.in_ok-finished_row.field-0 c.in_ok-finished_row.ensures.row _ c.loop-group.made.rows _ (ap (λ (p : PacketRows). p.rows) c.in_ok-push.ensures.ok) c.loop-group.invariant.made;
  fits = test_past (λ group. map (λ row. g.C.Cells.cells row.now) group.items) c.args.groups.now c.loop-group.group-index c.group-item.result c.loop-group-test.true c.group-item.is (map (λ row. g.C.Cells.cells row.now) c.as_slice.result.now) (ap (map (λ row. g.C.Cells.cells row.now)) c.as_slice.ensures.value)
      (λ rows. group_fits c.args.aggs.now (map (drop (length c.args.columns.now)) rows)) _ c.loop-group.invariant.fits c.in_ok-finished_row.ensures.fits;
}

pub overflow_cast-aggs : goal.overflow_cast-aggs
overflow_cast-aggs g c = omega (arith, few_aggregates c.args.aggs.now)

pub overflow_add-columns : goal.overflow_add-columns
overflow_add-columns g c = omega (arith, few_aggregates c.args.aggs.now)
