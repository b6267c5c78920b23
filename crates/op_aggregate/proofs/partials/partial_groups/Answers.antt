use Rattle.std.proofs.Common.{rules, map, sym, ap, ◌∙◌}
use Rattle.std.specs.List.{flat_map}
use Rattle.row_packet.specs.Packets.{PacketRows}
use Rattle.op_aggregate.specs.Fits.{arguments_fit}
use Rattle.op_aggregate.specs.Partials.{kept}
use Rattle.op_aggregate.proofs.Made.{all_kept_wide, row_made, row_wide, test_fails, test_past}
use Rattle.op_aggregate.proofs.partials.partial_groups.Goals as goal

pub push-requires : goal.push-requires
push-requires g c =
    row_wide (λ group. map (λ row. g.C.Cells.cells row.now) group.items) c.args.groups.now c.loop-group.group-index c.group-item.result c.loop-group-test.true c.group-item.is (map (λ row. g.C.Cells.cells row.now) c.as_slice.result.now) (ap (map (λ row. g.C.Cells.cells row.now)) c.as_slice.ensures.value)
    c.args.keys.now (λ rows. flat_map (kept rows) c.args.aggs.now) c.in_ok-partial_row.field-0 c.in_ok-partial_row.ensures.row c.requires.wide _ (all_kept_wide (map (λ row. g.C.Cells.cells row.now) c.as_slice.result.now) c.args.aggs.now) ∙ sym c.loop-group.invariant.same_width

pub returns-in_err-partial_row-clause-overflow : goal.returns-in_err-partial_row-clause-overflow
returns-in_err-partial_row-clause-overflow g c =
    let unfit = test_fails (λ group. map (λ row. g.C.Cells.cells row.now) group.items) c.args.groups.now c.loop-group.group-index c.group-item.result c.loop-group-test.true c.group-item.is (map (λ row. g.C.Cells.cells row.now) c.as_slice.result.now) (ap (map (λ row. g.C.Cells.cells row.now)) c.as_slice.ensures.value)
    (λ rows. arguments_fit c.args.aggs.now rows) _ c.loop-group.invariant.fits in
    search (rules, unfit)

pub loop-group-preserved : goal.loop-group-preserved
loop-group-preserved g c = record {
  same_width = ap (λ (p : PacketRows). p.width) c.in_ok-push.ensures.ok ∙ c.loop-group.invariant.same_width;
  made = row_made (λ group. map (λ row. g.C.Cells.cells row.now) group.items) c.args.groups.now c.loop-group.group-index c.group-item.result c.loop-group-test.true c.group-item.is (map (λ row. g.C.Cells.cells row.now) c.as_slice.result.now) (ap (map (λ row. g.C.Cells.cells row.now)) c.as_slice.ensures.value)
      c.args.keys.now (λ rows. flat_map (kept rows) c.args.aggs.now) c.in_ok-partial_row.field-0 c.in_ok-partial_row.ensures.row _ c.loop-group.made.rows _ (ap (λ (p : PacketRows). p.rows) c.in_ok-push.ensures.ok) c.loop-group.invariant.made;
  fits = test_past (λ group. map (λ row. g.C.Cells.cells row.now) group.items) c.args.groups.now c.loop-group.group-index c.group-item.result c.loop-group-test.true c.group-item.is (map (λ row. g.C.Cells.cells row.now) c.as_slice.result.now) (ap (map (λ row. g.C.Cells.cells row.now)) c.as_slice.ensures.value)
      (λ rows. arguments_fit c.args.aggs.now rows) _ c.loop-group.invariant.fits c.in_ok-partial_row.ensures.fits;
}
