use Rattle.std.proofs.Common.{rules, ◌≡◌, false, map, drop, length, sym, ap, ◌∙◌, ◌+◌, arith}
use Rattle.std.specs.List.{list_all}
use Rattle.row_packet.specs.Packets.{rows_of_all}
use Rattle.op_aggregate.specs.Fits.{group_fits}
use Rattle.op_aggregate.specs.Partials.{finals}
use Rattle.op_aggregate.proofs.Made.{finished_are, fits_are, groups_are, keyed, so_many, tested, wide_groups}
use Rattle.op_aggregate.proofs.finishing.finish.Goals as goal

pub finished_groups-requires-clause-few : goal.finished_groups-requires-clause-few
finished_groups-requires-clause-few c = omega (arith, so_many c.as_slice-key_columns.result.now c.args.keys (c.as_slice-key_columns.ensures.value ∙ c.in_ok-columns.ensures) c.args.aggs.now (rows_of_all c.args.parts.now))

pub finished_groups-requires-clause-wide : goal.finished_groups-requires-clause-wide
finished_groups-requires-clause-wide c =
    wide_groups (λ group. map (λ row. row.now) group.items) c.as_slice-lent.result.now c.as_slice-key_columns.result.now (rows_of_all c.args.parts.now)
    (groups_are (λ group. map (λ row. row.now) group.items) c.as_slice-lent.result.now c.in_ok-groups.groups.items c.as_slice-key_columns.result.now c.as_slice-all_rows.result.now c.in_ok-rows.rows.items (rows_of_all c.args.parts.now) c.as_slice-lent.ensures.value c.in_ok-groups.ensures c.as_slice-all_rows.ensures.value c.in_ok-rows.ensures)

pub returns-in_err-finished_groups-clause-arithmetic : goal.returns-in_err-finished_groups-clause-arithmetic
returns-in_err-finished_groups-clause-arithmetic c =
    let same = (tested (λ group. map (λ row. row.now) group.items) c.as_slice-lent.result.now c.as_slice-key_columns.result.now (rows_of_all c.args.parts.now)
    (groups_are (λ group. map (λ row. row.now) group.items) c.as_slice-lent.result.now c.in_ok-groups.groups.items c.as_slice-key_columns.result.now c.as_slice-all_rows.result.now c.in_ok-rows.rows.items (rows_of_all c.args.parts.now) c.as_slice-lent.ensures.value c.in_ok-groups.ensures c.as_slice-all_rows.ensures.value c.in_ok-rows.ensures) (λ rows. group_fits c.args.aggs.now (map (drop (length c.as_slice-key_columns.result.now)) rows)) ∙ fits_are c.as_slice-key_columns.result.now c.args.keys (c.as_slice-key_columns.ensures.value ∙ c.in_ok-columns.ensures) c.args.aggs.now (rows_of_all c.args.parts.now)) in
    let unfit = λ (e : list_all (λ group. group_fits c.args.aggs.now (map (drop (length c.as_slice-key_columns.result.now)) (map (λ row. row.now) group.items))) c.as_slice-lent.result.now ≡ false). sym same ∙ e in
    search (rules, unfit)

pub returns-clause-width : goal.returns-clause-width
returns-clause-width c = c.in_ok-finished_groups.ensures.width ∙ ap (λ n. n + length c.args.aggs.now) (so_many c.as_slice-key_columns.result.now c.args.keys (c.as_slice-key_columns.ensures.value ∙ c.in_ok-columns.ensures) c.args.aggs.now (rows_of_all c.args.parts.now))

pub returns-clause-rows : goal.returns-clause-rows
returns-clause-rows c =
    c.in_ok-finished_groups.ensures.rows
    ∙ keyed (λ group. map (λ row. row.now) group.items) c.as_slice-lent.result.now c.as_slice-key_columns.result.now (rows_of_all c.args.parts.now)
    (groups_are (λ group. map (λ row. row.now) group.items) c.as_slice-lent.result.now c.in_ok-groups.groups.items c.as_slice-key_columns.result.now c.as_slice-all_rows.result.now c.in_ok-rows.rows.items (rows_of_all c.args.parts.now) c.as_slice-lent.ensures.value c.in_ok-groups.ensures c.as_slice-all_rows.ensures.value c.in_ok-rows.ensures) (λ rows. finals c.args.aggs.now (map (drop (length c.as_slice-key_columns.result.now)) rows))
    ∙ finished_are c.as_slice-key_columns.result.now c.args.keys (c.as_slice-key_columns.ensures.value ∙ c.in_ok-columns.ensures) c.args.aggs.now (rows_of_all c.args.parts.now)

pub returns-clause-fits : goal.returns-clause-fits
returns-clause-fits c =
    sym (tested (λ group. map (λ row. row.now) group.items) c.as_slice-lent.result.now c.as_slice-key_columns.result.now (rows_of_all c.args.parts.now)
    (groups_are (λ group. map (λ row. row.now) group.items) c.as_slice-lent.result.now c.in_ok-groups.groups.items c.as_slice-key_columns.result.now c.as_slice-all_rows.result.now c.in_ok-rows.rows.items (rows_of_all c.args.parts.now) c.as_slice-lent.ensures.value c.in_ok-groups.ensures c.as_slice-all_rows.ensures.value c.in_ok-rows.ensures) (λ rows. group_fits c.args.aggs.now (map (drop (length c.as_slice-key_columns.result.now)) rows)) ∙ fits_are c.as_slice-key_columns.result.now c.args.keys (c.as_slice-key_columns.ensures.value ∙ c.in_ok-columns.ensures) c.args.aggs.now (rows_of_all c.args.parts.now))
    ∙ c.in_ok-finished_groups.ensures.fits
