use Rattle.std.proofs.Common.{rules, ◌≡◌, false, map, sym, ◌∙◌}
use Rattle.std.specs.List.{flat_map, list_all}
use Rattle.op_aggregate.specs.Fits.{arguments_fit}
use Rattle.op_aggregate.specs.Partials.{kept}
use Rattle.op_aggregate.proofs.Made.{arguments_seen, groups_are, keyed, wide_groups}
use Rattle.op_aggregate.proofs.partials.partial.Goals as goal

pub partial_groups-requires-clause-wide : goal.partial_groups-requires-clause-wide
partial_groups-requires-clause-wide c =
    wide_groups (λ group. map (λ row. row.now) group.items) c.as_slice-2.result.now c.args.keys.now c.args.packet.now.rows
    (groups_are (λ group. map (λ row. row.now) group.items) c.as_slice-2.result.now c.in_ok-groups.groups.items c.args.keys.now c.as_slice.result.now c.in_ok-rows.rows.items c.args.packet.now.rows c.as_slice-2.ensures.value c.in_ok-groups.ensures c.as_slice.ensures.value c.in_ok-rows.ensures)

pub returns-in_err-partial_groups-clause-arithmetic : goal.returns-in_err-partial_groups-clause-arithmetic
returns-in_err-partial_groups-clause-arithmetic c =
    let same = arguments_seen (λ group. map (λ row. row.now) group.items) c.as_slice-2.result.now c.args.keys.now c.args.packet.now.rows
    (groups_are (λ group. map (λ row. row.now) group.items) c.as_slice-2.result.now c.in_ok-groups.groups.items c.args.keys.now c.as_slice.result.now c.in_ok-rows.rows.items c.args.packet.now.rows c.as_slice-2.ensures.value c.in_ok-groups.ensures c.as_slice.ensures.value c.in_ok-rows.ensures) c.args.aggs.now in
    let unfit = λ (e : list_all (λ group. arguments_fit c.args.aggs.now (map (λ row. row.now) group.items)) c.as_slice-2.result.now ≡ false). sym same ∙ e in
    search (rules, unfit)

pub returns-clause-rows : goal.returns-clause-rows
returns-clause-rows c =
    c.in_ok-partial_groups.ensures.rows
    ∙ keyed (λ group. map (λ row. row.now) group.items) c.as_slice-2.result.now c.args.keys.now c.args.packet.now.rows
    (groups_are (λ group. map (λ row. row.now) group.items) c.as_slice-2.result.now c.in_ok-groups.groups.items c.args.keys.now c.as_slice.result.now c.in_ok-rows.rows.items c.args.packet.now.rows c.as_slice-2.ensures.value c.in_ok-groups.ensures c.as_slice.ensures.value c.in_ok-rows.ensures) (λ rows. flat_map (kept rows) c.args.aggs.now)

pub returns-clause-fits : goal.returns-clause-fits
returns-clause-fits c =
    sym (arguments_seen (λ group. map (λ row. row.now) group.items) c.as_slice-2.result.now c.args.keys.now c.args.packet.now.rows
    (groups_are (λ group. map (λ row. row.now) group.items) c.as_slice-2.result.now c.in_ok-groups.groups.items c.args.keys.now c.as_slice.result.now c.in_ok-rows.rows.items c.args.packet.now.rows c.as_slice-2.ensures.value c.in_ok-groups.ensures c.as_slice.ensures.value c.in_ok-rows.ensures) c.args.aggs.now)
    ∙ c.in_ok-partial_groups.ensures.fits
