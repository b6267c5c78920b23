use Rattle.std.proofs.Common.{map, ap, arith}
use Rattle.std.proofs.lemmas.List.{length-map}
use Rattle.op_aggregate.proofs.Gathering.{none_gathered, all_gathered, room_for_row, row_gathered}
use Rattle.op_aggregate.proofs.groups.grouped_by_key.Goals as goal

pub loop-row-init : goal.loop-row-init
loop-row-init g c = none_gathered c.args.columns.now _ _ (ap (map (λ k. k.items)) c.new-spellings.ensures.empty) (ap (map (λ group. map (λ row. g.C.Cells.cells row.now) group.items)) c.new-groups.ensures.items)

pub put_member-requires : goal.put_member-requires
put_member-requires g c =
    let room = room_for_row c.args.columns.now g.C.Cells.cells c.args.rows.now c.loop-row.row-index c.row-item.result c.loop-row-test.true c.row-item.is (λ k. k.items) c.in_ok-key_spelling.field-0 c.loop-row.spellings.keys _ c.in_ok-place.place c.loop-row.invariant c.in_ok-key_spelling.ensures.bytes c.in_ok-key_spelling.ensures.values c.in_ok-place.ensures.index in
    let many = length-map c.loop-row.groups.items (λ group. map (λ row. g.C.Cells.cells row.now) group.items) in
    omega (arith, room, many)

pub loop-row-preserved : goal.loop-row-preserved
loop-row-preserved g c =
    row_gathered c.args.columns.now g.C.Cells.cells c.args.rows.now c.loop-row.row-index c.row-item.result c.loop-row-test.true c.row-item.is (λ k. k.items) c.in_ok-key_spelling.field-0 c.loop-row.spellings.keys _ c.in_ok-place.place c.loop-row.invariant c.in_ok-key_spelling.ensures.bytes c.in_ok-key_spelling.ensures.values c.in_ok-place.ensures.index
    c.insert_full.new.self.keys _ c.in_ok-place.ensures.keys c.in_ok-put_member.ensures

pub returns : goal.returns
returns g c = all_gathered c.args.columns.now g.C.Cells.cells c.args.rows.now c.loop-row.row-index _ _ (omega arith) c.loop-row.invariant
