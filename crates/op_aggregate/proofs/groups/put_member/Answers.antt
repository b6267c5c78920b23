use Rattle.std.proofs.Common.{map, [], ◌∷◌, ap, ◌∙◌, arith}
use Rattle.std.proofs.lemmas.List.{map-append}
use Rattle.op_aggregate.proofs.Members.{with_member-end, with_member-set}
use Rattle.op_aggregate.proofs.groups.put_member.Goals as goal

pub returns-then-place-len : goal.returns-then-place-len
returns-then-place-len g c =
    ap (map (λ group. map (λ row. g.C.Cells.cells row.now) group.items)) c.in_ok-push.ensures.items
    ∙ with_member-end (λ group. map (λ row. g.C.Cells.cells row.now) group.items) (g.C.Cells.cells c.args.row.now) c.args.groups.now.items c.in_ok-vec.field-0 c.args.place (omega arith) (ap (map (λ row. g.C.Cells.cells row.now)) c.in_ok-vec.ensures.items)

pub returns : goal.returns
returns g c =
    with_member-set (λ group. map (λ row. g.C.Cells.cells row.now) group.items) (g.C.Cells.cells c.args.row.now) c.args.groups.now.items c.args.place c.index_mut-group.result.now c.push-2.new.self (omega arith) c.index_mut-group.ensures.value
    (ap (map (λ row. g.C.Cells.cells row.now)) c.in_ok-push-2.ensures.items ∙ map-append (λ row. g.C.Cells.cells row.now) c.index_mut-group.result.now.items (c.args.row ∷ []))
