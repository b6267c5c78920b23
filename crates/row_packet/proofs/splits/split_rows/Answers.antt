use Rattle.std.proofs.Common.{◌≡◌, ◌+◌, ◌++◌, [], ◌∷◌, List, length, take, sym, ap, ◌∙◌, arith}
use Rattle.std.proofs.lemmas.List.{take_more}
use Rattle.lake_values.specs.declared.values.Value.{Value}
use Rattle.row_packet.specs.Packets.{cells_of}
use Rattle.row_packet.proofs.ByCell.{no_rows, length_parts, width_of_part, cell_read, one_more}
use Rattle.row_packet.proofs.Lookups.{length_read}
use Rattle.row_packet.proofs.splits.split_rows.Goals as goal

pub loop-row-init : goal.loop-row-init
loop-row-init c = no_rows c.args.column c.args.width c.in_ok-parts.parts.items c.in_ok-parts.ensures

pub index_mut-part-requires : goal.index_mut-part-requires
index_mut-part-requires c = omega (arith, length_parts _ _ _ c.loop-row.invariant, c.cell_of-cell.ensures.below)

pub push-requires : goal.push-requires
push-requires c =
    let wide = length_read c.args.width c.args.rows.now c.loop-row.row-index c.row-item.result c.requires.widths (omega arith) c.row-item.is in
    let width = width_of_part c.args.column c.cell_of-cell.result _ c.loop-row.parts.items _ c.cell_of-cell.ensures.below c.loop-row.invariant c.index_mut-part.ensures.value in
    ap length c.in_ok-copy.ensures ∙ wide ∙ sym width

pub loop-row-preserved : goal.loop-row-preserved
loop-row-preserved c =
    let row = c.row-item.result in
    let copy = c.in_ok-copy.field-0 in
    let place = c.loop-row.row-index in
    let done = take place c.args.rows.now in
    let wide = length_read c.args.width c.args.rows.now place row c.requires.widths (omega arith) c.row-item.is in
    let is_cell = cell_read c.args.column c.cell_of-cell.result row c.values.result.now c.index-values-column.result (omega (arith, wide, ap (λ (r : List Value). length r) c.values.ensures, c.requires.column)) c.values.ensures c.index-values-column.is c.cell_of-cell.ensures.value in
    let rows : take (place + 1) c.args.rows.now ≡ done ++ row ∷ [] = take_more c.args.rows.now place row (omega arith) ∙ ap (λ (r : List Value). done ++ r ∷ []) (sym c.row-item.is) in
    one_more c.args.column c.args.width done row c.cell_of-cell.result c.loop-row.parts.items c.index_mut-part.result.now c.push.new.self c.cell_of-cell.ensures.below is_cell c.loop-row.invariant c.index_mut-part.ensures.value
    (c.in_ok-push.ensures.ok ∙ ap (λ (r : List Value). record c.index_mut-part.result.now { rows = c.index_mut-part.result.now.rows ++ r ∷ [] }) c.in_ok-copy.ensures)
    ∙ ap (λ (rs : List (List Value)). cells_of c.args.column (record { width = c.args.width; rows = rs })) (sym rows)

pub returns-clause-count : goal.returns-clause-count
returns-clause-count c = length_parts _ _ _ c.loop-row.invariant
