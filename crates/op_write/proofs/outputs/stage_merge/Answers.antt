use Rattle.std.proofs.Common.{◌≡◌, ◌∷◌, Some, IfOk, map, ap, subst, ◌∙◌}
use Rattle.manifest_block.specs.declared.items.Item.TheVariants.{Remove}
use Rattle.row_packet.specs.Packets.{PacketRows}
use Rattle.op_write.specs.Staging.{staged}
use Rattle.op_write.specs.Writes.{Output, add_item, file_blob}
use Rattle.op_write.proofs.Owned.{merge_in_form}
use Rattle.op_write.proofs.outputs.stage_merge.Goals as goal

pub stage-requires-clause-form : goal.stage-requires-clause-form
stage-requires-clause-form g c κs within =
    rw (c.in_ok-items.ensures, c.deref.ensures.value)
    (merge_in_form c.args.key.now c.view-rows.result.rows c.args.replaced.now.items c.requires.cell
    c.requires.files)

pub returns-clause-told : goal.returns-clause-told
returns-clause-told g c told =
    let key = c.args.key.now in
    let rows = c.view-rows.ensures in
    let file = c.in_ok-file.ensures ∙ ap
    (λ (p : PacketRows). file_blob key c.args.schema.now p.rows) rows in
    let items = c.in_ok-items.ensures ∙
    (λ i. add_item key (rows i).rows ∷ map (Remove key.table) (c.deref.ensures.value i)) in
    subst (λ (o : Output). IfOk c.stage.result (λ s. s ≡ staged key o))
    (λ i. record { blob = Some (file i); items = items i }) (c.stage.ensures.told told)
