use Rattle.std.proofs.Common.{Some, map, ap, subst, sym}
use Rattle.lake_outside.specs.Ports.{ToldBlob, told_block}
use Rattle.lake_values.specs.declared.names.Name.{Name}
use Rattle.op_write.specs.Staging.{AreBlocksOf}
use Rattle.op_write.proofs.Owned.{are_blocks}
use Rattle.op_write.proofs.outputs.stage.Goals as goal

pub invariant_of-result : goal.invariant_of-result
invariant_of-result g c =
    let blocks = map
    (told_block g.P.Block.Staged.name g.P.Block.Staged.number g.P.Block.Staged.bytes)
    c.in_ok-blocks.blocks in
    let name = ap (λ (b : ToldBlob). b.name) (sym c.blob.view_is) in
    subst (λ (n : Name). AreBlocksOf (Some n) blocks) name
    (are_blocks c.args.blob blocks c.requires.bytes c.in_ok-blocks.ensures.named)
