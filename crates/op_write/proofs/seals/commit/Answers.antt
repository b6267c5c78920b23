use Rattle.std.proofs.Common.{[], ◌∷◌, ◌++◌, map, subst, ap, ◌∙◌}
use Rattle.lake_outside.specs.Ports.{told_block}
use Rattle.op_write.specs.Staging.{AreBlocksOf}
use Rattle.op_write.proofs.Owned.{is_sealed, own_blocks}
use Rattle.op_write.proofs.seals.commit.Goals as goal

pub commit-requires-clause-own : goal.commit-requires-clause-own
commit-requires-clause-own g c =
    let blocks = map
    (told_block g.P.Block.Staged.name g.P.Block.Staged.number g.P.Block.Staged.bytes)
    c.staging.inside.blocks in
    let owned = subst (λ n. AreBlocksOf n blocks) c.in-Some.is c.staging.invariant in
    rw c.list.ensures (own_blocks g.P.Block.Staged.name g.P.Block.Staged.number
    g.P.Block.Staged.bytes g.P.Blob.Stored.name g.P.Blob.Stored.bytes c.in-Some.name
    c.staging.inside.blocks owned.1)

pub returns-clause-told : goal.returns-clause-told
returns-clause-told g c told =
    rw (← c.staging.view_is)
    (is_sealed g.P.Block.Staged.name g.P.Block.Staged.number g.P.Block.Staged.bytes
    g.P.Blob.Stored.name g.P.Blob.Stored.bytes
    c.push.new.self c.in_ok-blob.blob c.in-Some.name c.list.result.now.items c.staging.inside.blocks
    c.staging.inside.name
    (c.in_ok-push.ensures.ok ∙ ap (λ blobs. blobs ++ c.in_ok-blob.blob ∷ []) c.empty-blobs.ensures)
    c.in-Some.is c.list.ensures c.in_ok-blob.ensures.name (c.in_ok-blob.ensures.bytes told))
