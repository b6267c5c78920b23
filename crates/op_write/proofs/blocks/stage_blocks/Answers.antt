use Rattle.std.proofs.Common.{ℕ, List, ap, ◌∙◌, arith}
use Rattle.lake_outside.specs.Ports.{ToldBlob}
use Rattle.op_write.specs.Staging.{piece_at}
use Rattle.op_write.proofs.Staged.{one_more}
use Rattle.op_write.proofs.blocks.stage_blocks.Goals as goal

pub loop-place-preserved : goal.loop-place-preserved
loop-place-preserved g c =
    let s = c.in_ok-stage.ensures in
    let first = c.loop-place.invariant.0 in
    let quiet = c.loop-place.invariant.1 in
    let rises = s.never_falls in
    let before = quiet.never_falls in
    let blob = c.blob.view_is in
    let bytes = c.deref.ensures.value ∙ ap (λ (b : ToldBlob). b.bytes) blob in (
      one_more g.P.Block.Staged.name g.P.Block.Staged.number g.P.Block.Staged.bytes g.P.Port.tells
          c.args.blob.now
          c.loop-place.blocks.items c.push.new.self.items c.in_ok-stage.field-0 c.loop-place.place
          c.in_ok-push.ensures.items first
          (s.name ∙ ap (λ (b : ToldBlob). b.name) blob) (s.number ∙ c.in_ok-number.ensures)
          (λ told. s.bytes told ∙ c.piece.ensures ∙ ap
          (λ (b : List ℕ). piece_at b c.loop-place.place) bytes),
      record {
        never_falls = omega (arith, before, rises);
        listings = s.listings ∙ quiet.listings;
        deletions = s.deletions ∙ quiet.deletions;
      },
    )
