use Rattle.std.proofs.Common.{ap, ◌∙◌}
use Rattle.std.proofs.lemmas.Simd.{map-map}
use Rattle.std.specs.Option.{option_map}
use Rattle.lake_outside.specs.Ports.{ToldBlob, told_blob}
use Rattle.op_write.specs.Staging.{Staged, without_bytes}
use Rattle.op_write.proofs.seals.seal.Goals as goal

pub returns-clause-named : goal.returns-clause-named
returns-clause-named g c =
    let names = map-map (λ (b : ToldBlob). b.name)
    (told_blob g.P.Blob.Stored.name g.P.Blob.Stored.bytes) c.in_ok-blobs.blobs in
    λ i. record {
      blobs = (names ∙ c.in_ok-blobs.ensures.named) i;
      block = ap (λ (s : Staged). option_map without_bytes s.block) c.staging.view_is i;
      items = ap (λ (s : Staged). s.items) c.staging.view_is i;
    }
