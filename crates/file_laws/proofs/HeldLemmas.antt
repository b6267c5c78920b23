-- What more blobs hold, and fewer.
use Rattle.std.proofs.Common.{◌≡◌, Bool, true, false, not, ◌||◌, cond, List, [], ◌∷◌, Some, refl}
use Rattle.std.proofs.Common.{sym, ap, ◌∙◌}
use Rattle.std.specs.Prelude.{find}
use Rattle.std.specs.Option.{option_map_or}
use Rattle.lake_values.specs.declared.names.Name.{Name}
use Rattle.lake_values.specs.Names.{is_among, same_name}
use Rattle.file_laws.specs.BlobLaws.{bytes_of, is_held}
use Rattle.lake_outside.specs.Ports.{ToldBlob}
use Rattle.file_laws.specs.KeptLaws.{BlobsAreHeld, without_blobs}
use Rattle.file_laws.proofs.BlobLemmas.{same_bytes}
use Rattle.file_laws.proofs.ReplayLemmas.{name_tells}
use Rattle.file_laws.proofs.Some.{any_front}

module _ (names : List Name) (name : Name) (free : is_among name names ≡ false) where
  stays : (b : ToldBlob) → same_name name b.name ≡ true → not (is_among b.name names) ≡ true
  stays b e = ap (λ (n : Name). not (is_among n names)) (sym (name_tells name b.name e)) ∙ ap not
      free

  bytes_stay : (blobs : List ToldBlob) →
      bytes_of (without_blobs names blobs) name ≡ bytes_of blobs name
  bytes_stay [] = refl
  bytes_stay (b ∷ bs) = elim (same_name name b.name) as (λ x. same_name name b.name ≡ x → bytes_of
      (cond (not (is_among b.name names)) (b ∷ without_blobs names bs) (without_blobs names bs))
      name ≡ option_map_or (λ b. b.bytes)
      (cond x (Some b) (find (λ b. same_name name b.name) bs)) []) [
        | true ↦ λ e. ap
            (λ (x : Bool). bytes_of (cond x (b ∷ without_blobs names bs) (without_blobs names bs))
            name)
            (stays b e) ∙ ap (λ (x : Bool). option_map_or (λ b. b.bytes)
            (cond x (Some b) (find (λ b. same_name name b.name) (without_blobs names bs))) []) e
        | false ↦ λ e. elim (is_among b.name names) as (λ x. bytes_of
            (cond (not x) (b ∷ without_blobs names bs) (without_blobs names bs)) name ≡ bytes_of bs
            name) [
              | true ↦ bytes_stay bs
              | false ↦ ap (λ (x : Bool). option_map_or (λ b. b.bytes)
                  (cond x (Some b) (find (λ b. same_name name b.name) (without_blobs names bs))) [])
                  e ∙
                  bytes_stay bs
            ]
      ] refl

  held_stays : (blobs : List ToldBlob) →
      is_held (without_blobs names blobs) name ≡ is_held blobs name
  held_stays [] = refl
  held_stays (b ∷ bs) = elim (same_name name b.name) as (λ x. same_name name b.name ≡ x → is_held
      (cond (not (is_among b.name names)) (b ∷ without_blobs names bs) (without_blobs names bs))
      name ≡ (x || is_held bs name)) [
        | true ↦ λ e. ap
            (λ (x : Bool). is_held (cond x (b ∷ without_blobs names bs) (without_blobs names bs))
            name)
            (stays b e) ∙ ap (λ (x : Bool). x || is_held (without_blobs names bs) name) e
        | false ↦ λ e. elim (is_among b.name names) as (λ x. is_held
            (cond (not x) (b ∷ without_blobs names bs) (without_blobs names bs)) name ≡ is_held bs
            name) [
              | true ↦ held_stays bs
              | false ↦ ap (λ (x : Bool). x || is_held (without_blobs names bs) name) e ∙ held_stays
                  bs
            ]
      ] refl

pub blobs_are_held : BlobsAreHeld
blobs_are_held read_rows read_gone blobs = record {
  more = λ new name held. (
    any_front (λ b. same_name name b.name) blobs new held,
    (
      ap read_rows
          (same_bytes name blobs new held),
      ap read_gone (same_bytes name blobs new held),
    ),
  );
  less = λ names name held free. (
    held_stays names name free blobs ∙ held,
    (
      ap read_rows
          (bytes_stay names name free blobs),
      ap read_gone (bytes_stay names name free blobs),
    ),
  );
}
