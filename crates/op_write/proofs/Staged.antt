-- Blocks that are staged one after another, by what their port says of them.
use Rattle.std.proofs.Common.{◌≡◌, ℕ, ◌+◌, ◌≤◌, Bool, List, [], ◌∷◌, ◌++◌, map, IsTrue, refl, sym}
use Rattle.std.proofs.Common.{ap, ◌∙◌, arith}
use Rattle.std.specs.List.{range_with_len}
use Rattle.lake_values.specs.declared.names.Name.{Name}
use Rattle.lake_outside.specs.Ports.{ToldBlob, ToldBlock, told_block}
use Rattle.std.proofs.lemmas.List.{map-append}
use Rattle.std.proofs.lemmas.List.FromFn.{map-range_with_len_more}
use Rattle.op_write.specs.Staging.{block_at, piece_at, without_bytes}

-- a port that only stages: its count doesn't fall, and its notes stay
pub record IsQuiet (count count' : ℕ) (listed listed' : List (List Name))
    (deleted deleted' : List Name) : Type 0 where
  pub never_falls : count ≤ count'
  pub listings : listed' ≡ listed
  pub deletions : deleted' ≡ deleted

-- the first blocks of the blob are staged
pub record AreFirst (tells : Bool) (blocks : List ToldBlock) (blob : ToldBlob) (count : ℕ) : Type 0
  where
    pub told : IsTrue tells → blocks ≡ map (block_at blob) (range_with_len 0 count)
    pub named : map without_bytes blocks ≡ map without_bytes
        (map (block_at blob) (range_with_len 0 count))

module _ {B : Type 0} (name : B → Name) (number : B → ℕ) (bytes : B → List ℕ) where
  abbrev shown : B → ToldBlock
  shown = told_block name number bytes

  -- the next block is staged too
  pub one_more : (tells : Bool) (blob : ToldBlob) (before after : List B) (block : B) (place : ℕ) →
      after ≡ before ++ block ∷ []
      → AreFirst tells (map shown before) blob place → name block ≡ blob.name → number block ≡ place
      + 1
      → (IsTrue tells → bytes block ≡ piece_at blob.bytes place) → AreFirst tells (map shown after)
      blob (place + 1)
  one_more tells blob before after block place is first named numbered told =
      let all : map shown after ≡ map shown before ++ shown block ∷ [] = ap (map shown) is ∙
      map-append shown before (block ∷ []) in
      let further = map-range_with_len_more (block_at blob) 0 place place (omega arith) in
      let same_name : without_bytes (shown block) ≡ without_bytes (block_at blob place) =
      λ i. record { name = named i; number = numbered i } in
      record {
        told = λ t. let same : shown block ≡ block_at blob place = λ i. record
            { name = named i; number = numbered i; bytes = told t i } in
            all ∙ (λ i. first.told t i ++ same i ∷ []) ∙ sym further;
        named =
            ap (map without_bytes) all ∙ map-append without_bytes (map shown before)
            (shown block ∷ [])
            ∙ (λ i. first.named i ++ same_name i ∷ [])
            ∙ sym (map-append without_bytes (map (block_at blob) (range_with_len 0 place))
            (block_at blob place ∷ []))
            ∙ ap (map without_bytes) (sym further);
      }

  pub none_yet : (tells : Bool) (blob : ToldBlob) → AreFirst tells (map shown []) blob 0
  none_yet tells blob = record { told = λ t. refl; named = refl }
