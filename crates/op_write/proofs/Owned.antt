-- The blocks of a blob have its name, and a blob is made of them.
use Rattle.std.proofs.Common.{◌≡◌, ℕ, ◌<◌, List, [], ◌∷◌, length, map, Option, Some, refl, sym, ap}
use Rattle.std.proofs.Common.{◌∙◌, arith}
use Rattle.std.specs.Prelude.{All}
use Rattle.std.specs.List.{flat_map, range_with_len}
use Rattle.std.specs.Option.{option_map_or}
use Rattle.std.proofs.lemmas.List.{length-map}
use Rattle.std.proofs.lemmas.List.Elements.{All-cons, All-head, All-map, All-tail}
use Rattle.std.proofs.lemmas.List.Folds.{flat_map-map}
use Rattle.std.proofs.lemmas.List.FromFn.{length-range_with_len}
use Rattle.lake_values.specs.declared.names.Name.{Name}
use Rattle.lake_values.specs.declared.names.Kind.TheVariants.{File}
use Rattle.lake_values.specs.declared.values.Value.{Value}
use Rattle.lake_outside.specs.Ports.{IsBlockOf, ToldBlob, ToldBlock, told_blob, told_block}
use Rattle.manifest_block.specs.declared.items.Item.TheVariants.{Remove}
use Rattle.manifest_block.specs.Spelling.{IsInForm}
use Rattle.op_write.specs.declared.keys.WriteKey.{WriteKey}
use Rattle.op_write.specs.Staging.{AreBlocksOf, NamedBlock, blob_of, block_at, block_count}
use Rattle.op_write.specs.Staging.{blocks_of, without_bytes}
use Rattle.op_write.specs.Writes.{add_item}

named_own : (n : Name) (blocks : List ToldBlock) → All (λ (b : NamedBlock). b.name ≡ n)
    (map without_bytes blocks)
    → All (λ (b : ToldBlock). IsBlockOf n b.name) blocks
named_own n [] all = λ k d lt. absurd (omega (arith, lt))
named_own n (b ∷ bs) all =
    let same = All-head (λ (b : NamedBlock). b.name ≡ n) (without_bytes b) (map without_bytes bs)
    all in
    All-cons (λ (b : ToldBlock). IsBlockOf n b.name) b bs
    (ap (λ (m : Name). m.kind) same, ap (λ (m : Name). m.txn) same)
    (named_own n bs
    (All-tail (λ (b : NamedBlock). b.name ≡ n) (without_bytes b) (map without_bytes bs) all))

-- what is named as the blocks of a blob that has bytes is blocks of it
pub are_blocks : (blob : ToldBlob) (blocks : List ToldBlock) → 0 < length blob.bytes
    → map without_bytes blocks ≡ map without_bytes (blocks_of blob) → AreBlocksOf (Some blob.name)
    blocks
are_blocks blob blocks some same =
    let count = block_count (length blob.bytes) in
    let named : All (λ (b : NamedBlock). b.name ≡ blob.name) (map without_bytes (blocks_of blob)) =
    All-map (λ (b : NamedBlock). b.name ≡ blob.name) without_bytes (blocks_of blob)
    (All-map (λ (b : ToldBlock). b.name ≡ blob.name) (block_at blob) (range_with_len 0 count)
    (λ k d lt. refl)) in
    let long : length blocks ≡ count =
    sym (length-map blocks without_bytes) ∙ ap (λ (l : List NamedBlock). length l) same ∙ length-map
    (blocks_of blob) without_bytes
    ∙ length-map (range_with_len 0 count) (block_at blob) ∙ length-range_with_len 0 count in
    (omega (arith, long, some), named_own blob.name blocks (rw same named))

-- the items of a merge are in form
pub merge_in_form : (key : WriteKey) (rows : List (List Value)) (replaced : List Name) → key.cell <
    16
    → All (λ (n : Name). n.kind ≡ File) replaced → All IsInForm
    (add_item key rows ∷ map (Remove key.table) replaced)
merge_in_form key rows replaced cell files =
    All-cons IsInForm (add_item key rows) (map (Remove key.table) replaced) (cell, refl)
    (All-map IsInForm (Remove key.table) replaced files)

module _ {B C : Type 0} (name : B → Name) (number : B → ℕ) (bytes : B → List ℕ)
    (blob_name : C → Name) (blob_bytes : C → List ℕ) where
  pub own_blocks : (n : Name) (blocks : List B) → All (λ (b : ToldBlock). IsBlockOf n b.name)
      (map (told_block name number bytes) blocks)
      → All (λ b. IsBlockOf n (name b)) blocks
  own_blocks n [] all = λ k d lt. absurd (omega (arith, lt))
  own_blocks n (b ∷ bs) all =
      All-cons (λ b. IsBlockOf n (name b)) b bs (All-head (λ (b : ToldBlock). IsBlockOf n b.name)
      (told_block name number bytes b) (map (told_block name number bytes) bs) all)
      (own_blocks n bs (All-tail (λ (b : ToldBlock). IsBlockOf n b.name)
      (told_block name number bytes b) (map (told_block name number bytes) bs) all))

  -- a blob of the blocks is what the staging becomes
  pub is_sealed : (blobs : List C) (blob : C) (n : Name) (committed blocks : List B)
      (staged : Option Name) → blobs ≡ blob ∷ [] → staged ≡ Some n
      → committed ≡ blocks → blob_name blob ≡ n → blob_bytes blob ≡ flat_map bytes committed
      → map (told_blob blob_name blob_bytes) blobs ≡ option_map_or
      (λ m. blob_of (map (told_block name number bytes) blocks) m ∷ []) staged []
  is_sealed blobs blob n committed blocks staged one is all named told =
      let joined = told ∙ ap (flat_map bytes) all ∙ sym
      (flat_map-map (λ (b : ToldBlock). b.bytes) (told_block name number bytes) blocks) in
      ap (map (told_blob blob_name blob_bytes)) one
      ∙ (λ i. record { name = named i; bytes = joined i } ∷ [])
      ∙ ap (λ (o : Option Name). option_map_or
      (λ m. blob_of (map (told_block name number bytes) blocks) m ∷ []) o []) (sym is)
