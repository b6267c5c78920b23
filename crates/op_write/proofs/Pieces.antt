-- The blocks of a blob have its bytes, in order.
use Rattle.std.proofs.Common.{◌≡◌, ℕ, zero, suc, ◌+◌, ◌*◌, List, [], ◌∷◌, ◌++◌, length, map, take}
use Rattle.std.proofs.Common.{drop, Option, Some, None, append-nil, refl, sym, ap, ◌∙◌, arith}
use Rattle.std.specs.List.{flat_map, range_with_len}
use Rattle.std.proofs.Math.Seq.{take-nil}
use Rattle.std.proofs.lemmas.List.{take_all}
use Rattle.std.proofs.lemmas.List.FromFn.{map-range_with_len_more}
use Rattle.std.proofs.lemmas.Grind.{flat_map-append}
use Rattle.lake_outside.specs.Ports.{ToldBlob, ToldBlock}
use Rattle.op_write.specs.declared.keys.WriteKey.{WriteKey}
use Rattle.op_write.specs.Laws.{SealsWhatIsStaged}
use Rattle.op_write.specs.Staging.{block_at, block_count, block_size, blocks_of, items_block}
use Rattle.op_write.specs.Staging.{piece_at, sealed, staged, written}
use Rattle.op_write.specs.Writes.{Output}

-- a list up to a place, and so many members behind it
take_further : (n m : ℕ) (xs : List ℕ) → take (n + m) xs ≡ take n xs ++ take m (drop n xs)
take_further zero m [] = take-nil (0 + m) ∙ sym (take-nil m)
take_further zero m (x ∷ xs) = ap (λ (k : ℕ). take k (x ∷ xs)) (omega arith)
take_further (suc n) m [] = take-nil (suc n + m) ∙ sym (take-nil m)
take_further (suc n) m (x ∷ xs) =
    let e : suc n + m ≡ suc (n + m) = omega arith in
    rw e (ap (λ (l : List ℕ). x ∷ l) (take_further n m xs))

-- the bytes of so many blocks
abbrev pieces : ToldBlob → ℕ → List ℕ
pieces blob k = flat_map (λ (b : ToldBlock). b.bytes) (map (block_at blob) (range_with_len 0 k))

one_piece_more : (blob : ToldBlob) (k : ℕ) → pieces blob (k + 1) ≡ pieces blob k ++ piece_at
    blob.bytes k
one_piece_more blob k =
    ap (flat_map (λ (b : ToldBlock). b.bytes))
    (map-range_with_len_more (block_at blob) 0 k k (omega arith))
    ∙ flat_map-append (λ (b : ToldBlock). b.bytes) (map (block_at blob) (range_with_len 0 k))
    (block_at blob k ∷ [])
    ∙ ap (λ (l : List ℕ). pieces blob k ++ l) (append-nil (piece_at blob.bytes k))

pieces_up_to : (blob : ToldBlob) (k : ℕ) → pieces blob k ≡ take (k * block_size) blob.bytes
pieces_up_to blob zero = sym (take_none blob.bytes)
  where
    take_none : (xs : List ℕ) → take 0 xs ≡ []
    take_none [] = refl
    take_none (x ∷ xs) = refl
pieces_up_to blob (suc k) =
    let e : suc k ≡ k + 1 = omega arith in
    let further : (k + 1) * block_size ≡ k * block_size + block_size = omega arith in
    ap (pieces blob) e ∙ one_piece_more blob k ∙ ap (λ (l : List ℕ). l ++ piece_at blob.bytes k)
    (pieces_up_to blob k)
    ∙ sym (take_further (k * block_size) block_size blob.bytes) ∙ ap (λ (n : ℕ). take n blob.bytes)
    (sym further)
    ∙ ap (λ (n : ℕ). take (n * block_size) blob.bytes) (sym e)

pub bytes_of_blocks : (blob : ToldBlob) → flat_map (λ (b : ToldBlock). b.bytes) (blocks_of blob) ≡
    blob.bytes
bytes_of_blocks blob =
    pieces_up_to blob (block_count (length blob.bytes)) ∙ take_all
    (block_count (length blob.bytes) * block_size) blob.bytes (omega arith)

seals_blob : (key : WriteKey) (o : Output) (blob : Option ToldBlob) → o.blob ≡ blob → sealed
    (staged key o) ≡ written key o
seals_blob key o None is = rw is refl
seals_blob key o (Some blob) is =
    rw is (λ i. record {
      blobs = record { name = blob.name; bytes = bytes_of_blocks blob i } ∷ [];
      block = items_block key o.items;
      items = o.items;
    })

pub seals_what_is_staged : SealsWhatIsStaged
seals_what_is_staged key o = seals_blob key o o.blob refl
