-- What is read as a manifest is spelled so, and what is spelled so is read.
use Rattle.std.proofs.Common.{◌≡◌, ◌⊎◌, ℕ, zero, suc, ◌+◌, ◌<◌, ◌≤◌, Bool, true, false, cond, eqb, List, [], ◌∷◌, ◌++◌, length, Result, Ok, Err, refl, ap, subst, ◌∙◌, arith, inl, inr}
use Rattle.std.specs.Prelude.{IfOk}
use Rattle.std.specs.Global.{Vec}
use Rattle.std.specs.List.{flat_map, AllByRecursion}
use Rattle.std.proofs.lemmas.Bool.{eqb-true, ne_eqb}
use Rattle.std.proofs.lemmas.List.{length-append, nil_from_length}
use Rattle.std.proofs.lemmas.List.Elements.{All-from_recursion, recursion_from_All}
use Rattle.lake_values.specs.declared.faults.Bad.{Bad}
use Rattle.lake_values.specs.declared.faults.DecodeFault.{DecodeFault}
use Rattle.lake_values.specs.Reading.{◌>>=◌, Gives}
use Rattle.lake_values.proofs.Ties.{IsBytes, ok_is, bind_ok}
use Rattle.manifest_block.specs.declared.items.Item.{Item}
use Rattle.manifest_block.specs.Spelling.{block_spelling, manifest_spelling, IsBlock, IsManifest}
use Rattle.manifest_block.specs.Reading.{block_at, blocks_at, manifest_of}
use Rattle.manifest_block.proofs.ItemTies.{block_tie}

-- a choice on a test, by what it chose
chosen : {A : Type 0} (b : Bool) (x y z : A) → cond b x y ≡ z → ((b ≡ true) × (x ≡ z)) ⊎ ((b ≡ false) × (y ≡ z))
chosen true x y z e = inl (refl, e)
chosen false x y z e = inr (refl, e)

takes_some : (items : List Item) → 1 ≤ length (block_spelling items)
takes_some items = omega arith

abbrev AreBlocks : List (List Item) → Type 0
AreBlocks blocks = (1 ≤ length blocks) × AllByRecursion IsBlock blocks

blocks_found : (bound at : ℕ) (bytes : List ℕ) (blocks : List (List Item)) → IsBytes bytes → length bytes < bound → blocks_at bound at bytes ≡ Ok blocks → (bytes ≡ flat_map block_spelling blocks) × AreBlocks blocks
unfolding blocks_at
blocks_found zero at bytes blocks fits few e = absurd (omega arith)
blocks_found (suc bound) at bytes blocks fits few e =
    let a = bind_ok (block_at at bytes) (λ first. cond (eqb (length first.2) 0) (Ok (first.0 ∷ [])) (blocks_at bound first.1 first.2 >>= λ others. Ok (first.0 ∷ others))) blocks e in
    let p = block_tie.found at bytes a.0 fits a.1 in
    elim (chosen (eqb (length a.0.2) 0) (Ok (a.0.0 ∷ [])) (blocks_at bound a.0.1 a.0.2 >>= λ others. Ok (a.0.0 ∷ others)) (Ok blocks) a.2) [
      | inl last ↦
          let none : a.0.2 ≡ [] = nil_from_length a.0.2 (eqb-true _ _ last.0) in
          let whole : bytes ≡ flat_map block_spelling (a.0.0 ∷ []) = p.0.parts ∙ ap (λ (r : List ℕ). block_spelling a.0.0 ++ r) none in
          subst (λ (bs : List (List Item)). (bytes ≡ flat_map block_spelling bs) × AreBlocks bs) (ok_is (a.0.0 ∷ []) blocks last.1) (whole, (omega arith, (p.1, tt)))
      | inr more ↦
          let b = bind_ok (blocks_at bound a.0.1 a.0.2) (λ others. Ok (a.0.0 ∷ others)) blocks more.1 in
          let shorter : length a.0.2 < bound = omega (arith, ap length p.0.parts, length-append (block_spelling a.0.0) a.0.2, takes_some a.0.0) in
          let others = blocks_found bound a.0.1 a.0.2 b.0 p.0.rest_fits shorter b.1 in
          let whole : bytes ≡ flat_map block_spelling (a.0.0 ∷ b.0) = p.0.parts ∙ ap (λ (r : List ℕ). block_spelling a.0.0 ++ r) others.0 in
          subst (λ (bs : List (List Item)). (bytes ≡ flat_map block_spelling bs) × AreBlocks bs) (ok_is (a.0.0 ∷ b.0) blocks b.2) (whole, (omega arith, (p.1, others.1.1)))
    ]

blocks_only : (bound at : ℕ) (x : List Item) (xs : List (List Item)) → AllByRecursion IsBlock (x ∷ xs) → length (flat_map block_spelling (x ∷ xs)) < bound → blocks_at bound at (flat_map block_spelling (x ∷ xs)) ≡ Ok (x ∷ xs)
unfolding blocks_at
blocks_only zero at x xs fits few = absurd (omega arith)
blocks_only (suc bound) at x [] fits few = rw (block_tie.only at x [] fits.0) refl
blocks_only (suc bound) at x (y ∷ ys) fits few =
    let rest : List ℕ = flat_map block_spelling (y ∷ ys) in
    let some : eqb (length (flat_map block_spelling (y ∷ ys))) 0 ≡ false = ne_eqb _ _ (λ e. omega (arith, e, length-append (block_spelling y) (flat_map block_spelling ys), takes_some y)) in
    let shorter : length (flat_map block_spelling (y ∷ ys)) < bound = omega (arith, few, length-append (block_spelling x) (flat_map block_spelling (y ∷ ys)), takes_some x) in
    rw (block_tie.only at x (flat_map block_spelling (y ∷ ys)) fits.0, some, blocks_only bound (at + length (block_spelling x)) y ys fits.1 shorter) refl

manifest_found : (bytes : List ℕ) (blocks : List (List Item)) → IsBytes bytes → manifest_of bytes ≡ Ok blocks → (bytes ≡ manifest_spelling blocks) × IsManifest blocks
unfolding manifest_of
manifest_found bytes blocks fits e =
    let h = blocks_found (suc (length bytes)) 0 bytes blocks fits (omega arith) e in
    (h.0, record { some = h.1.0; each = All-from_recursion IsBlock blocks h.1.1 })

manifest_only : (blocks : List (List Item)) → IsManifest blocks → manifest_of (manifest_spelling blocks) ≡ Ok blocks
unfolding manifest_of
manifest_only [] h = absurd (omega (arith, h.some))
manifest_only (x ∷ xs) h = blocks_only (suc (length (flat_map block_spelling (x ∷ xs)))) 0 x xs (recursion_from_All IsBlock (x ∷ xs) h.each) (omega arith)

-- the same of the answer of a call

pub given_spelled : (bytes : List ℕ) (r : Result (Vec (List Item)) DecodeFault) → IsBytes bytes → Gives (λ blocks. blocks.items) r (manifest_of bytes) → IfOk r (λ blocks. bytes ≡ manifest_spelling blocks.items)
given_spelled bytes (Ok v) fits e = (manifest_found bytes v.items fits e).0
given_spelled bytes (Err b) fits e = tt

pub given_fits : (bytes : List ℕ) (r : Result (Vec (List Item)) DecodeFault) → IsBytes bytes → Gives (λ blocks. blocks.items) r (manifest_of bytes) → IfOk r (λ blocks. IsManifest blocks.items)
given_fits bytes (Ok v) fits e = (manifest_found bytes v.items fits e).1
given_fits bytes (Err b) fits e = tt

pub given_only : (bytes : List ℕ) (r : Result (Vec (List Item)) DecodeFault) → Gives (λ blocks. blocks.items) r (manifest_of bytes)
    → (blocks : List (List Item)) → IsManifest blocks → bytes ≡ manifest_spelling blocks → Gives (λ found. found.items) r (Ok blocks)
given_only bytes r e blocks fits is =
    subst (λ (f : Result (List (List Item)) Bad). Gives (λ (found : Vec (List Item)). found.items) r f) (ap manifest_of is ∙ manifest_only blocks fits) e
