-- Reading blocks one after the other, as a loop does.
use Rattle.std.proofs.Common.{◌≡◌, ℕ, suc, ◌-◌, ◌<◌, ◌≤◌, true, false, eqb, List, [], ◌∷◌, ◌++◌, length, Result, Ok, Err, refl, sym, ap, ◌∙◌, append_assoc, arith}
use Rattle.std.proofs.lemmas.Bool.{eq-eqb, ne_eqb}
use Rattle.lake_values.specs.declared.faults.Bad.{Bad}
use Rattle.lake_values.specs.declared.faults.DecodeFault.{DecodeFault}
use Rattle.lake_values.specs.declared.faults.DecodeFault.TheVariants as faults
use Rattle.lake_values.specs.Reading.{◌>>=◌, Fails}
use Rattle.manifest_block.specs.declared.items.Item.{Item}
use Rattle.manifest_block.specs.Reading.{block_at, blocks_at, manifest_of}

-- the blocks that were read, and those that are still read
abbrev pub with_blocks : List (List Item) → Result (List (List Item)) Bad → Result (List (List Item)) Bad
with_blocks front read = read >>= λ x. Ok (front ++ x)

regroup : (front : List (List Item)) (x : List Item) (read : Result (List (List Item)) Bad) → with_blocks front (read >>= λ others. Ok (x ∷ others)) ≡ with_blocks (front ++ x ∷ []) read
regroup front x (Ok y) = ap (λ (xs : List (List Item)). Ok xs) (sym (append_assoc front (x ∷ []) y))
regroup front x (Err b) = refl

-- a block with others behind it
pub one_more : (front : List (List Item)) (bound at : ℕ) (bytes : List ℕ) (x : List Item) (behind : ℕ) (rest : List ℕ) (total : Result (List (List Item)) Bad)
    → block_at at bytes ≡ Ok (x, behind, rest) → 0 < length rest → with_blocks front (blocks_at (suc bound) at bytes) ≡ total → with_blocks (front ++ x ∷ []) (blocks_at bound behind rest) ≡ total
unfolding blocks_at
one_more front bound at bytes x behind rest total step more so_far =
    let test : eqb (length rest) 0 ≡ false = ne_eqb _ _ (λ e. omega (arith, e)) in
    let opened : with_blocks front (blocks_at (suc bound) at bytes) ≡ with_blocks front (blocks_at bound behind rest >>= λ others. Ok (x ∷ others)) = rw (step, test) refl in
    sym (regroup front x (blocks_at bound behind rest)) ∙ sym opened ∙ so_far

-- the last block
pub last_one : (front : List (List Item)) (bound at : ℕ) (bytes : List ℕ) (x : List Item) (behind : ℕ) (rest : List ℕ) (total : Result (List (List Item)) Bad)
    → block_at at bytes ≡ Ok (x, behind, rest) → length rest ≡ 0 → with_blocks front (blocks_at (suc bound) at bytes) ≡ total → total ≡ Ok (front ++ x ∷ [])
unfolding blocks_at
last_one front bound at bytes x behind rest total step none so_far =
    let test : eqb (length rest) 0 ≡ true = eq-eqb _ _ none in
    let opened : with_blocks front (blocks_at (suc bound) at bytes) ≡ Ok (front ++ x ∷ []) = rw (step, test) refl in
    sym so_far ∙ opened

-- a block that isn't read
pub no_block : (e : DecodeFault) (front : List (List Item)) (bound at : ℕ) (bytes : List ℕ) (total : Result (List (List Item)) Bad)
    → Fails e (block_at at bytes) → with_blocks front (blocks_at (suc bound) at bytes) ≡ total → Fails e total
unfolding blocks_at
no_block faults.NoMemory front bound at bytes total fails so_far = tt
no_block (faults.Bad b) front bound at bytes total fails so_far =
    let opened : with_blocks front (blocks_at (suc bound) at bytes) ≡ Err b = rw fails refl in
    sym so_far ∙ opened

-- the bound that is left while fewer blocks were read than bytes
pub bound_left : (all done at : ℕ) → done ≤ at → at ≤ all → suc all - done ≡ suc (all - done)
bound_left all done at few within = omega arith

pub starts : (bytes : List ℕ) (front : List (List Item)) → front ≡ [] → with_blocks front (blocks_at (suc (length bytes) - length front) 0 bytes) ≡ manifest_of bytes
unfolding manifest_of
starts bytes front none =
    let all : suc (length bytes) - 0 ≡ suc (length bytes) = omega arith in
    rw (none, all) (whole (blocks_at (suc (length bytes)) 0 bytes))
  where
    whole : (read : Result (List (List Item)) Bad) → with_blocks [] read ≡ read
    whole (Ok x) = refl
    whole (Err b) = refl
