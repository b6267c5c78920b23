-- Lists in parts, and what an option holds.
use Rattle.std.proofs.Common.{◌≡◌, ◌⊎◌, inl, inr, refl, sym, ℕ, ◌<◌, List, [], ◌∷◌, ◌++◌, Option, Some, None, option_map, eq-zero-or-pos}

pub no_parts : {X : Type 0} (a b : List X) → [] ≡ a ++ b → (a ≡ []) × (b ≡ [])
no_parts [] b e = (refl, sym e)
no_parts (x ∷ a) b e = absurd cc

-- the first of two parts has the first token, or is empty
pub first_part : {X : Type 0} (t : X) (ts a b : List X) → t ∷ ts ≡ a ++ b → ((us : List X) × (a ≡ t ∷ us)) ⊎ ((a ≡ []) × (b ≡ t ∷ ts))
first_part t ts [] b e = inr (refl, sym e)
first_part t ts (x ∷ a) b e = inl (a, cc)

pub map_some : {A B : Type 0} (f : A → B) (o : Option A) (y : B) → option_map f o ≡ Some y → (x : A) × (o ≡ Some x) × (f x ≡ y)
map_some f (Some x) y e = (x, refl, cc)
map_some f None y e = absurd cc

-- where a bound is passed, no token keeps the bounds
pub none_kept : {P : Type 0} (kept : ℕ) → (0 < kept → P) → (P → ⊥) → kept ≡ 0
none_kept kept h fails = elim (eq-zero-or-pos kept) [ inl e ↦ e | inr e ↦ absurd (fails (h e)) ]
