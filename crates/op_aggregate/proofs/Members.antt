-- One more row in one of the groups.
use Rattle.std.proofs.Common.{◌≡◌, ℕ, ◌<◌, List, [], ◌∷◌, ◌++◌, length, map, set, get_or, zero, suc, ap, ◌∙◌, arith}
use Rattle.op_aggregate.specs.Grouping.{with_member}
use Rattle.op_aggregate.proofs.Distinct.{Row}
use Rattle.op_aggregate.proofs.Kept.{Rows}

module _ {X : Type 0} (f : X → Rows) (r : Row) where
  -- in a new group
  pub with_member-end : (xs : List X) (y : X) (n : ℕ) → n ≡ length xs → f y ≡ r ∷ [] → map f (xs ++ y ∷ []) ≡ with_member (map f xs) n r
  with_member-end [] y n last alone = ap (λ (g : Rows). g ∷ []) alone
  with_member-end (x ∷ xs) y zero last alone = absurd (omega (arith, last))
  with_member-end (x ∷ xs) y (suc n) last alone = ap (λ (gs : List Rows). f x ∷ gs) (with_member-end xs y n (omega (arith, last)) alone)

  -- in one that is there
  pub with_member-set : (xs : List X) (i : ℕ) (x y : X) → i < length xs → x ≡ get_or xs i x → f y ≡ f x ++ r ∷ [] → map f (set xs i y) ≡ with_member (map f xs) i r
  with_member-set [] i x y within is more = absurd (omega (arith, within))
  with_member-set (z ∷ xs) zero x y within is more = ap (λ (g : Rows). g ∷ map f xs) (more ∙ ap (λ (w : X). f w ++ r ∷ []) is)
  with_member-set (z ∷ xs) (suc i) x y within is more = ap (λ (gs : List Rows). f z ∷ gs) (with_member-set xs i x y (omega (arith, within)) is more)
