-- Lists in ascending order, and bags.
use Rattle.std.specs.Prelude.{◌≡◌, ℕ, zero, suc, ◌+◌, ◌⊎◌, List, [], ◌∷◌, ◌++◌, if◌then◌else◌}
use Rattle.std.specs.Ordering.{is_gt}
use Rattle.std.specs.declared.cmp.Ordering.{Ordering}
use Rattle.lake_values.specs.declared.values.Value.{Value}
use Rattle.lake_values.specs.Order.{row_cmp}

-- x put before the first member that isn't below it
abbrev pub placed : {X : Type 0} → (X → X → Ordering) → X → List X → List X
placed cmp x [] = x ∷ []
placed cmp x (y ∷ ys) = if is_gt (cmp x y) then y ∷ placed cmp x ys else x ∷ y ∷ ys

-- the members in ascending order
abbrev pub ordered : {X : Type 0} → (X → X → Ordering) → List X → List X
ordered cmp [] = []
ordered cmp (x ∷ xs) = placed cmp x (ordered cmp xs)

-- rows as an answer lists them
abbrev pub listed : List (List Value) → List (List Value)
listed rows = ordered row_cmp rows

-- the sum of what the members weigh
abbrev pub weight : {X : Type 0} → (X → ℕ) → List X → ℕ
weight g [] = 0
weight g (x ∷ xs) = g x + weight g xs

-- each member stands in both equally often, in whatever order
abbrev pub SameBag : {X : Type 0} → List X → List X → Type 0
SameBag {X} xs ys = (g : X → ℕ) → weight g xs ≡ weight g ys

-- these stand among those, as often
abbrev pub IsPartOf : {X : Type 0} → List X → List X → Type 0
IsPartOf {X} xs ys = (rest : List X) × SameBag (xs ++ rest) ys

-- x is a member
abbrev pub IsOneOf : {X : Type 0} → List X → X → Type 0
IsOneOf [] x = ⊥
IsOneOf (y ∷ ys) x = (y ≡ x) ⊎ IsOneOf ys x

-- so many numbers from this one on
abbrev pub numbers : ℕ → ℕ → List ℕ
numbers from zero = []
numbers from (suc count) = from ∷ numbers (from + 1) count
