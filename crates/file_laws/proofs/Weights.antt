-- What lists weigh.
use Rattle.std.proofs.Common.{◌≡◌, ℕ, ◌+◌, Bool, true, false, not, cond, List, [], ◌∷◌, ◌++◌, map}
use Rattle.std.proofs.Common.{filter, flat_map, refl, ap, arith, if◌then◌else◌}
use Rattle.std.specs.List.{AllByRecursion}
use Rattle.std.specs.Ordering.{is_gt, is_eq}
use Rattle.std.specs.Cmp.{Equal-is}
use Rattle.std.specs.declared.cmp.Ordering.{Ordering}
use Rattle.std.proofs.lemmas.Cmp.{tied_itself}
use Rattle.sql_model.specs.declared.changes.MarkedRow.{MarkedRow}
use Rattle.sql_model.specs.Listing.{IsPartOf, placed, weight}
use Rattle.sql_model.specs.Changes.{marked_cmp, without_one, without}
use Rattle.sql_model.proofs.Bags.{weight_append}
use Rattle.sql_model.proofs.MarkOrder.{marked_total, marked_tells}

pub weight_map : {X Y : Type 0} (f : X → Y) (g : Y → ℕ) (xs : List X) → weight g (map f xs) ≡ weight
    (λ x. g (f x)) xs
weight_map f g [] = refl
weight_map f g (x ∷ xs) = ap (λ (n : ℕ). g (f x) + n) (weight_map f g xs)

pub weight_filter : {X : Type 0} (p : X → Bool) (g : X → ℕ) (xs : List X) → weight g (filter p xs) ≡
    weight (λ x. if p x then g x else 0) xs
weight_filter p g [] = refl
weight_filter p g (x ∷ xs) =
    elim (p x) as (λ b. weight g (cond b (x ∷ filter p xs) (filter p xs)) ≡ (if b then g x else 0)
    + weight (λ x. if p x then g x else 0) xs) [
      | true ↦ ap (λ (n : ℕ). g x + n) (weight_filter p g xs)
      | false ↦ omega (arith, weight_filter p g xs)
    ]

pub weight_flat_map : {X Y : Type 0} (f : X → List Y) (g : Y → ℕ) (xs : List X) → weight g
    (flat_map f xs) ≡ weight (λ x. weight g (f x)) xs
weight_flat_map f g [] = refl
weight_flat_map f g (x ∷ xs) =
    omega (arith, weight_append g (f x) (flat_map f xs), weight_flat_map f g xs)

pub weight_placed : {X : Type 0} (cmp : X → X → Ordering) (g : X → ℕ) (x : X) (xs : List X) → weight
    g (placed cmp x xs) ≡ g x + weight g xs
weight_placed cmp g x [] = refl
weight_placed cmp g x (y ∷ ys) =
    elim (is_gt (cmp x y)) as
    (λ b. weight g (if b then y ∷ placed cmp x ys else x ∷ y ∷ ys) ≡ g x + (g y + weight g ys)) [
      | true ↦ omega (arith, weight_placed cmp g x ys)
      | false ↦ refl
    ]

-- what passes and what doesn't weigh as much as all
pub weight_halves : {X : Type 0} (p : X → Bool) (g : X → ℕ) (xs : List X) → weight g (filter p xs) +
    weight g (filter (λ x. not (p x)) xs) ≡ weight g xs
weight_halves p g [] = refl
weight_halves p g (x ∷ xs) =
    elim (p x) as (λ b. weight g (cond b (x ∷ filter p xs) (filter p xs)) + weight g
    (cond (not b) (x ∷ filter (λ x. not (p x)) xs) (filter (λ x. not (p x)) xs)) ≡ g x +
    weight g xs) [
      | true ↦ omega (arith, weight_halves p g xs)
      | false ↦ omega (arith, weight_halves p g xs)
    ]

-- members that pass weigh by two weights alike that agree where the test passes
pub weight_alike : {X : Type 0} (g h : X → ℕ) (xs : List X) → AllByRecursion (λ x. g x ≡ h x) xs →
    weight g xs ≡ weight h xs
weight_alike g h [] all = refl
weight_alike g h (x ∷ xs) all = omega (arith, all.0, weight_alike g h xs all.1)

-- what is taken out that is there

-- how often a row stands
tie : MarkedRow → MarkedRow → ℕ
tie x y = if is_eq (marked_cmp x y) then 1 else 0

tie_self : (x : MarkedRow) → tie x x ≡ 1
unfolding tie
tie_self x = rw (tied_itself marked_total x) refl

take_one : (g : MarkedRow → ℕ) (x : MarkedRow) (rows : List MarkedRow) (n : ℕ) → weight (tie x) rows
    ≡ n + 1 → weight g (without_one marked_cmp rows x) + g x ≡ weight g rows
unfolding tie
take_one g x [] n there = absurd (omega (arith, there))
take_one g x (r ∷ rs) n there =
    elim (is_eq (marked_cmp x r)) as (λ b. is_eq (marked_cmp x r) ≡ b → (if b then 1 else 0) +
    weight (tie x) rs ≡ n + 1 → weight g (if b then rs else r ∷ without_one marked_cmp rs x)
    + g x ≡ g r + weight g rs) [
      | true ↦ λ e h. let same : x ≡ r = marked_tells x r ((Equal-is (marked_cmp x r)).0 e) in omega
          (arith, ap g same)
      | false ↦ λ e h. omega (arith, take_one g x rs n (omega (arith, h)))
    ] refl there

pub weight_without : (removed rows : List MarkedRow) → IsPartOf removed rows → (g : MarkedRow → ℕ) →
    weight g (without marked_cmp rows removed) + weight g removed ≡ weight g rows
weight_without [] rows part g = omega arith
weight_without (x ∷ xs) rows part g =
    let one : weight (tie x) rows ≡ weight (tie x) (xs ++ part.0) + 1 = omega
    (arith, part.1 (tie x), tie_self x) in
    let less : IsPartOf xs (without_one marked_cmp rows x) = (
      part.0,
      λ h. omega
          (arith, part.1 h, take_one h x rows (weight (tie x) (xs ++ part.0)) one),
    ) in
    omega (
      arith,
      weight_without xs (without_one marked_cmp rows x) less g,
      take_one g x rows
          (weight (tie x) (xs ++ part.0)) one,
    )
