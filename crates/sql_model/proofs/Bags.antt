-- What lists share that are the same bag.
use Rattle.std.proofs.Common.{◌≡◌, ◌↔◌, ℕ, ◌+◌, Bool, true, false, ◌&&◌, cond, List, [], ◌∷◌, ◌++◌, map, filter, flat_map, length, refl, sym, ap, ◌∙◌, arith, if◌then◌else◌}
use Rattle.std.specs.List.{list_all}
use Rattle.std.specs.Ordering.{is_gt}
use Rattle.std.specs.Cmp.{IsTotalOrder}
use Rattle.std.specs.declared.cmp.Ordering.{Ordering}
use Rattle.std.specs.declared.cmp.Ordering.TheVariants.{Equal}
use Rattle.sql_model.specs.Listing.{placed, ordered, weight, SameBag}
use Rattle.sql_model.proofs.Sorting.{weight_ordered, ordered_rises, same_sorted}

-- what the members of a list weigh that is made of another, by the members of that one

pub weight_append : {X : Type 0} (g : X → ℕ) (xs ys : List X) → weight g (xs ++ ys) ≡ weight g xs + weight g ys
weight_append g [] ys = omega arith
weight_append g (x ∷ xs) ys = omega (arith, weight_append g xs ys)

weight_map : {X Y : Type 0} (f : X → Y) (g : Y → ℕ) (xs : List X) → weight g (map f xs) ≡ weight (λ x. g (f x)) xs
weight_map f g [] = refl
weight_map f g (x ∷ xs) = ap (λ (n : ℕ). g (f x) + n) (weight_map f g xs)

weight_filter : {X : Type 0} (p : X → Bool) (g : X → ℕ) (xs : List X) → weight g (filter p xs) ≡ weight (λ x. if p x then g x else 0) xs
weight_filter p g [] = refl
weight_filter p g (x ∷ xs) =
    elim (p x) as (λ b. weight g (cond b (x ∷ filter p xs) (filter p xs)) ≡ (if b then g x else 0) + weight (λ x. if p x then g x else 0) xs) [
      | true ↦ ap (λ (n : ℕ). g x + n) (weight_filter p g xs)
      | false ↦ omega (arith, weight_filter p g xs)
    ]

weight_flat_map : {X Y : Type 0} (f : X → List Y) (g : Y → ℕ) (xs : List X) → weight g (flat_map f xs) ≡ weight (λ x. weight g (f x)) xs
weight_flat_map f g [] = refl
weight_flat_map f g (x ∷ xs) = omega (arith, weight_append g (f x) (flat_map f xs), weight_flat_map f g xs)

weight_one : {X : Type 0} (xs : List X) → weight (λ x. 1) xs ≡ length xs
weight_one [] = refl
weight_one (x ∷ xs) = omega (arith, weight_one xs)

-- lists made alike of the same bags are the same bags

pub same_map : {X Y : Type 0} (f : X → Y) (xs ys : List X) → SameBag xs ys → SameBag (map f xs) (map f ys)
same_map f xs ys same g = weight_map f g xs ∙ same (λ x. g (f x)) ∙ sym (weight_map f g ys)

pub same_filter : {X : Type 0} (p : X → Bool) (xs ys : List X) → SameBag xs ys → SameBag (filter p xs) (filter p ys)
same_filter p xs ys same g = weight_filter p g xs ∙ same (λ x. if p x then g x else 0) ∙ sym (weight_filter p g ys)

pub same_flat_map : {X Y : Type 0} (f h : X → List Y) (xs ys : List X) → ((x : X) → SameBag (f x) (h x)) → SameBag xs ys → SameBag (flat_map f xs) (flat_map h ys)
same_flat_map {X} f h xs ys each same g =
    weight_flat_map f g xs ∙ same (λ x. weight g (f x)) ∙ ap (λ (k : X → ℕ). weight k ys) (λ i x. each x g i) ∙ sym (weight_flat_map h g ys)

pub same_length : {X : Type 0} (xs ys : List X) → SameBag xs ys → length xs ≡ length ys
same_length xs ys same = sym (weight_one xs) ∙ same (λ x. 1) ∙ weight_one ys

one_after_other : (b c : Bool) (n : ℕ) → ◌≡◌ {A = ℕ} (if c then (if b then n else 0) else 0) (if b then (if c then n else 0) else 0)
one_after_other true true n = refl
one_after_other true false n = refl
one_after_other false true n = refl
one_after_other false false n = refl

-- two filters, in either order
pub filters_swap : {X : Type 0} (p q : X → Bool) (xs : List X) → SameBag (filter p (filter q xs)) (filter q (filter p xs))
filters_swap {X} p q xs g =
    weight_filter p g (filter q xs) ∙ weight_filter q (λ x. if p x then g x else 0) xs
    ∙ ap (λ (k : X → ℕ). weight k xs) (λ i x. one_after_other (p x) (q x) (g x) i)
    ∙ sym (weight_filter q g (filter p xs) ∙ weight_filter p (λ x. if q x then g x else 0) xs)

and_swap : (a b c : Bool) → (a && (b && c)) ≡ (b && (a && c))
and_swap true true c = refl
and_swap true false c = refl
and_swap false true c = refl
and_swap false false c = refl

-- the same bags in order are one list
module _ {X : Type 0} {cmp : X → X → Ordering} (o : IsTotalOrder cmp) (tells : (x y : X) → cmp x y ≡ Equal → x ≡ y) where
  pub same_ordered : (xs ys : List X) → SameBag xs ys → ordered cmp xs ≡ ordered cmp ys
  same_ordered xs ys same =
      same_sorted o tells (ordered cmp xs) (ordered cmp ys) (ordered_rises o xs) (ordered_rises o ys) (λ g. weight_ordered cmp xs g ∙ same g ∙ sym (weight_ordered cmp ys g))

  -- lists are the same bag exactly where they are one list in order
  pub same_in_order : (xs ys : List X) → SameBag xs ys ↔ (ordered cmp xs ≡ ordered cmp ys)
  same_in_order xs ys = (same_ordered xs ys, λ one g. sym (weight_ordered cmp xs g) ∙ ap (weight g) one ∙ weight_ordered cmp ys g)

  -- what is equal after a swap of the first two members is equal for the same bags
  module _ {Y : Type 0} (f : List X → Y) (more : (x : X) (xs ys : List X) → f xs ≡ f ys → f (x ∷ xs) ≡ f (x ∷ ys)) (swap : (x y : X) (xs : List X) → f (x ∷ y ∷ xs) ≡ f (y ∷ x ∷ xs)) where
    kept_placed : (x : X) (xs : List X) → f (placed cmp x xs) ≡ f (x ∷ xs)
    kept_placed x [] = refl
    kept_placed x (y ∷ ys) =
        elim (is_gt (cmp x y)) as (λ b. f (if b then y ∷ placed cmp x ys else x ∷ y ∷ ys) ≡ f (x ∷ y ∷ ys)) [
          | true ↦ more y (placed cmp x ys) (x ∷ ys) (kept_placed x ys) ∙ swap y x ys
          | false ↦ refl
        ]

    kept_ordered : (xs : List X) → f (ordered cmp xs) ≡ f xs
    kept_ordered [] = refl
    kept_ordered (x ∷ xs) = kept_placed x (ordered cmp xs) ∙ more x (ordered cmp xs) xs (kept_ordered xs)

    pub same_if_swaps : (xs ys : List X) → SameBag xs ys → f xs ≡ f ys
    same_if_swaps xs ys same = sym (kept_ordered xs) ∙ ap f (same_ordered xs ys same) ∙ kept_ordered ys

  pub same_list_all : (p : X → Bool) (xs ys : List X) → SameBag xs ys → list_all p xs ≡ list_all p ys
  same_list_all p = same_if_swaps (list_all p) (λ x xs ys e. ap (λ (b : Bool). p x && b) e) (λ x y xs. and_swap (p x) (p y) (list_all p xs))
