-- A sorted list is its members in ascending order, where only equal members tie.
use Rattle.std.proofs.Common.{◌≡◌, ℕ, ◌+◌, ◌<◌, ◌≤◌, true, false, List, [], ◌∷◌, length, get_or, suc, refl, sym, ap, ◌∙◌, arith, if◌then◌else◌}
use Rattle.std.specs.Ordering.{is_gt, is_lt, is_eq, ordering_reverse}
use Rattle.std.specs.Cmp.{IsTotalOrder}
use Rattle.std.specs.List.{AllByRecursion}
use Rattle.std.specs.List.Sorted.{IsPermutation, IsSorted}
use Rattle.std.specs.declared.cmp.Ordering.{Ordering}
use Rattle.std.specs.declared.cmp.Ordering.TheVariants.{Less, Equal, Greater}
use Rattle.std.proofs.lemmas.Cmp.{upto, tied_itself}
use Rattle.std.proofs.lemmas.List.Sorted.{sorted_far, ranks_by, sum_by-IsPermutation}
use Rattle.std.proofs.lemmas.List.Recursion.{is_sum_by}
use Rattle.sql_model.specs.Listing.{placed, ordered, weight, SameBag}

module _ {X : Type 0} (cmp : X → X → Ordering) where
  -- x isn't above y
  abbrev pub UpTo : X → X → Type 0
  UpTo x y = is_gt (cmp x y) ≡ false

  -- no member is above a later one
  abbrev pub Rises : List X → Type 0
  Rises [] = Unit {0}
  Rises (x ∷ xs) = AllByRecursion (UpTo x) xs × Rises xs

pub all_placed : {X : Type 0} (cmp : X → X → Ordering) (P : X → Type 0) (x : X) (xs : List X) → P x → AllByRecursion P xs → AllByRecursion P (placed cmp x xs)
all_placed cmp P x [] px all = (px, tt)
all_placed cmp P x (y ∷ ys) px all =
    elim (is_gt (cmp x y)) as (λ b. AllByRecursion P (if b then y ∷ placed cmp x ys else x ∷ y ∷ ys)) [
      | true ↦ (all.0, all_placed cmp P x ys px all.1)
      | false ↦ (px, all)
    ]

weight_placed : {X : Type 0} (cmp : X → X → Ordering) (g : X → ℕ) (x : X) (xs : List X) → weight g (placed cmp x xs) ≡ g x + weight g xs
weight_placed cmp g x [] = refl
weight_placed cmp g x (y ∷ ys) =
    elim (is_gt (cmp x y)) as (λ b. weight g (if b then y ∷ placed cmp x ys else x ∷ y ∷ ys) ≡ g x + (g y + weight g ys)) [
      | true ↦ omega (arith, weight_placed cmp g x ys)
      | false ↦ refl
    ]

pub weight_ordered : {X : Type 0} (cmp : X → X → Ordering) (xs : List X) → SameBag (ordered cmp xs) xs
weight_ordered cmp [] g = refl
weight_ordered cmp (x ∷ xs) g = weight_placed cmp g x (ordered cmp xs) ∙ ap (λ (n : ℕ). g x + n) (weight_ordered cmp xs g)

weight_none : {X : Type 0} (g : X → ℕ) (xs : List X) → AllByRecursion (λ x. g x ≡ 0) xs → weight g xs ≡ 0
weight_none g [] all = refl
weight_none g (x ∷ xs) all = omega (arith, all.0, weight_none g xs all.1)

-- members moved to other places are the same bag
pub same_moved : {X : Type 0} (xs ys : List X) → IsPermutation xs ys → SameBag xs ys
same_moved xs ys moved g =
    is_sum_by (weight g) g refl (λ _ _. refl) xs ∙ sym (sum_by-IsPermutation g xs ys moved) ∙ sym (is_sum_by (weight g) g refl (λ _ _. refl) ys)

pub all_more : {X : Type 0} {P Q : X → Type 0} (xs : List X) → ((x : X) → P x → Q x) → AllByRecursion P xs → AllByRecursion Q xs
all_more [] f all = tt
all_more (x ∷ xs) f all = (f x all.0, all_more xs f all.1)

module _ {X : Type 0} {cmp : X → X → Ordering} (o : IsTotalOrder cmp) where
  turned : (x y : X) → is_gt (cmp x y) ≡ true → UpTo cmp y x
  turned x y h =
      rw (o.antisymm y x) (elim (cmp x y) as (λ r. is_gt r ≡ true → is_gt (ordering_reverse r) ≡ false) [ Less ↦ λ e. sym e | Equal ↦ λ e. refl | Greater ↦ λ e. refl ] h)

  placed_rises : (x : X) (xs : List X) → Rises cmp xs → Rises cmp (placed cmp x xs)
  placed_rises x [] up = (tt, tt)
  placed_rises x (y ∷ ys) up =
      elim (is_gt (cmp x y)) as (λ b. is_gt (cmp x y) ≡ b → Rises cmp (if b then y ∷ placed cmp x ys else x ∷ y ∷ ys)) [
        | true ↦ λ e. (all_placed cmp (UpTo cmp y) x ys (turned x y e) up.0, placed_rises x ys up.1)
        | false ↦ λ e. ((e, all_more ys (λ z h. upto o x y z e h) up.0), up)
      ] refl

  pub ordered_rises : (xs : List X) → Rises cmp (ordered cmp xs)
  ordered_rises [] = tt
  ordered_rises (x ∷ xs) = placed_rises x (ordered cmp xs) (ordered_rises xs)

  -- how often a member that ties with x stands
  tie : X → X → ℕ
  tie x z = if is_eq (cmp x z) then 1 else 0

  tie_self : (x : X) → tie x x ≡ 1
  unfolding tie
  tie_self x = rw (tied_itself o x) refl

  -- below the first member, no member ties
  tie_none : (x y z : X) → cmp x y ≡ Less → UpTo cmp y z → tie x z ≡ 0
  unfolding tie
  tie_none x y z less up =
      elim (cmp x z) as (λ r. cmp x z ≡ r → ◌≡◌ {A = ℕ} (if is_eq r then 1 else 0) 0) [
        | Less ↦ λ e. refl
        | Equal ↦ λ e. absurd (above e)
        | Greater ↦ λ e. refl
      ] refl
    where
      above : cmp x z ≡ Equal → ⊥
      above e =
          let back : cmp z y ≡ Less = sym (o.congr x z y e) ∙ less in
          let greater : cmp y z ≡ Greater = o.antisymm y z ∙ ap ordering_reverse back in
          let both : true ≡ false = sym (ap is_gt greater) ∙ up in
          cc

  heads_not_less : (x y : X) (xs ys : List X) → AllByRecursion (UpTo cmp y) ys → SameBag (x ∷ xs) (y ∷ ys) → cmp x y ≡ Less → ⊥
  heads_not_less x y xs ys up same less =
      let none : weight (tie x) ys ≡ 0 = weight_none (tie x) ys (all_more ys (λ z h. tie_none x y z less h) up) in
      let first : tie x y ≡ 0 = tie_none x y y less (ap is_gt (tied_itself o y)) in
      let one : tie x x ≡ 1 = tie_self x in
      let equal : tie x x + weight (tie x) xs ≡ tie x y + weight (tie x) ys = same (tie x) in
      omega arith

  same_heads : ((x y : X) → cmp x y ≡ Equal → x ≡ y) → (x y : X) (xs ys : List X) → Rises cmp (x ∷ xs) → Rises cmp (y ∷ ys) → SameBag (x ∷ xs) (y ∷ ys) → x ≡ y
  same_heads tells x y xs ys ux uy same =
      elim (cmp x y) as (λ r. cmp x y ≡ r → x ≡ y) [
        | Less ↦ λ e. absurd (heads_not_less x y xs ys uy.0 same e)
        | Equal ↦ λ e. tells x y e
        | Greater ↦ λ e. absurd (heads_not_less y x ys xs ux.0 (λ g. sym (same g)) (o.antisymm y x ∙ ap ordering_reverse e))
      ] refl

  pub same_sorted : ((x y : X) → cmp x y ≡ Equal → x ≡ y) → (xs ys : List X) → Rises cmp xs → Rises cmp ys → SameBag xs ys → xs ≡ ys
  same_sorted tells [] [] ux uy same = refl
  same_sorted tells [] (y ∷ ys) ux uy same = absurd (omega (arith, same (λ z. 1)))
  same_sorted tells (x ∷ xs) [] ux uy same = absurd (omega (arith, same (λ z. 1)))
  same_sorted tells (x ∷ xs) (y ∷ ys) ux uy same =
      let heads : x ≡ y = same_heads tells x y xs ys ux uy same in
      let tails : SameBag xs ys = λ (g : X → ℕ). omega (arith, same g, ap g heads) in
      λ i. heads i ∷ same_sorted tells xs ys ux.1 uy.1 tails i

  -- each member up to each later one, by their places
  Far : List X → Type 0
  Far xs = (i j : ℕ) (d : X) → i ≤ j → j < length xs → UpTo cmp (get_or xs i d) (get_or xs j d)

  all_far : (x : X) (xs : List X) → ((j : ℕ) (d : X) → j < length xs → UpTo cmp x (get_or xs j d)) → AllByRecursion (UpTo cmp x) xs
  all_far x [] far = tt
  all_far x (y ∷ ys) far = (far 0 y (omega arith), all_far x ys (λ j d h. far (suc j) d (omega arith)))

  rises_far : (xs : List X) → Far xs → Rises cmp xs
  unfolding Far
  rises_far [] far = tt
  rises_far (x ∷ xs) far =
      (all_far x xs (λ j d h. far 0 (suc j) d (omega arith) (omega arith)), rises_far xs (λ i j d h k. far (suc i) (suc j) d (omega arith) (omega arith)))

  not_below : (x y : X) → is_lt (cmp y x) ≡ false → UpTo cmp x y
  not_below x y h =
      rw (o.antisymm x y) (elim (cmp y x) as (λ r. is_lt r ≡ false → is_gt (ordering_reverse r) ≡ false) [ Less ↦ λ e. e | Equal ↦ λ e. refl | Greater ↦ λ e. refl ] h)

  -- a sorted list rises
  pub rises_from_sorted : (xs : List X) → IsSorted cmp xs → Rises cmp xs
  unfolding Far
  rises_from_sorted xs sorted =
      rises_far xs (λ i j d h k. not_below (get_or xs i d) (get_or xs j d) (sorted_far (λ (a b : X). is_lt (cmp a b)) (ranks_by o (λ (a : X). a)) xs sorted i j d h k))

  -- what a sort leaves is the members in ascending order
  pub ordered_from_sort : ((x y : X) → cmp x y ≡ Equal → x ≡ y) → (xs ys : List X) → IsPermutation xs ys → IsSorted cmp ys → ys ≡ ordered cmp xs
  ordered_from_sort tells xs ys moved sorted =
      same_sorted tells ys (ordered cmp xs) (rises_from_sorted ys sorted) (ordered_rises xs)
      (λ (g : X → ℕ). sym (same_moved xs ys moved g) ∙ sym (weight_ordered cmp xs g))
