-- The order of the values doesn't matter for SUM, MIN and MAX.
use Rattle.std.proofs.Common.{◌≡◌, ℤ, ◌+ℤ◌, true, false, refl, sym, ap, ◌∙◌, subst, if◌then◌else◌, List, [], ◌∷◌}
use Rattle.std.proofs.Math.IntN.{+ℤ_comm, +ℤ_assoc}
use Rattle.std.proofs.lemmas.Cmp.{upto, back_total}
use Rattle.std.specs.Cmp.{IsTotalOrder}
use Rattle.std.specs.Ordering.{is_gt, ordering_reverse, ordering_then}
use Rattle.std.specs.declared.cmp.Ordering.{Ordering}
use Rattle.std.specs.declared.cmp.Ordering.TheVariants.{Less, Equal, Greater}
use Rattle.lake_values.specs.declared.values.Value.{Value}
use Rattle.lake_values.specs.declared.values.Value.TheVariants.{Null, Int}
use Rattle.lake_values.specs.Order.{value_cmp, value_cmp_total, row_cmp_tells, number_of}
use Rattle.sql_model.specs.Evaluation.{is_null}
use Rattle.lake_values.specs.Rows.{value_at}
use Rattle.sql_model.specs.Groups.{joined_by, sum_of_both, lesser, greater}

-- two values can swap places before a third
abbrev pub Swaps : {X : Type 0} → (X → X → X) → Type 0
Swaps {X} op = (u v w : X) → op u (op v w) ≡ op v (op u w)

-- where two values that aren't NULL make one that isn't, and swap, all values swap
module _ (op : Value → Value → Value) (whole : (v w : Value) → is_null v ≡ false → is_null w ≡ false → is_null (op v w) ≡ false) (comm : (v w : Value) → op v w ≡ op w v) (swap : Swaps op) where
  joined_whole : (v w : Value) → is_null v ≡ false → is_null w ≡ false → joined_by op v w ≡ op v w
  joined_whole Null w a b = absurd (cc)
  joined_whole v Null a b = absurd (cc)
  joined_whole v w a b = refl

  joined_swaps : Swaps (joined_by op)
  joined_swaps Null v w = refl
  joined_swaps u Null w = refl
  joined_swaps u v Null = comm u v
  joined_swaps u v w =
      joined_whole u (op v w) refl (whole v w refl refl) ∙ swap u v w ∙ sym (joined_whole v (op u w) refl (whole u w refl refl))

pub sum_swaps : Swaps (joined_by sum_of_both)
sum_swaps = joined_swaps sum_of_both (λ v w a b. refl) (λ v w. ap Int (+ℤ_comm (number_of v) (number_of w)))
    (λ u v w. ap Int (sym (+ℤ_assoc (number_of u) (number_of v) (number_of w)) ∙ ap (λ (n : ℤ). n +ℤ number_of w) (+ℤ_comm (number_of u) (number_of v)) ∙ +ℤ_assoc (number_of v) (number_of u) (number_of w)))

-- the lesser of two in an order
abbrev least : {X : Type 0} → (X → X → Ordering) → X → X → X
least cmp x y = if is_gt (cmp x y) then y else x

-- which of the two stands first doesn't matter, nor which of three
module _ {X : Type 0} {cmp : X → X → Ordering} (o : IsTotalOrder cmp) (tells : (x y : X) → cmp x y ≡ Equal → x ≡ y) where
  least_comm : (x y : X) → least cmp x y ≡ least cmp y x
  least_comm x y =
      rw (o.antisymm y x) (elim (cmp x y) as (λ r. cmp x y ≡ r → (if is_gt r then y else x) ≡ (if is_gt (ordering_reverse r) then x else y)) [
        | Less ↦ λ e. refl
        | Equal ↦ λ e. tells x y e
        | Greater ↦ λ e. refl
      ] refl)

  -- z is below y and not below x, so x is below y
  least_between : (x y z : X) → is_gt (cmp y z) ≡ true → is_gt (cmp x z) ≡ false → is_gt (cmp y x) ≡ true
  least_between x y z above up =
      elim (is_gt (cmp y x)) as (λ b. is_gt (cmp y x) ≡ b → b ≡ true) [
        | true ↦ λ e. refl
        | false ↦ λ e. sym (upto o y x z e up) ∙ above
      ] refl

  least_swaps : Swaps (least cmp)
  least_swaps x y z =
      elim (is_gt (cmp y z)) as (λ b. is_gt (cmp y z) ≡ b → least cmp x (if b then z else y) ≡ least cmp y (least cmp x z)) [
        | true ↦ λ e.
            elim (is_gt (cmp x z)) as (λ c. is_gt (cmp x z) ≡ c → (if c then z else x) ≡ least cmp y (if c then z else x)) [
              | true ↦ λ f. rw e refl
              | false ↦ λ f. rw (least_between x y z e f) refl
            ] refl
        | false ↦ λ e.
            elim (is_gt (cmp x z)) as (λ c. is_gt (cmp x z) ≡ c → least cmp x y ≡ least cmp y (if c then z else x)) [
              | true ↦ λ f. rw (least_between y x z f e, e) refl
              | false ↦ λ f. least_comm x y
            ] refl
      ] refl

module _ {cmp : Value → Value → Ordering} (o : IsTotalOrder cmp) (tells : (x y : Value) → cmp x y ≡ Equal → x ≡ y) where
  least_joined : Swaps (joined_by (least cmp))
  least_joined =
      joined_swaps (least cmp)
      (λ v w a b. elim (is_gt (cmp v w)) as (λ t. is_null (if t then w else v) ≡ false) [ true ↦ b | false ↦ a ])
      (least_comm o tells) (least_swaps o tells)

values_tell : (v w : Value) → value_cmp v w ≡ Equal → v ≡ w
values_tell v w e = ap (λ (r : List Value). value_at r 0) (row_cmp_tells (v ∷ []) (w ∷ []) (ap (λ (r : Ordering). ordering_then r Equal) e))

pub lesser_swaps : Swaps (joined_by lesser)
lesser_swaps = least_joined value_cmp_total values_tell

pub greater_swaps : Swaps (joined_by greater)
greater_swaps =
    let back = back_total value_cmp_total in
    let tell = λ (v w : Value) (e : value_cmp w v ≡ Equal). sym (values_tell w v e) in
    let P : (Value → Value → Value) → Type 0 = λ op. Swaps (joined_by op) in
    subst P (λ i v w. least_comm back tell v w i) (least_joined back tell)
