-- What a transaction sees after a further statement.
use Rattle.std.proofs.Common.{◌≡◌, ℕ, ◌+◌, Bool, true, false, not, ◌&&◌, cond, nat_eq, List, []}
use Rattle.std.proofs.Common.{◌∷◌, ◌++◌, map, filter, flat_map, refl, sym, ap, ◌∙◌, arith, subst}
use Rattle.std.proofs.Common.{if◌then◌else◌}
use Rattle.std.proofs.lemmas.Bool.{eqb-true}
use Rattle.std.proofs.lemmas.Cmp.{tied_itself}
use Rattle.std.proofs.lemmas.List.{append-nil}
use Rattle.std.proofs.lemmas.List.Elements.{filter-append}
use Rattle.std.specs.List.{AllByRecursion}
use Rattle.std.specs.Ordering.{is_eq}
use Rattle.std.specs.Cmp.{IsTotalOrder, Equal-is}
use Rattle.std.specs.declared.cmp.Ordering.{Ordering}
use Rattle.std.specs.declared.cmp.Ordering.TheVariants.{Equal}
use Rattle.lake_values.specs.declared.values.Value.{Value}
use Rattle.lake_values.specs.Order.{row_cmp, row_cmp_total, row_cmp_tells}
use Rattle.sql_model.specs.declared.changes.Added.{Added}
use Rattle.sql_model.specs.declared.changes.MarkedRow.{MarkedRow}
use Rattle.sql_model.specs.Listing.{IsPartOf, weight}
use Rattle.sql_model.specs.Changes.{added_to, additions_left, committed, is_nil, is_of_part, is_own}
use Rattle.sql_model.specs.Changes.{left_of, marked, marked_cmp, own, pend, removed_from, without}
use Rattle.sql_model.specs.Changes.{without_one}
use Rattle.sql_model.specs.Versions.{Table}
use Rattle.lake_values.specs.Texts.{same_text}
use Rattle.sql_model.proofs.Bags.{weight_append, same_filter, same_map}
use Rattle.sql_model.proofs.Lists.{all_append, all_weaker, all_both}
use Rattle.lake_model.proofs.Pending.{all_without, part_all}
use Rattle.sql_model.proofs.Removal.{filter_all, filter_none}
use Rattle.sql_model.proofs.MarkOrder.{marked_total, marked_tells}
use Rattle.lake_values.proofs.SameTexts.{same_text_is, same_text_self}
use Rattle.file_laws.specs.Pends.{HaveOwnParts, PendsAsSeen}
use Rattle.file_laws.proofs.TouchLaw.{both_true}
use Rattle.file_laws.proofs.Weights.{weight_map, weight_filter, weight_flat_map, weight_halves}
use Rattle.file_laws.proofs.Weights.{weight_alike, weight_without}

-- to take members out that are there, for any order that tells them apart
module _ {X : Type 0} {cmp : X → X → Ordering} (o : IsTotalOrder cmp)
    (tells : (x y : X) → cmp x y ≡ Equal → x ≡ y) where
  tie : X → X → ℕ
  tie x y = if is_eq (cmp x y) then 1 else 0

  tie_self : (x : X) → tie x x ≡ 1
  unfolding tie
  tie_self x = rw (tied_itself o x) refl

  take_one : (g : X → ℕ) (x : X) (rows : List X) (n : ℕ) → weight (tie x) rows ≡ n + 1 → weight g
      (without_one cmp rows x) + g x ≡ weight g rows
  unfolding tie
  take_one g x [] n there = absurd (omega (arith, there))
  take_one g x (r ∷ rs) n there =
      elim (is_eq (cmp x r)) as (λ b. is_eq (cmp x r) ≡ b → (if b then 1 else 0) + weight (tie x)
      rs ≡ n + 1 → weight g (if b then rs else r ∷ without_one cmp rs x) + g x ≡ g r + weight
      g rs) [
        | true ↦ λ e h. let same : x ≡ r = tells x r ((Equal-is (cmp x r)).0 e) in omega
            (arith, ap g same)
        | false ↦ λ e h. omega (arith, take_one g x rs n (omega (arith, h)))
      ] refl there

  weight_left : (removed rows : List X) → IsPartOf removed rows → (g : X → ℕ) → weight g
      (without cmp rows removed) + weight g removed ≡ weight g rows
  weight_left [] rows part g = omega arith
  weight_left (x ∷ xs) rows part g =
      let one : weight (tie x) rows ≡ weight (tie x) (xs ++ part.0) + 1 = omega
      (arith, part.1 (tie x), tie_self x) in
      let less : IsPartOf xs (without_one cmp rows x) = (
        part.0,
        λ h. omega
            (arith, part.1 h, take_one h x rows (weight (tie x) (xs ++ part.0)) one),
      ) in
      omega (
        arith,
        weight_left xs (without_one cmp rows x) less g,
        take_one g x rows
            (weight (tie x) (xs ++ part.0)) one,
      )

without_append : (rows xs ys : List MarkedRow) → without marked_cmp rows (xs ++ ys) ≡ without
    marked_cmp (without marked_cmp rows xs) ys
without_append rows [] ys = refl
without_append rows (x ∷ xs) ys = without_append (without_one marked_cmp rows x) xs ys

-- a part of what passes among two lists, where all of the one and none of the other pass
part_of_left : (q : MarkedRow → Bool) (xs ls rs : List MarkedRow) → IsPartOf xs (ls ++ rs) → filter
    q ls ≡ ls → filter q rs ≡ [] → IsPartOf (filter q xs) ls
part_of_left q xs ls rs part all none = (
  filter q part.0,
  λ g.
      let whole = same_filter q (xs ++ part.0) (ls ++ rs) part.1 g in
      let left = ap (weight g) (filter-append q xs part.0) in
      let right : weight g (filter q (ls ++ rs)) ≡ weight g ls = ap (weight g)
      (filter-append q ls rs ∙ (λ i. all i ++ none i) ∙ append-nil ls) in
      omega (arith, whole, left, right),
)

part_of_right : (q : MarkedRow → Bool) (xs ls rs : List MarkedRow) → IsPartOf xs (ls ++ rs) → filter
    q ls ≡ [] → filter q rs ≡ rs → IsPartOf (filter q xs) rs
part_of_right q xs ls rs part none all = (
  filter q part.0,
  λ g.
      let whole = same_filter q (xs ++ part.0) (ls ++ rs) part.1 g in
      let left = ap (weight g) (filter-append q xs part.0) in
      let right : weight g (filter q (ls ++ rs)) ≡ weight g rs = ap (weight g)
      (filter-append q ls rs ∙ (λ i. none i ++ all i)) in
      omega (arith, whole, left, right),
)

-- sums in either order
weight_swap : {X Y : Type 0} (h : X → Y → ℕ) (xs : List X) (ys : List Y) → weight
    (λ x. weight (h x) ys) xs ≡ weight (λ y. weight (λ x. h x y) xs) ys
weight_swap h [] ys = sym (zeros ys)
  where
    zeros : {Y : Type 0} (ys : List Y) → weight (λ y. 0) ys ≡ 0
    zeros [] = refl
    zeros (y ∷ ys) = omega (arith, zeros ys)
weight_swap h (x ∷ xs) ys =
    ap (λ (n : ℕ). weight (h x) ys + n) (weight_swap h xs ys) ∙ sym
    (weight_both (h x) (λ y. weight (λ x. h x y) xs) ys)
  where
    weight_both : {Y : Type 0} (g k : Y → ℕ) (ys : List Y) → weight (λ y. g y + k y) ys ≡ weight g
        ys + weight k ys
    weight_both g k [] = omega arith
    weight_both g k (y ∷ ys) = omega (arith, weight_both g k ys)

abbrev one_if : Bool → ℕ
one_if b = if b then 1 else 0

and_false : (a : Bool) {b : Bool} → b ≡ false → (a && b) ≡ false
and_false true e = e
and_false false e = refl

number_self : (n : ℕ) → nat_eq n n ≡ true
number_self n = grind arith

number_sym : (m n : ℕ) → nat_eq m n ≡ false → nat_eq n m ≡ false
number_sym m n e = grind arith

pub filter_swap : {X : Type 0} (p q : X → Bool) (xs : List X) → filter p (filter q xs) ≡ filter q
    (filter p xs)
filter_swap p q [] = refl
filter_swap {X} p q (x ∷ xs) =
    elim (p x) as (λ a. p x ≡ a → filter p (cond (q x) (x ∷ filter q xs) (filter q xs)) ≡ filter q
    (cond a (x ∷ filter p xs) (filter p xs))) [
      | true ↦ λ e. elim (q x) as (λ b. q x ≡ b → filter p (cond b (x ∷ filter q xs) (filter q xs))
          ≡ cond b (x ∷ filter q (filter p xs)) (filter q (filter p xs))) [
            | true ↦ λ f. rw e (ap (λ (ys : List X). x ∷ ys) (filter_swap p q xs))
            | false ↦ λ f. filter_swap p q xs
          ] refl
      | false ↦ λ e. elim (q x) as (λ b. q x ≡ b → filter p
          (cond b (x ∷ filter q xs) (filter q xs)) ≡ filter q (filter p xs)) [
            | true ↦ λ f. rw e (filter_swap p q xs)
            | false ↦ λ f. filter_swap p q xs
          ] refl
    ] refl

-- a test that passes only where another does
filter_within : {X : Type 0} (p q : X → Bool) → ((x : X) → p x ≡ true → q x ≡ true) → (xs : List X)
    → filter p (filter q xs) ≡ filter p xs
filter_within p q only [] = refl
filter_within {X} p q only (x ∷ xs) =
    elim (q x) as (λ b. q x ≡ b → filter p (cond b (x ∷ filter q xs) (filter q xs)) ≡ cond (p x)
    (x ∷ filter p xs) (filter p xs)) [
      | true ↦ λ e. ap (λ (ys : List X). cond (p x) (x ∷ ys) ys) (filter_within p q only xs)
      | false ↦ λ e. elim (p x) as
          (λ b. p x ≡ b → filter p (filter q xs) ≡ cond b (x ∷ filter p xs) (filter p xs)) [
            | true ↦ λ f. let no : true ≡ false = sym (only x f) ∙ e in absurd cc
            | false ↦ λ f. filter_within p q only xs
          ] refl
    ] refl

module _ (s : Table) where
  abbrev as_row : ℕ → List Value → MarkedRow
  as_row part row = marked s.name s.schema 0 part row

  -- the rows that additions add are own, and each of its addition's part
  rows_own : (part : ℕ) (rows : List (List Value)) → AllByRecursion (λ m. is_own m ≡ true)
      (map (as_row part) rows)
  rows_own part [] = tt
  rows_own part (r ∷ rs) = (refl, rows_own part rs)

  pub added_own : (as' : List Added) → AllByRecursion (λ m. is_own m ≡ true)
      (flat_map (added_to s 0) as')
  added_own [] = tt
  added_own (a ∷ as') = all_append (λ m. is_own m ≡ true) (added_to s 0 a)
      (flat_map (added_to s 0) as') (elim (same_text a.table s.name) as
      (λ b. AllByRecursion (λ m. is_own m ≡ true) (if b then map (as_row a.part) a.rows else []))
      [ true ↦ rows_own a.part a.rows | false ↦ tt ]) (added_own as')

  -- how many of the additions have the row's part
  abbrev times : List Added → MarkedRow → ℕ
  times as' m = weight (λ a. if is_of_part a m then 1 else 0) as'

  -- the rows that an addition adds are of its part, and of no other's

  own_part_rows : (a : Added) → same_text a.table s.name ≡ true → (rows : List (List Value)) →
      AllByRecursion (λ m. is_of_part a m ≡ true) (map (as_row a.part) rows)
  own_part_rows a here [] = tt
  own_part_rows a here (r ∷ rs) = (both, own_part_rows a here rs)
    where
      table : same_text s.name a.table ≡ true
      table = ap (λ (n : List ℕ). same_text n a.table) (sym (same_text_is a.table s.name here)) ∙
          same_text_self a.table

      both : (same_text s.name a.table && nat_eq a.part a.part) ≡ true
      both = rw table (number_self a.part)

  other_part_rows : (part : ℕ) (b : Added) → nat_eq part b.part ≡ false → (rows : List (List Value))
      → AllByRecursion (λ m. is_of_part b m ≡ false) (map (as_row part) rows)
  other_part_rows part b differ [] = tt
  other_part_rows part b differ (r ∷ rs) =
      (and_false (same_text s.name b.table) differ, other_part_rows part b differ rs)

  own_part : (a : Added) → AllByRecursion (λ m. is_of_part a m ≡ true) (added_to s 0 a)
  own_part a = elim (same_text a.table s.name) as (λ b. same_text a.table s.name ≡ b →
      AllByRecursion (λ m. is_of_part a m ≡ true) (if b then map (as_row a.part) a.rows else []))
      [ true ↦ λ e. own_part_rows a e a.rows | false ↦ λ e. tt ] refl

  other_part : (a b : Added) → nat_eq a.part b.part ≡ false → AllByRecursion
      (λ m. is_of_part b m ≡ false) (added_to s 0 a)
  other_part a b differ = elim (same_text a.table s.name) as (λ c. AllByRecursion
      (λ m. is_of_part b m ≡ false) (if c then map (as_row a.part) a.rows else []))
      [ true ↦ other_part_rows a.part b differ a.rows | false ↦ tt ]

  -- what is of none of these parts
  no_times : (as' : List Added) (m : MarkedRow) → AllByRecursion (λ b. is_of_part b m ≡ false) as' →
      times as' m ≡ 0
  no_times [] m all = refl
  no_times (b ∷ bs) m all = omega (arith, ap one_if all.0, no_times bs m all.1)

  others : (a : Added) (as' : List Added) → AllByRecursion (λ b. nat_eq a.part b.part ≡ false) as' →
      AllByRecursion (λ m. is_of_part a m ≡ false) (flat_map (added_to s 0) as')
  others a [] all = tt
  others a (b ∷ bs) all = all_append (λ m. is_of_part a m ≡ false) (added_to s 0 b)
      (flat_map (added_to s 0) bs) (other_part b a (number_sym a.part b.part all.0))
      (others a bs all.1)

  mine_alone : (rows : List MarkedRow) (as' : List Added) → AllByRecursion
      (λ b. AllByRecursion (λ m. is_of_part b m ≡ false) rows) as' → AllByRecursion
      (λ m. AllByRecursion (λ b. is_of_part b m ≡ false) as') rows
  mine_alone [] as' all = tt
  mine_alone (m ∷ ms) as' all = (
    all_weaker as' (λ b both. both.0) all,
    mine_alone ms as'
        (all_weaker as' (λ b both. both.1) all),
  )

  times_one : (as' : List Added) → HaveOwnParts as' → AllByRecursion (λ m. times as' m ≡ 1)
      (flat_map (added_to s 0) as')
  times_one [] own = tt
  times_one (a ∷ as') own =
      all_append (λ m. times (a ∷ as') m ≡ 1) (added_to s 0 a) (flat_map (added_to s 0) as')
      (all_both (added_to s 0 a)
      (λ m mine none. omega (arith, ap one_if mine, no_times as' m none)) (own_part a)
      (mine_alone (added_to s 0 a) as'
      (all_weaker as' (λ b differ. other_part a b differ) own.0)))
      (all_both (flat_map (added_to s 0) as') (λ m one none. omega (arith, one, ap one_if none))
      (times_one as' own.1) (others a as' own.0))

  -- the sum over the parts of what is of each
  pick_none : (g : MarkedRow → ℕ) (m : MarkedRow) (as' : List Added) → times as' m ≡ 0 → weight
      (λ a. if is_of_part a m then g m else 0) as' ≡ 0
  pick_none g m [] e = refl
  pick_none g m (a ∷ as') e = elim (is_of_part a m) as (λ b. one_if b + times as' m ≡ 0 →
      (if b then g m else 0) + weight (λ a. if is_of_part a m then g m else 0) as' ≡ 0) [
        | true ↦ λ e. absurd (omega (arith, e))
        | false ↦ λ e. omega (arith, pick_none g m as' (omega (arith, e)))
      ] e

  pick_one : (g : MarkedRow → ℕ) (m : MarkedRow) (as' : List Added) → times as' m ≡ 1 → weight
      (λ a. if is_of_part a m then g m else 0) as' ≡ g m
  pick_one g m [] e = absurd (omega (arith, e))
  pick_one g m (a ∷ as') e = elim (is_of_part a m) as (λ b. one_if b + times as' m ≡ 1 →
      (if b then g m else 0) + weight (λ a. if is_of_part a m then g m else 0) as' ≡ g m) [
        | true ↦ λ e. omega (arith, pick_none g m as' (omega (arith, e)))
        | false ↦ λ e. omega (arith, pick_one g m as' (omega (arith, e)))
      ] e

  by_parts : (g : MarkedRow → ℕ) (as' : List Added) (rows : List MarkedRow) → AllByRecursion
      (λ m. times as' m ≡ 1) rows → weight (λ a. weight g (filter (is_of_part a) rows)) as' ≡ weight
      g rows
  by_parts g as' rows one =
      ap (λ (h : Added → ℕ). weight h as') (λ i a. weight_filter (is_of_part a) g rows i)
      ∙ weight_swap (λ a m. if is_of_part a m then g m else 0) as' rows
      ∙ weight_alike (λ m. weight (λ a. if is_of_part a m then g m else 0) as') g rows
      (all_weaker rows (λ m e. pick_one g m as' e) one)

  -- what is of a part is what its addition adds
  of_part : (as' : List Added) → HaveOwnParts as' → AllByRecursion
      (λ a. filter (is_of_part a) (flat_map (added_to s 0) as') ≡ added_to s 0 a) as'
  of_part [] own = tt
  of_part (x ∷ xs) own = (
    filter-append (is_of_part x) (added_to s 0 x) (flat_map (added_to s 0) xs) ∙ (λ i. filter_all
        (is_of_part x) (added_to s 0 x) (own_part x) i ++ filter_none (is_of_part x)
        (flat_map (added_to s 0) xs) (others x xs own.0) i) ∙ append-nil (added_to s 0 x),
    all_both xs (λ a is differ. filter-append (is_of_part a) (added_to s 0 x)
        (flat_map (added_to s 0) xs) ∙
        (λ i. filter_none (is_of_part a) (added_to s 0 x) (other_part x a differ) i ++ is i))
        (of_part xs own.1) own.0,
  )

  -- an addition without what was removed of it

  row_again : (part : ℕ) (rows : List (List Value)) → map (λ m. m.row) (map (as_row part) rows) ≡
      rows
  row_again part [] = refl
  row_again part (r ∷ rs) = ap (λ (xs : List (List Value)). r ∷ xs) (row_again part rs)

  mark_again : (part : ℕ) (rows : List (List Value)) → AllByRecursion
      (λ m. is_eq (marked_cmp (as_row part m.row) m) ≡ true) (map (as_row part) rows)
  mark_again part [] = tt
  mark_again part (r ∷ rs) =
      (ap is_eq (tied_itself marked_total (as_row part r)), mark_again part rs)

  left_rows : (g : MarkedRow → ℕ) (part : ℕ) (rows : List (List Value)) (gone : List MarkedRow) →
      IsPartOf gone (map (as_row part) rows)
      → weight g (map (as_row part) (without row_cmp rows (map (λ m. m.row) gone))) + weight g gone
      ≡ weight g (map (as_row part) rows)
  left_rows g part rows gone is =
      let h = λ (row : List Value). g (as_row part row) in
      let part_rows : IsPartOf (map (λ m. m.row) gone) rows = (
        map (λ m. m.row) is.0,
        λ k.
            let whole = same_map (λ (m : MarkedRow). m.row) (gone ++ is.0) (map (as_row part) rows)
            is.1 k in
            let split = weight_map (λ (m : MarkedRow). m.row) k (gone ++ is.0) in
            let again : weight k (map (λ m. m.row) (map (as_row part) rows)) ≡ weight k rows = ap
            (weight k) (row_again part rows) in
            omega (
              arith,
              whole,
              split,
              again,
              weight_append (λ (m : MarkedRow). k m.row) gone
                  is.0,
              weight_append k (map (λ m. m.row) gone) (map (λ m. m.row) is.0),
              weight_map
                  (λ (m : MarkedRow). m.row) k gone,
              weight_map (λ (m : MarkedRow). m.row) k is.0,
            ),
      ) in
      let same : AllByRecursion (λ m. is_eq (marked_cmp (as_row part m.row) m) ≡ true) gone =
      part_all (λ m. is_eq (marked_cmp (as_row part m.row) m)) gone (map (as_row part) rows) is
      (mark_again part rows) in
      let back = weight_alike (λ (m : MarkedRow). g (as_row part m.row)) g gone (all_weaker gone (λ
      m e. ap g (marked_tells (as_row part m.row) m
      ((Equal-is (marked_cmp (as_row part m.row) m)).0 e))) same) in
      omega (
        arith,
        weight_left row_cmp_total row_cmp_tells (map (λ m. m.row) gone) rows part_rows h,
        weight_map (as_row part) g (without row_cmp rows (map (λ m. m.row) gone)),
        weight_map (as_row part) g rows,
        weight_map (λ (m : MarkedRow). m.row) h gone,
        back,
      )

  -- what is left of the additions weighs as they do without what was removed of them
  module _ (removed : List MarkedRow) where
    abbrev own_here : List MarkedRow
    own_here = own (removed_from s removed)

    same_here : (a : Added) → same_text a.table s.name ≡ true → filter (is_of_part a) (own removed)
        ≡ filter (is_of_part a) own_here
    same_here a here = sym (ap (filter (is_of_part a))
        (filter_swap is_own (λ m. same_text m.mark.table s.name) removed) ∙ filter_within
        (is_of_part a) (λ m. same_text m.mark.table s.name) only (own removed))
      where
        only : (m : MarkedRow) → is_of_part a m ≡ true → same_text m.mark.table s.name ≡ true
        only m e = ap (λ (n : List ℕ). same_text n s.name) (same_text_is m.mark.table a.table
            (both_true (same_text m.mark.table a.table) (nat_eq m.mark.part a.part) e).0) ∙ here

    left_one : (g : MarkedRow → ℕ) (a : Added) → IsPartOf (filter (is_of_part a) own_here)
        (added_to s 0 a) → weight g (added_to s 0 (left_of (own removed) a)) + weight g
        (filter (is_of_part a) own_here) ≡ weight g (added_to s 0 a)
    left_one g a is =
        elim (same_text a.table s.name) as (λ b. same_text a.table s.name ≡ b → IsPartOf
        (filter (is_of_part a) own_here) (if b then map (as_row a.part) a.rows else [])
        → weight g (if b then map (as_row a.part)
        (without row_cmp a.rows (map (λ m. m.row) (filter (is_of_part a) (own removed))))
        else []) + weight g (filter (is_of_part a) own_here) ≡ weight g
        (if b then map (as_row a.part) a.rows else [])) [
          | true ↦ λ e is. ap (λ (gone : List MarkedRow). weight g
              (map (as_row a.part) (without row_cmp a.rows (map (λ m. m.row) gone))) + weight g
              (filter (is_of_part a) own_here)) (same_here a e) ∙ left_rows g a.part a.rows
              (filter (is_of_part a) own_here) is
          | false ↦ λ e is. omega
              (arith, is.1 g, weight_append g (filter (is_of_part a) own_here) is.0)
        ] refl is

    left_all : (g : MarkedRow → ℕ) (as' : List Added) → weight g
        (flat_map (added_to s 0) (additions_left (own removed) as')) ≡ weight
        (λ a. weight g (added_to s 0 (left_of (own removed) a))) as'
    left_all g [] = refl
    left_all g (a ∷ as') =
        let left = left_of (own removed) a in
        elim (is_nil left.rows) as (λ b. is_nil left.rows ≡ b → weight g (flat_map (added_to s 0)
        (cond (not b) (left ∷ additions_left (own removed) as')
        (additions_left (own removed) as'))) ≡ weight g (added_to s 0 left) + weight
        (λ a. weight g (added_to s 0 (left_of (own removed) a))) as') [
          | true ↦ λ e. omega (arith, left_all g as', nothing left.rows e)
          | false ↦ λ e. omega (
            arith,
            left_all g as',
            weight_append g (added_to s 0 left)
                (flat_map (added_to s 0) (additions_left (own removed) as')),
          )
        ] refl
      where
        nothing : (rows : List (List Value)) → is_nil rows ≡ true → weight g
            (if same_text a.table s.name then map (as_row a.part) rows else []) ≡ 0
        nothing [] e = elim (same_text a.table s.name) as (λ b. weight g (if b then [] else []) ≡ 0)
            [ true ↦ refl | false ↦ refl ]
        nothing (r ∷ rs) e = absurd cc

    left_weighs : (g : MarkedRow → ℕ) (as' : List Added) → HaveOwnParts as' → IsPartOf own_here
        (flat_map (added_to s 0) as')
        → weight g (flat_map (added_to s 0) (additions_left (own removed) as')) + weight g own_here
        ≡ weight g (flat_map (added_to s 0) as')
    left_weighs g as' parts is =
        let parts_of : AllByRecursion
        (λ a. IsPartOf (filter (is_of_part a) own_here) (added_to s 0 a)) as' = all_weaker as'
        (λ a e. (
          filter (is_of_part a) is.0,
          λ k.
              omega (
                arith,
                same_filter (is_of_part a) (own_here ++ is.0)
                    (flat_map (added_to s 0) as') is.1 k,
                ap (weight k)
                    (filter-append (is_of_part a) own_here is.0),
                ap (weight k) e,
              ),
        )) (of_part as' parts) in
        let each = sums (λ a. weight g (added_to s 0 (left_of (own removed) a)))
        (λ a. weight g (filter (is_of_part a) own_here)) (λ a. weight g (added_to s 0 a)) as'
        (all_weaker as' (λ a is. left_one g a is) parts_of) in
        let ones : AllByRecursion (λ m. times as' m ≡ 1) own_here = all_weaker own_here
        (λ m e. eqb-true (times as' m) 1 e) (part_all (λ m. nat_eq (times as' m) 1) own_here
        (flat_map (added_to s 0) as') is (all_weaker (flat_map (added_to s 0) as')
        (λ m e. ap (λ (n : ℕ). nat_eq n 1) e) (times_one as' parts))) in
        omega (
          arith,
          left_all g as',
          each,
          by_parts g as' own_here ones,
          weight_flat_map
              (added_to s 0) g as',
        )
      where
        sums : (f g h : Added → ℕ) (xs : List Added) → AllByRecursion (λ a. f a + g a ≡ h a) xs →
            weight f xs + weight g xs ≡ weight h xs
        sums f g h [] all = refl
        sums f g h (x ∷ xs) all = omega (arith, all.0, sums f g h xs all.1)

pub pends_as_seen : PendsAsSeen
pends_as_seen s before change kept part parts is =
    let gone = removed_from s before.removed in
    let base = without marked_cmp s.rows gone in
    let added = flat_map (added_to s 0) before.added in
    let mine = removed_from s change.removed in
    let base_kept : AllByRecursion (λ m. is_own m ≡ false) base = all_without marked_cmp
    (λ m. is_own m ≡ false) gone s.rows kept in
    let of_base : IsPartOf (committed mine) base = part_of_left (λ m. not (is_own m)) mine base
    added is
    (filter_all (λ m. not (is_own m)) base (all_weaker base (λ m e. ap not e) base_kept))
    (filter_none (λ m. not (is_own m)) added
    (all_weaker added (λ m e. ap not e) (added_own s before.added))) in
    let of_added : IsPartOf (own mine) added = part_of_right is_own mine base added is
    (filter_none is_own base base_kept) (filter_all is_own added (added_own s before.added)) in
    let removes : removed_from s (pend before change).removed ≡ gone ++ committed mine =
    filter-append (λ m. same_text m.mark.table s.name) before.removed (committed change.removed) ∙
    ap (λ (ms : List MarkedRow). gone ++ ms)
    (filter_swap (λ m. same_text m.mark.table s.name) (λ m. not (is_own m)) change.removed) in
    record {
      part = subst (λ (ms : List MarkedRow). IsPartOf ms s.rows) (sym removes) (
        of_base.0,
        λ g. omega (
          arith,
          weight_append g (gone ++ committed mine) of_base.0,
          weight_append g gone (committed mine),
          weight_append g (committed mine) of_base.0,
          of_base.1 g,
          weight_without gone s.rows part g,
        ),
      );
      weighs = λ g.
          let first : weight g
          (without marked_cmp s.rows (removed_from s (pend before change).removed)) ≡ weight g
          (without marked_cmp base (committed mine)) =
          ap (λ (ms : List MarkedRow). weight g (without marked_cmp s.rows ms)) removes ∙ ap
          (weight g) (without_append s.rows gone (committed mine)) in
          let left = additions_left (own change.removed) before.added in
          omega (
            arith,
            first,
            weight_without (committed mine) base of_base g,
            left_weighs s change.removed g before.added parts of_added,
            weight_halves is_own g mine,
            weight_append g
                (without marked_cmp s.rows (removed_from s (pend before change).removed))
                (flat_map (added_to s 0) (left ++ change.added)),
            weight_append g base added,
            weight_flat_map (added_to s 0) g (left ++ change.added),
            weight_append (λ (a : Added). weight g (added_to s 0 a)) left change.added,
            weight_flat_map (added_to s 0) g left,
            weight_flat_map (added_to s 0) g change.added,
          );
    }
