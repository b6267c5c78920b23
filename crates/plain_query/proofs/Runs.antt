-- In rows that stand in the order of their keys, the rows of the first key stand in front.
use Rattle.std.proofs.Common.{◌≡◌, ℕ, ◌+◌, ◌<◌, Bool, true, false, ◌&&◌, not, cond, List, [], ◌∷◌, ◌++◌, append_assoc, length, map, filter, take, drop, zero, suc, refl, sym, ap, subst, ◌∙◌, arith, slice_get, Some}
use Rattle.std.specs.List.{AllByRecursion, list_all, position_or_len}
use Rattle.std.specs.List.Sorted.{IsSortedByKey}
use Rattle.std.specs.Ordering.{is_eq, is_gt, on, ordering_reverse}
use Rattle.std.specs.Cmp.{IsTotalOrder, Equal-is, on_total}
use Rattle.std.specs.declared.cmp.Ordering.{Ordering}
use Rattle.std.specs.declared.cmp.Ordering.TheVariants.{Less, Equal, Greater}
use Rattle.std.proofs.lemmas.Cmp.{tied_itself}
use Rattle.std.proofs.lemmas.List.{take-map, drop-map}
use Rattle.lake_values.specs.Order.{row_cmp, row_cmp_total}
use Rattle.sql_model.specs.declared.bound.BoundAgg.{BoundAgg}
use Rattle.sql_model.specs.BoundForms.{is_empty}
use Rattle.sql_model.specs.Groups.{aggregate_fits, key_of, group_row, groups, groups_fit}
use Rattle.sql_model.proofs.Sorting.{UpTo, Rises, all_more, rises_from_sorted}
use Rattle.plain_query.specs.Keys.{differ_in}
use Rattle.row_evaluation.proofs.Filters.{filter_none, filter_all}
use Rattle.plain_query.proofs.Grouping.{Row, alike_in, same_itself, groups_step, groups_fit_step}

-- no key is above a later one
abbrev pub KeysRise : List ℕ → List Row → Type 0
KeysRise columns rows = Rises (on (key_of columns) row_cmp) rows

rise_behind : (columns : List ℕ) (n : ℕ) (rows : List Row) → KeysRise columns rows → KeysRise columns (drop n rows)
rise_behind columns zero rows rise = rise
rise_behind columns (suc n) [] rise = rise
rise_behind columns (suc n) (r ∷ rows) rise = rise_behind columns n rows rise.1

strictly_both : (r : Ordering) → is_gt r ≡ false → is_eq r ≡ false → is_gt (ordering_reverse r) ≡ false → ⊥
strictly_both Less up apart back = cc
strictly_both Equal up apart back = cc
strictly_both Greater up apart back = cc

module _ (columns : List ℕ) (first : Row) where
  abbrev by_key : Row → Row → Ordering
  by_key = on (key_of columns) row_cmp

  keys_order : IsTotalOrder by_key
  keys_order = on_total (key_of columns) row_cmp_total

  -- a row that stands behind one of another key has another key too
  apart_behind : (r s : Row) → UpTo by_key first r → alike_in columns first r ≡ false → UpTo by_key r s → alike_in columns first s ≡ false
  apart_behind r s up apart behind =
      elim (is_eq (by_key first s)) as (λ b. is_eq (by_key first s) ≡ b → b ≡ false) [
        | true ↦ λ e.
            let o = keys_order in
            let turned : by_key r s ≡ ordering_reverse (by_key first r) = o.antisymm r s ∙ ap ordering_reverse (sym (o.congr first s r ((Equal-is (by_key first s)).0 e))) in
            absurd (strictly_both (by_key first r) up apart (ap is_gt (sym turned) ∙ behind))
        | false ↦ λ e. refl
      ] refl

  abbrev run : List Row → ℕ
  run rows = position_or_len (differ_in columns first) rows

  alike_in_front : (rows : List Row) → KeysRise columns rows → AllByRecursion (UpTo by_key first) rows
      → (take (run rows) rows ≡ filter (alike_in columns first) rows) × (drop (run rows) rows ≡ filter (differ_in columns first) rows)
  alike_in_front [] rise up = (refl, refl)
  alike_in_front (r ∷ rows) rise up =
      let n : ℕ = run rows in
      let alike : List Row = filter (alike_in columns first) rows in
      let others : List Row = filter (differ_in columns first) rows in
      elim (alike_in columns first r) as (λ b. alike_in columns first r ≡ b → (take (cond (not (not b)) (1 + n) 0) (r ∷ rows) ≡ cond b (r ∷ alike) alike) × (drop (cond (not (not b)) (1 + n) 0) (r ∷ rows) ≡ cond (not b) (r ∷ others) others)) [
        | true ↦ λ e.
            let next : 1 + n ≡ suc n = omega arith in
            let behind = alike_in_front rows rise.1 up.1 in
            (ap (λ m. take m (r ∷ rows)) next ∙ ap (λ rs. r ∷ rs) behind.0, ap (λ m. drop m (r ∷ rows)) next ∙ behind.1)
        | false ↦ λ e.
            let behind : AllByRecursion (λ s. alike_in columns first s ≡ false) rows = all_more rows (λ s h. apart_behind r s up.0 e h) rise.0 in (
              sym (filter_none (alike_in columns first) rows behind),
              ap (λ rs. r ∷ rs) (sym (filter_all (differ_in columns first) rows (all_more rows (λ s h. ap not h) behind))),
            )
      ] refl

-- the first row belongs to its run
module _ (columns : List ℕ) {C : Type 0} (cells : C → Row) (n : ℕ) (first : C) where
  pub run_has_first : (rows : List C) → slice_get rows 0 ≡ Some first → n ≡ run columns (cells first) (map cells rows) → 0 < n
  run_has_first [] front run-is = absurd (cc)
  run_has_first (c ∷ rows) front run-is =
      let here : c ≡ first = cc in
      let behind : ℕ = run columns (cells first) (map cells rows) in
      let itself : alike_in columns (cells first) (cells c) ≡ true = ap (λ f. alike_in columns (cells first) (cells f)) here ∙ same_itself (key_of columns (cells first)) in
      let all : n ≡ 1 + behind = run-is ∙ ap (λ b. cond (not (not b)) (1 + behind) 0) itself in
      omega arith

-- the first group is the run in front, and the other groups are those of the rows behind it
pub record IsFirstGroup (columns : List ℕ) (aggs : List BoundAgg) (rows : List Row) (first : Row) (group behind : List Row) : Type 0 where
  pub made : groups columns aggs rows ≡ group_row aggs (key_of columns first) group ∷ groups columns aggs behind
  pub fits : groups_fit columns aggs rows ≡ list_all (aggregate_fits group) aggs && groups_fit columns aggs behind
  pub rise : KeysRise columns behind

module _ (columns : List ℕ) (some : is_empty columns ≡ false) (aggs : List BoundAgg) where
  run_in_front : (first : Row) (rest : List Row) → KeysRise columns (first ∷ rest)
      → let n = run columns first (first ∷ rest) in IsFirstGroup columns aggs (first ∷ rest) first (take n (first ∷ rest)) (drop n (first ∷ rest))
  run_in_front first rest rise =
      let n : ℕ = run columns first (first ∷ rest) in
      let front = alike_in_front columns first (first ∷ rest) rise (ap is_gt (tied_itself (keys_order columns first) first), rise.0) in
      record {
        made = groups_step columns some first rest aggs ∙ (λ i. group_row aggs (key_of columns first) (sym front.0 i) ∷ groups columns aggs (sym front.1 i));
        fits = groups_fit_step columns some first rest aggs ∙ (λ i. list_all (aggregate_fits (sym front.0 i)) aggs && groups_fit columns aggs (sym front.1 i));
        rise = rise_behind columns n (first ∷ rest) rise;
      }

  module _ {C : Type 0} (cells : C → Row) (n : ℕ) (first : C) (group behind : List C) where
    pub first_group : (rows : List C) → slice_get rows 0 ≡ Some first → n ≡ run columns (cells first) (map cells rows) → group ≡ take n rows → behind ≡ drop n rows → KeysRise columns (map cells rows)
        → IsFirstGroup columns aggs (map cells rows) (cells first) (map cells group) (map cells behind)
    first_group [] front run-is group-is behind-is rise = absurd (cc)
    first_group (c ∷ rows) front run-is group-is behind-is rise =
        let here : c ≡ first = cc in
        let all : List C = c ∷ rows in
        let length-is : run columns (cells c) (map cells all) ≡ n = ap (λ f. run columns (cells f) (map cells all)) here ∙ sym run-is in
        let P : Row × List Row × List Row → Type 0 = λ parts. IsFirstGroup columns aggs (map cells all) parts.0 parts.1 parts.2 in
        let in-group : take (run columns (cells c) (map cells all)) (map cells all) ≡ map cells group = ap (λ m. take m (map cells all)) length-is ∙ take-map cells n all ∙ ap (map cells) (sym group-is) in
        let in-behind : drop (run columns (cells c) (map cells all)) (map cells all) ≡ map cells behind = ap (λ m. drop m (map cells all)) length-is ∙ drop-map cells n all ∙ ap (map cells) (sym behind-is) in
        subst P (λ i. (cells (here i), in-group i, in-behind i)) (run_in_front (cells c) (map cells rows) rise)

-- at a loop over the groups
module _ {columns : List ℕ} {aggs : List BoundAgg} {rows : List Row} {first : Row} {group behind : List Row} (step : IsFirstGroup columns aggs rows first group behind) where
  -- the first group's row was made
  pub next_made : (whole made more : List Row) (key row : Row) → key ≡ key_of columns first → row ≡ group_row aggs key group → more ≡ made ++ row ∷ []
      → made ++ groups columns aggs rows ≡ whole → more ++ groups columns aggs behind ≡ whole
  next_made whole made more key row key-is row-is more-is before =
      ap (λ rs. rs ++ groups columns aggs behind) more-is
      ∙ append_assoc made (row ∷ []) (groups columns aggs behind)
      ∙ ap (λ r. made ++ r ∷ groups columns aggs behind) (row-is ∙ ap (λ k. group_row aggs k group) key-is)
      ∙ ap (λ rs. made ++ rs) (sym step.made)
      ∙ before

  -- its aggregates fit
  pub next_fits : (whole : Bool) → list_all (aggregate_fits group) aggs ≡ true → groups_fit columns aggs rows ≡ whole → groups_fit columns aggs behind ≡ whole
  next_fits whole fit before = sym (step.fits ∙ ap (λ b. b && groups_fit columns aggs behind) fit) ∙ before

  -- one of them doesn't fit
  pub whole_unfit : (whole : Bool) → groups_fit columns aggs rows ≡ whole → list_all (aggregate_fits group) aggs ≡ false → whole ≡ false
  whole_unfit whole before unfit = sym before ∙ step.fits ∙ ap (λ b. b && groups_fit columns aggs behind) unfit

-- the order of rows as the order of what they have
pub rise_map : {C : Type 0} (cells : C → Row) (cmp : Row → Row → Ordering) (rows : List C) → Rises (on cells cmp) rows → Rises cmp (map cells rows)
rise_map cells cmp [] rise = tt
rise_map {C} cells cmp (c ∷ rows) rise = (up_map c rows rise.0, rise_map cells cmp rows rise.1)
  where
    up_map : (c : C) (rows : List C) → AllByRecursion (UpTo (on cells cmp) c) rows → AllByRecursion (UpTo cmp (cells c)) (map cells rows)
    up_map c [] up = tt
    up_map c (r ∷ rows) up = (up.0, up_map c rows up.1)

pub keys_rise : {C : Type 0} (columns : List ℕ) (cells : C → Row) (rows : List C) → IsSortedByKey (λ row. key_of columns (cells row)) row_cmp rows → KeysRise columns (map cells rows)
keys_rise columns cells rows sorted =
    rise_map cells (on (key_of columns) row_cmp) rows (rises_from_sorted (on_total (λ row. key_of columns (cells row)) row_cmp_total) rows sorted)

pub some_columns : (columns : List ℕ) → 0 < length columns → is_empty columns ≡ false
some_columns [] some = absurd (omega arith)
some_columns (c ∷ columns) some = refl
