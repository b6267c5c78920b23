-- The rows made of groups are the rows of the definitions.
use Rattle.std.proofs.Common.{◌≡◌, ℕ, ◌+◌, ◌<◌, ◌≤◌, Bool, true, false, ◌&&◌, append_assoc, get_or, List, [], ◌∷◌, ◌++◌, length, map, drop, refl, sym, ap, subst, ◌∙◌, arith}
use Rattle.std.specs.List.{All, AllByRecursion, flat_map, list_all, range_with_len}
use Rattle.std.proofs.lemmas.List.{at_drop_more, length-append}
use Rattle.std.proofs.lemmas.List.Elements.{All-from_recursion}
use Rattle.std.proofs.lemmas.List.FromFn.{length-range_with_len}
use Rattle.lake_values.specs.declared.values.Value.{Value}
use Rattle.lake_values.specs.declared.values.Value.TheVariants.{Null, Int, Text}
use Rattle.sql_model.specs.declared.bound.BoundAgg.{BoundAgg}
use Rattle.sql_model.specs.declared.bound.BoundAgg.TheVariants.{CountAll, Count, Sum, Min, Max}
use Rattle.sql_model.specs.Groups.{aggregate, group_keys, members}
use Rattle.op_aggregate.specs.Fits.{arguments_fit, finals_fit, group_fits}
use Rattle.op_aggregate.specs.Grouping.{first_key}
use Rattle.op_aggregate.specs.Partials.{halves, kept, columns_kept, kept_width, finals, finished_rows}
use Rattle.op_aggregate.proofs.Distinct.{Row}
use Rattle.op_aggregate.proofs.Fitting.{all-map, arguments_by_groups}
use Rattle.op_aggregate.proofs.Kept.{Rows, map_of_map}
use Rattle.op_aggregate.proofs.Leading.{groups_of, first_keys_wide, keyed_rows}

-- ---- widths

halves_wide : (v : Value) → length (halves v) ≡ 2
halves_wide Null = refl
halves_wide (Int n) = refl
halves_wide (Text t) = refl

kept_wide : (rows : Rows) (agg : BoundAgg) → length (kept rows agg) ≡ columns_kept agg
kept_wide rows CountAll = refl
kept_wide rows (Count e) = refl
kept_wide rows (Sum e) = halves_wide (aggregate rows (Sum e))
kept_wide rows (Min e) = refl
kept_wide rows (Max e) = refl

pub all_kept_wide : (rows : Rows) (aggs : List BoundAgg) → length (flat_map (kept rows) aggs) ≡ kept_width aggs
all_kept_wide rows [] = refl
all_kept_wide rows (agg ∷ aggs) = omega (arith, length-append (kept rows agg) (flat_map (kept rows) aggs), kept_wide rows agg, all_kept_wide rows aggs)

pub finals_wide : (aggs : List BoundAgg) (parts : Rows) → length (finals aggs parts) ≡ length aggs
finals_wide [] parts = refl
finals_wide (agg ∷ aggs) parts = omega (arith, finals_wide aggs (map (drop (columns_kept agg)) parts))

pub few_aggregates : (aggs : List BoundAgg) → length aggs ≤ kept_width aggs
few_aggregates [] = omega arith
few_aggregates (agg ∷ aggs) =
    let one = at_least_one agg in
    let behind = few_aggregates aggs in
    omega (arith, one, behind)
  where
    at_least_one : (agg : BoundAgg) → 1 ≤ columns_kept agg
    at_least_one CountAll = omega arith
    at_least_one (Count e) = omega arith
    at_least_one (Sum e) = omega arith
    at_least_one (Min e) = omega arith
    at_least_one (Max e) = omega arith

pub map_itself : (rows : Rows) → map (λ r. r) rows ≡ rows
map_itself [] = refl
map_itself (r ∷ rows) = ap (λ (l : Rows). r ∷ l) (map_itself rows)

-- ---- of groups that are seen as lists of rows

module _ {G : Type 0} (seen : G → Rows) where
  all_seen : (P : Rows → Type 0) (gs : List G) → AllByRecursion P (map seen gs) → AllByRecursion (λ g. P (seen g)) gs
  all_seen P [] all = tt
  all_seen P (g ∷ gs) all = (all.0, all_seen P gs all.1)

  module _ (gs : List G) (columns : List ℕ) (rows : Rows) (are : map seen gs ≡ groups_of columns rows) where
    pub wide_groups : All (λ g. length (first_key columns (seen g)) ≡ length columns) gs
    wide_groups =
        All-from_recursion (λ g. length (first_key columns (seen g)) ≡ length columns) gs
        (all_seen (λ g. length (first_key columns g) ≡ length columns) gs (subst (AllByRecursion (λ g. length (first_key columns g) ≡ length columns)) (sym are) (first_keys_wide columns rows)))

    -- what stands behind the keys
    pub keyed : (tail : Rows → Row) → map (λ g. first_key columns (seen g) ++ tail (seen g)) gs ≡ map (λ k. k ++ tail (members columns k rows)) (group_keys columns rows)
    keyed tail =
        sym (map_of_map (λ g. first_key columns g ++ tail g) seen gs)
        ∙ ap (map (λ g. first_key columns g ++ tail g)) are
        ∙ sym (keyed_rows columns rows tail)

    pub tested : (p : Rows → Bool) → list_all (λ g. p (seen g)) gs ≡ list_all (λ k. p (members columns k rows)) (group_keys columns rows)
    tested p = sym (all-map p seen gs) ∙ ap (list_all p) are ∙ all-map p (λ k. members columns k rows) (group_keys columns rows)

    pub arguments_seen : (aggs : List BoundAgg) → list_all (λ g. arguments_fit aggs (seen g)) gs ≡ arguments_fit aggs rows
    arguments_seen aggs = sym (all-map (arguments_fit aggs) seen gs) ∙ ap (list_all (arguments_fit aggs)) are ∙ arguments_by_groups columns aggs rows

-- what was found of the rows that are lent
pub groups_are : {G : Type 0} (seen : G → Rows) (slice gs : List G) (columns : List ℕ) (lent listed rows : Rows) → slice ≡ gs → map seen gs ≡ groups_of columns (map (λ r. r) lent) → lent ≡ listed → listed ≡ rows → map seen slice ≡ groups_of columns rows
groups_are seen slice gs columns lent listed rows slice_is found lent_are listed_are =
    ap (map seen) slice_is ∙ found ∙ ap (groups_of columns) (map_itself lent ∙ lent_are ∙ listed_are)

-- ---- at a loop over the groups that has come to one of them

module _ {G : Type 0} (seen : G → Rows) (gs : List G) (i : ℕ) (g : G) (within : i < length gs) (is : g ≡ get_or gs i g) (group : Rows) (group_is : group ≡ seen g) where
  here : group ≡ seen (get_or gs i g)
  here = group_is ∙ ap seen is

  module _ (columns : List ℕ) (tail : Rows → Row) (row : Row) (row_is : row ≡ first_key columns group ++ tail group) where
    pub row_wide : All (λ g. length (first_key columns (seen g)) ≡ length columns) gs → (n : ℕ) → length (tail group) ≡ n → length row ≡ length columns + n
    row_wide all n behind =
        let wide : length (first_key columns group) ≡ length columns = ap (λ (rs : Rows). length (first_key columns rs)) here ∙ all i g within in
        ap length row_is ∙ length-append (first_key columns group) (tail group) ∙ (λ j. wide j + behind j)

    pub row_made : (whole made more : Rows) → more ≡ made ++ row ∷ [] → made ++ map (λ g. first_key columns (seen g) ++ tail (seen g)) (drop i gs) ≡ whole → more ++ map (λ g. first_key columns (seen g) ++ tail (seen g)) (drop (i + 1) gs) ≡ whole
    row_made whole made more more_is before =
        let f : G → Row = λ g. first_key columns (seen g) ++ tail (seen g) in
        let behind : Rows = map f (drop (i + 1) gs) in
        ap (λ (rs : Rows). rs ++ behind) more_is
        ∙ append_assoc made (row ∷ []) behind
        ∙ ap (λ (r : Row). made ++ r ∷ behind) (row_is ∙ ap (λ (rs : Rows). first_key columns rs ++ tail rs) here)
        ∙ ap (λ (rs : Rows). made ++ rs) (sym (at_drop_more (map f) gs i g within))
        ∙ before

  module _ (p : Rows → Bool) (whole : Bool) (before : list_all (λ g. p (seen g)) (drop i gs) ≡ whole) where
    this_and_behind : whole ≡ p group && list_all (λ g. p (seen g)) (drop (i + 1) gs)
    this_and_behind =
        sym before ∙ at_drop_more (list_all (λ g. p (seen g))) gs i g within ∙ ap (λ (rs : Rows). p rs && list_all (λ g. p (seen g)) (drop (i + 1) gs)) (sym here)

    pub test_past : p group ≡ true → list_all (λ g. p (seen g)) (drop (i + 1) gs) ≡ whole
    test_past passes = sym (this_and_behind ∙ ap (λ (b : Bool). b && list_all (λ g. p (seen g)) (drop (i + 1) gs)) passes)

    pub test_fails : p group ≡ false → whole ≡ false
    test_fails fails = this_and_behind ∙ ap (λ (b : Bool). b && list_all (λ g. p (seen g)) (drop (i + 1) gs)) fails

-- ---- the columns of the keys stand in front

module _ (places : List ℕ) (keys : ℕ) (places_are : places ≡ range_with_len 0 keys) (aggs : List BoundAgg) (rows : Rows) where
  pub so_many : length places ≡ keys
  so_many = ap length places_are ∙ length-range_with_len 0 keys

  pub finished_are : map (λ k. k ++ finals aggs (map (drop (length places)) (members places k rows))) (group_keys places rows) ≡ finished_rows keys aggs rows
  finished_are =
      ap (λ (n : ℕ). map (λ k. k ++ finals aggs (map (drop n) (members places k rows))) (group_keys places rows)) so_many
      ∙ ap (λ (ps : List ℕ). map (λ k. k ++ finals aggs (map (drop keys) (members ps k rows))) (group_keys ps rows)) places_are

  pub fits_are : list_all (λ k. group_fits aggs (map (drop (length places)) (members places k rows))) (group_keys places rows) ≡ finals_fit keys aggs rows
  fits_are =
      ap (λ (n : ℕ). list_all (λ k. group_fits aggs (map (drop n) (members places k rows))) (group_keys places rows)) so_many
      ∙ ap (λ (ps : List ℕ). list_all (λ k. group_fits aggs (map (drop keys) (members ps k rows))) (group_keys ps rows)) places_are
