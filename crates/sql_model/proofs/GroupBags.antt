-- The groups of the same bags of rows are the same bags.
use Rattle.std.proofs.Common.{◌≡◌, ℕ, ◌+◌, Bool, true, false, ◌&&◌, not, List, [], ◌∷◌, ◌++◌, map, refl, ap, ◌∙◌, subst, arith, if◌then◌else◌}
use Rattle.std.specs.List.{list_all}
use Rattle.std.specs.Cmp.{Equal-is}
use Rattle.lake_values.specs.declared.values.Value.{Value}
use Rattle.lake_values.specs.Order.{row_cmp, row_cmp_total, row_cmp_tells, row_eq_equiv, number_of}
use Rattle.sql_model.specs.declared.bound.BoundAgg.{BoundAgg}
use Rattle.sql_model.specs.declared.bound.BoundAgg.TheVariants.{CountAll, Count, Sum, Min, Max}
use Rattle.sql_model.specs.declared.bound.BoundExpr.{BoundExpr}
use Rattle.sql_model.specs.BoundForms.{is_empty}
use Rattle.sql_model.specs.Evaluation.{eval, fits, is_null, is_64_bits}
use Rattle.sql_model.specs.Groups.{joined_by, summary, sum_of_both, lesser, greater, number, values_on, aggregate, argument_fits, aggregate_fits, same_row, distinct, key_of, group_keys, members, group_row, groups, groups_fit}
use Rattle.sql_model.specs.Listing.{weight, SameBag}
use Rattle.sql_model.proofs.Bags.{same_map, same_filter, same_length, filters_swap, same_if_swaps, same_list_all}
use Rattle.sql_model.proofs.Summaries.{Swaps, sum_swaps, lesser_swaps, greater_swaps}

-- each row once: of the same bags, the same bags

distinct_swap : (r s : List Value) (rows : List (List Value)) → SameBag (distinct (r ∷ s ∷ rows)) (distinct (s ∷ r ∷ rows))
distinct_swap r s rows g =
    elim (same_row r s) as (λ b. same_row r s ≡ b → weight g (distinct (r ∷ s ∷ rows)) ≡ weight g (distinct (s ∷ r ∷ rows))) [
      | true ↦ λ e.
          let P : List Value → Type 0 = λ t. weight g (distinct (r ∷ t ∷ rows)) ≡ weight g (distinct (t ∷ r ∷ rows)) in
          subst P (row_cmp_tells r s ((Equal-is (row_cmp r s)).0 e)) refl
      | false ↦ λ e.
          let f : same_row s r ≡ false = row_eq_equiv.symm s r ∙ e in
          rw (e, f) (omega (arith, filters_swap (λ t. not (same_row r t)) (λ t. not (same_row s t)) (distinct rows) g))
    ] refl

same_distinct : (xs ys : List (List Value)) → SameBag xs ys → SameBag (distinct xs) (distinct ys)
same_distinct xs ys same g =
    ap (λ (k : (List Value → ℕ) → ℕ). k g) (same_if_swaps row_cmp_total row_cmp_tells (λ rows h. weight h (distinct rows))
    (λ r xs ys e i h. h r + same_filter (λ s. not (same_row r s)) (distinct xs) (distinct ys) (λ k. ap (λ (m : (List Value → ℕ) → ℕ). m k) e) h i)
    (λ r s rows i h. distinct_swap r s rows h i) xs ys same)

-- an aggregate over them is equal, and fits alike
module _ (xs ys : List (List Value)) (same : SameBag xs ys) where
  same_summary : (op : Value → Value → Value) → Swaps (joined_by op) → (e : BoundExpr) → summary op (values_on e xs) ≡ summary op (values_on e ys)
  same_summary op swap e =
      same_if_swaps row_cmp_total row_cmp_tells (λ rows. summary op (values_on e rows))
      (λ r xs ys h. ap (joined_by op (eval e r)) h) (λ r s rows. swap (eval e r) (eval e s) (summary op (values_on e rows))) xs ys same

  same_aggregate : (a : BoundAgg) → aggregate xs a ≡ aggregate ys a
  same_aggregate CountAll = ap number (same_length xs ys same)
  same_aggregate (Count e) =
      ap number (same_length _ _ (same_filter (λ v. not (is_null v)) (values_on e xs) (values_on e ys) (same_map (eval e) xs ys same)))
  same_aggregate (Sum e) = same_summary sum_of_both sum_swaps e
  same_aggregate (Min e) = same_summary lesser lesser_swaps e
  same_aggregate (Max e) = same_summary greater greater_swaps e

  same_argument_fits : (e : BoundExpr) → argument_fits xs e ≡ argument_fits ys e
  same_argument_fits e = same_list_all row_cmp_total row_cmp_tells (fits e) xs ys same

  same_aggregate_fits : (a : BoundAgg) → aggregate_fits xs a ≡ aggregate_fits ys a
  same_aggregate_fits CountAll = ap (λ (v : Value). is_64_bits (number_of v)) (same_aggregate CountAll)
  same_aggregate_fits (Count e) = λ i. same_argument_fits e i && is_64_bits (number_of (same_aggregate (Count e) i))
  same_aggregate_fits (Sum e) = λ i. same_argument_fits e i && is_64_bits (number_of (same_aggregate (Sum e) i))
  same_aggregate_fits (Min e) = same_argument_fits e
  same_aggregate_fits (Max e) = same_argument_fits e

-- their groups have the same keys, and the members of each are the same bag
module _ (columns : List ℕ) (aggs : List BoundAgg) (xs ys : List (List Value)) (same : SameBag xs ys) where
  same_keys : SameBag (group_keys columns xs) (group_keys columns ys)
  same_keys =
      elim (is_empty columns) as (λ b. SameBag (if b then [] ∷ [] else distinct (map (key_of columns) xs)) (if b then [] ∷ [] else distinct (map (key_of columns) ys))) [
        | true ↦ λ g. refl
        | false ↦ same_distinct (map (key_of columns) xs) (map (key_of columns) ys) (same_map (key_of columns) xs ys same)
      ]

  same_members : (key : List Value) → SameBag (members columns key xs) (members columns key ys)
  same_members key = same_filter (λ r. same_row key (key_of columns r)) xs ys same

  pub same_groups : SameBag (groups columns aggs xs) (groups columns aggs ys)
  same_groups g =
      same_map (λ k. group_row aggs k (members columns k xs)) (group_keys columns xs) (group_keys columns ys) same_keys g
      ∙ ap (λ (f : List Value → BoundAgg → Value). weight g (map (λ k. k ++ map (f k) aggs) (group_keys columns ys))) (λ i k a. same_aggregate (members columns k xs) (members columns k ys) (same_members k) a i)

  pub same_groups_fit : groups_fit columns aggs xs ≡ groups_fit columns aggs ys
  same_groups_fit =
      same_list_all row_cmp_total row_cmp_tells (λ k. list_all (aggregate_fits (members columns k xs)) aggs) (group_keys columns xs) (group_keys columns ys) same_keys
      ∙ ap (λ (f : List Value → BoundAgg → Bool). list_all (λ k. list_all (f k) aggs) (group_keys columns ys)) (λ i k a. same_aggregate_fits (members columns k xs) (members columns k ys) (same_members k) a i)
