-- The first group of rows and the groups of the others.
use Rattle.std.proofs.Common.{◌≡◌, ℕ, Bool, true, false, ◌&&◌, not, cond, if◌then◌else◌, List, [], ◌∷◌, map, filter, refl, sym, ap, ◌∙◌}
use Rattle.std.specs.List.{list_all}
use Rattle.std.specs.Ordering.{is_eq}
use Rattle.std.specs.Cmp.{Equal-is}
use Rattle.std.proofs.lemmas.Cmp.{tied_itself}
use Rattle.std.proofs.lemmas.List.Folds.{list_all-map}
use Rattle.lake_values.specs.declared.values.Value.{Value}
use Rattle.lake_values.specs.Order.{row_cmp, row_cmp_total, row_cmp_tells}
use Rattle.sql_model.specs.declared.bound.BoundAgg.{BoundAgg}
use Rattle.sql_model.specs.BoundForms.{is_empty}
use Rattle.sql_model.specs.Groups.{aggregate_fits, same_row, distinct, key_of, group_keys, members, group_row, groups, groups_fit}
use Rattle.plain_query.specs.Keys.{differ_in}
use Rattle.row_evaluation.proofs.Filters.{filter_keep, filter_skip, filters_commute, filter_within, map_where, filter_of_map}

abbrev pub Row : Type 0
Row = List Value

abbrev other_row : Row → Row → Bool
other_row r s = not (same_row r s)

pub same_itself : (r : Row) → same_row r r ≡ true
same_itself r = ap is_eq (tied_itself row_cmp_total r)

same_tells : (r s : Row) → same_row r s ≡ true → r ≡ s
same_tells r s e = row_cmp_tells r s ((Equal-is (row_cmp r s)).0 e)

-- rows that a test tells apart are others
told_apart : (p : Row → Bool) (r s : Row) → p r ≡ false → p s ≡ true → other_row r s ≡ true
told_apart p r s fails passes =
    elim (same_row r s) as (λ b. same_row r s ≡ b → not b ≡ true) [
      | true ↦ λ e. let same : p r ≡ p s = ap p (same_tells r s e) in absurd (cc)
      | false ↦ λ e. refl
    ] refl

-- each row once, of those that pass
distinct_passing : (p : Row → Bool) (rows : List Row) → filter p (distinct rows) ≡ distinct (filter p rows)
distinct_passing p [] = refl
distinct_passing p (r ∷ rows) =
    elim (p r) as (λ b. p r ≡ b → filter p (distinct (r ∷ rows)) ≡ distinct (cond b (r ∷ filter p rows) (filter p rows))) [
      | true ↦ λ e. filter_keep p r (filter (other_row r) (distinct rows)) e ∙ ap (λ rs. r ∷ rs) (filters_commute p (other_row r) (distinct rows) ∙ ap (filter (other_row r)) (distinct_passing p rows))
      | false ↦ λ e. filter_skip p r (filter (other_row r) (distinct rows)) e ∙ filter_within (other_row r) p (λ s passes. told_apart p r s e passes) (distinct rows) ∙ distinct_passing p rows
    ] refl

-- two rows have the same key
abbrev pub alike_in : List ℕ → Row → Row → Bool
alike_in columns r s = same_row (key_of columns r) (key_of columns s)

module _ (columns : List ℕ) (some : is_empty columns ≡ false) (first : Row) (rest : List Row) where
  abbrev key : Row
  key = key_of columns first

  abbrev own : Row → Bool
  own = alike_in columns first

  abbrev other : Row → Bool
  other = differ_in columns first

  abbrev rows : List Row
  rows = first ∷ rest

  keys_of : (rs : List Row) → group_keys columns rs ≡ distinct (map (key_of columns) rs)
  keys_of rs = ap (λ b. if b then [] ∷ [] else distinct (map (key_of columns) rs)) some

  other_keys : filter (other_row key) (distinct (map (key_of columns) rest)) ≡ group_keys columns (filter other rows)
  other_keys =
      distinct_passing (other_row key) (map (key_of columns) rest)
      ∙ ap distinct (filter_of_map (other_row key) (key_of columns) rest)
      ∙ ap (λ rs. distinct (map (key_of columns) rs)) (sym (filter_skip other first rest (ap not (same_itself key))))
      ∙ sym (keys_of (filter other rows))

  -- the members of another group aren't among those of the first
  other_members : (k : Row) → other_row key k ≡ true → members columns k rows ≡ members columns k (filter other rows)
  other_members k differs =
      sym (filter_within other (λ r. same_row k (key_of columns r)) (λ r member. ap (λ s. other_row key s) (sym (same_tells k (key_of columns r) member)) ∙ differs) rows)

  -- what is made of each group
  module _ {Y : Type 0} (f : Row → List Row → Y) where
    made_of_groups : map (λ k. f k (members columns k rows)) (group_keys columns rows) ≡ f key (filter own rows) ∷ map (λ k. f k (members columns k (filter other rows))) (group_keys columns (filter other rows))
    made_of_groups =
        let of_all : Row → Y = λ k. f k (members columns k rows) in
        let of_others : Row → Y = λ k. f k (members columns k (filter other rows)) in
        let keys : List Row = distinct (map (key_of columns) rest) in
        ap (map of_all) (keys_of rows)
        ∙ ap (λ ys. f key (filter own rows) ∷ ys) (map_where (other_row key) of_all of_others (λ k differs. ap (f k) (other_members k differs)) keys ∙ ap (map of_others) other_keys)

  pub groups_step : (aggs : List BoundAgg) → groups columns aggs (first ∷ rest) ≡ group_row aggs (key_of columns first) (filter (alike_in columns first) (first ∷ rest)) ∷ groups columns aggs (filter (differ_in columns first) (first ∷ rest))
  groups_step aggs = made_of_groups (group_row aggs)

  pub groups_fit_step : (aggs : List BoundAgg) → groups_fit columns aggs (first ∷ rest) ≡ list_all (aggregate_fits (filter (alike_in columns first) (first ∷ rest))) aggs && groups_fit columns aggs (filter (differ_in columns first) (first ∷ rest))
  groups_fit_step aggs =
      let fit : Row → List Row → Bool = λ k rs. list_all (aggregate_fits rs) aggs in
      sym (list_all-map (λ b. b) (λ k. fit k (members columns k rows)) (group_keys columns rows))
      ∙ ap (list_all (λ b. b)) (made_of_groups fit)
      ∙ ap (λ b. fit key (filter own rows) && b) (list_all-map (λ b. b) (λ k. fit k (members columns k (filter other rows))) (group_keys columns (filter other rows)))

-- without key columns all rows are members
pub all_members : (rows : List Row) → members [] [] rows ≡ rows
all_members [] = refl
all_members (r ∷ rows) = ap (λ rs. r ∷ rs) (all_members rows)
