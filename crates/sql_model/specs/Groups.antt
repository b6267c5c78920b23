-- Groups of rows, and what an aggregate is over a group.
use Rattle.std.specs.Prelude.{ℕ, pos, ◌+ℤ◌, Bool, ◌&&◌, not, List, [], ◌∷◌, ◌++◌, map, filter, length, if◌then◌else◌}
use Rattle.std.specs.List.{list_all}
use Rattle.std.specs.Ordering.{is_eq, is_gt}
use Rattle.lake_values.specs.Order.{value_cmp, row_cmp, number_of}
use Rattle.lake_values.specs.declared.values.Value.{Value}
use Rattle.lake_values.specs.declared.values.Value.TheVariants.{Null, Int}
use Rattle.sql_model.specs.declared.bound.BoundAgg.{BoundAgg}
use Rattle.sql_model.specs.declared.bound.BoundAgg.TheVariants.{CountAll, Count, Sum, Min, Max}
use Rattle.sql_model.specs.declared.bound.BoundExpr.{BoundExpr}
use Rattle.sql_model.specs.BoundForms.{is_empty}
use Rattle.sql_model.specs.Evaluation.{eval, fits, is_null, is_64_bits}
use Rattle.lake_values.specs.Rows.{value_at}

-- two values as one, where NULL adds nothing to the other
abbrev pub joined_by : (Value → Value → Value) → Value → Value → Value
joined_by op Null w = w
joined_by op v Null = v
joined_by op v w = op v w

-- all values as one; NULL where all of them are NULL or there are none
abbrev pub summary : (Value → Value → Value) → List Value → Value
summary op [] = Null
summary op (v ∷ vs) = joined_by op v (summary op vs)

-- in exact whole numbers
abbrev pub sum_of_both : Value → Value → Value
sum_of_both v w = Int (number_of v +ℤ number_of w)

abbrev pub lesser : Value → Value → Value
lesser v w = if is_gt (value_cmp v w) then w else v

abbrev pub greater : Value → Value → Value
greater v w = if is_gt (value_cmp v w) then v else w

abbrev pub number : ℕ → Value
number n = Int (pos n)

-- the values of an expression on the rows of a group
abbrev pub values_on : BoundExpr → List (List Value) → List Value
values_on e rows = map (eval e) rows

-- COUNT counts the rows, or the values that aren't NULL; SUM, MIN and MAX skip NULL, and are NULL where nothing is left
abbrev pub aggregate : List (List Value) → BoundAgg → Value
aggregate rows CountAll = number (length rows)
aggregate rows (Count e) = number (length (filter (λ v. not (is_null v)) (values_on e rows)))
aggregate rows (Sum e) = summary sum_of_both (values_on e rows)
aggregate rows (Min e) = summary lesser (values_on e rows)
aggregate rows (Max e) = summary greater (values_on e rows)

-- an argument stays within 64 bits on each row
abbrev pub argument_fits : List (List Value) → BoundExpr → Bool
argument_fits rows e = list_all (fits e) rows

-- the arguments stay within 64 bits, and so does a count and a final sum
abbrev pub aggregate_fits : List (List Value) → BoundAgg → Bool
aggregate_fits rows CountAll = is_64_bits (number_of (aggregate rows CountAll))
aggregate_fits rows (Count e) = argument_fits rows e && is_64_bits (number_of (aggregate rows (Count e)))
aggregate_fits rows (Sum e) = argument_fits rows e && is_64_bits (number_of (aggregate rows (Sum e)))
aggregate_fits rows (Min e) = argument_fits rows e
aggregate_fits rows (Max e) = argument_fits rows e

abbrev pub same_row : List Value → List Value → Bool
same_row r s = is_eq (row_cmp r s)

-- each row once, where it comes first
abbrev pub distinct : List (List Value) → List (List Value)
distinct [] = []
distinct (r ∷ rs) = r ∷ filter (λ s. not (same_row r s)) (distinct rs)

-- the values of the group columns
abbrev pub key_of : List ℕ → List Value → List Value
key_of columns row = map (value_at row) columns

-- the keys of the groups: NULL is a key like another, and without group columns there is one group, even of no rows
abbrev pub group_keys : List ℕ → List (List Value) → List (List Value)
group_keys columns rows = if is_empty columns then [] ∷ [] else distinct (map (key_of columns) rows)

-- the rows of a group
abbrev pub members : List ℕ → List Value → List (List Value) → List (List Value)
members columns key rows = filter (λ r. same_row key (key_of columns r)) rows

-- a group's key, and behind it its aggregates
abbrev pub group_row : List BoundAgg → List Value → List (List Value) → List Value
group_row aggs key rows = key ++ map (aggregate rows) aggs

-- the rows of all groups
abbrev pub groups : List ℕ → List BoundAgg → List (List Value) → List (List Value)
groups columns aggs rows = map (λ k. group_row aggs k (members columns k rows)) (group_keys columns rows)

-- all aggregates of all groups stay within 64 bits
abbrev pub groups_fit : List ℕ → List BoundAgg → List (List Value) → Bool
groups_fit columns aggs rows = list_all (λ k. list_all (aggregate_fits (members columns k rows)) aggs) (group_keys columns rows)
