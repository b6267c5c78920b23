-- What the groups of a part of the rows keep, and the groups of all rows made of it.
use Rattle.std.specs.Prelude.{ℕ, ℤ, pos, ◌+◌, ◌+ℤ◌, ◌*ℤ◌, ◌^◌, List, [], ◌∷◌, ◌++◌, map, drop}
use Rattle.std.specs.Int.{int_div_euclid, int_rem_euclid}
use Rattle.std.specs.List.{flat_map, range_with_len}
use Rattle.lake_values.specs.Order.{number_of}
use Rattle.lake_values.specs.declared.values.Value.{Value}
use Rattle.lake_values.specs.declared.values.Value.TheVariants.{Null, Int, Text}
use Rattle.sql_model.specs.declared.bound.BoundAgg.{BoundAgg}
use Rattle.sql_model.specs.declared.bound.BoundAgg.TheVariants.{CountAll, Count, Sum, Min, Max}
use Rattle.lake_values.specs.Rows.{value_at}
use Rattle.sql_model.specs.Groups.{aggregate, summary, sum_of_both, lesser, greater, group_keys, members}

-- A sum in two numbers of 64 bits: how often 2^63 is in it, and what is left. NULL stands twice where nothing was added.
abbrev pub halves : Value → List Value
halves Null = Null ∷ Null ∷ []
halves (Int n) = Int (int_div_euclid n (pos (2 ^ 63))) ∷ Int (int_rem_euclid n (pos (2 ^ 63))) ∷ []
halves (Text t) = Text t ∷ Null ∷ []

-- the sum that the sums of both columns stand for
abbrev pub whole : Value → Value → Value
whole (Int high) low = Int ((high *ℤ pos (2 ^ 63)) +ℤ number_of low)
whole v low = v

-- the values that a part keeps of an aggregate over the rows of a group
abbrev pub kept : List (List Value) → BoundAgg → List Value
kept rows CountAll = aggregate rows CountAll ∷ []
kept rows (Count e) = aggregate rows (Count e) ∷ []
kept rows (Sum e) = halves (aggregate rows (Sum e))
kept rows (Min e) = aggregate rows (Min e) ∷ []
kept rows (Max e) = aggregate rows (Max e) ∷ []

-- how many values these are
abbrev pub columns_kept : BoundAgg → ℕ
columns_kept CountAll = 1
columns_kept (Count e) = 1
columns_kept (Sum e) = 2
columns_kept (Min e) = 1
columns_kept (Max e) = 1

abbrev pub kept_width : List BoundAgg → ℕ
kept_width [] = 0
kept_width (agg ∷ aggs) = columns_kept agg + kept_width aggs

-- the rows of a part: each group's key, and behind it what is kept of its aggregates
abbrev pub partial_rows : List ℕ → List BoundAgg → List (List Value) → List (List Value)
partial_rows columns aggs rows = map (λ k. k ++ flat_map (kept (members columns k rows)) aggs) (group_keys columns rows)

abbrev pub total : List Value → ℤ
total [] = pos 0
total (v ∷ vs) = number_of v +ℤ total vs

abbrev pub column : ℕ → List (List Value) → List Value
column place rows = map (λ r. value_at r place) rows

-- an aggregate over a group, of what its parts kept of it in their first columns
abbrev pub final : BoundAgg → List (List Value) → Value
final CountAll parts = Int (total (column 0 parts))
final (Count e) parts = Int (total (column 0 parts))
final (Sum e) parts = whole (summary sum_of_both (column 0 parts)) (summary sum_of_both (column 1 parts))
final (Min e) parts = summary lesser (column 0 parts)
final (Max e) parts = summary greater (column 0 parts)

abbrev pub finals : List BoundAgg → List (List Value) → List Value
finals [] parts = []
finals (agg ∷ aggs) parts = final agg parts ∷ finals aggs (map (drop (columns_kept agg)) parts)

-- the groups of the rows of all parts; the keys are so many
abbrev pub finished_rows : ℕ → List BoundAgg → List (List Value) → List (List Value)
finished_rows keys aggs rows = map (λ k. k ++ finals aggs (map (drop keys) (members (range_with_len 0 keys) k rows))) (group_keys (range_with_len 0 keys) rows)
