-- Whether the aggregates of a part, and those made of all parts, stay within 64 bits.
use Rattle.std.specs.Prelude.{ℕ, Bool, true, ◌&&◌, List, [], ◌∷◌, map, drop}
use Rattle.std.specs.List.{list_all, range_with_len}
use Rattle.lake_values.specs.Order.{number_of}
use Rattle.lake_values.specs.declared.values.Value.{Value}
use Rattle.sql_model.specs.declared.bound.BoundAgg.{BoundAgg}
use Rattle.sql_model.specs.declared.bound.BoundAgg.TheVariants.{CountAll, Count, Sum, Min, Max}
use Rattle.sql_model.specs.Evaluation.{is_64_bits}
use Rattle.sql_model.specs.Groups.{argument_fits, group_keys, members}
use Rattle.op_aggregate.specs.Partials.{columns_kept, final}

-- an aggregate's argument stays within 64 bits on each row
abbrev pub part_fits : List (List Value) → BoundAgg → Bool
part_fits rows CountAll = true
part_fits rows (Count e) = argument_fits rows e
part_fits rows (Sum e) = argument_fits rows e
part_fits rows (Min e) = argument_fits rows e
part_fits rows (Max e) = argument_fits rows e

-- all arguments do
abbrev pub arguments_fit : List BoundAgg → List (List Value) → Bool
arguments_fit aggs rows = list_all (part_fits rows) aggs

-- a count or a final sum stays within 64 bits, of what the parts kept in their first columns
abbrev pub final_fits : BoundAgg → List (List Value) → Bool
final_fits CountAll parts = is_64_bits (number_of (final CountAll parts))
final_fits (Count e) parts = is_64_bits (number_of (final (Count e) parts))
final_fits (Sum e) parts = is_64_bits (number_of (final (Sum e) parts))
final_fits (Min e) parts = true
final_fits (Max e) parts = true

-- all of a group do
abbrev pub group_fits : List BoundAgg → List (List Value) → Bool
group_fits [] parts = true
group_fits (agg ∷ aggs) parts = final_fits agg parts && group_fits aggs (map (drop (columns_kept agg)) parts)

-- all of all groups do; the keys are so many
abbrev pub finals_fit : ℕ → List BoundAgg → List (List Value) → Bool
finals_fit keys aggs rows = list_all (λ k. group_fits aggs (map (drop keys) (members (range_with_len 0 keys) k rows))) (group_keys (range_with_len 0 keys) rows)
