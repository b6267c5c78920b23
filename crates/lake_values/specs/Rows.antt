-- The values of a row by their places.
use Rattle.std.specs.Prelude.{ℕ, List, slice_get, unwrap_or}
use Rattle.lake_values.specs.declared.values.Value.{Value}
use Rattle.lake_values.specs.declared.values.Value.TheVariants.{Null}

-- the value in a column, from 0; behind the last column NULL
abbrev pub value_at : List Value → ℕ → Value
value_at row column = unwrap_or (slice_get row column) Null
