-- Rows that differ in a key.
use Rattle.std.specs.Prelude.{ℕ, Bool, not, List}
use Rattle.lake_values.specs.declared.values.Value.{Value}
use Rattle.sql_model.specs.Groups.{same_row, key_of}

-- two rows differ in one of the columns
abbrev pub differ_in : List ℕ → List Value → List Value → Bool
differ_in columns r s = not (same_row (key_of columns r) (key_of columns s))
