-- The schema of the table that a CREATE makes.
use Rattle.std.specs.Prelude.{ℕ, List, Option, None, Some, position, unwrap_or}
use Rattle.lake_values.specs.Schemas.{TableColumns}
use Rattle.lake_values.specs.Texts.{same_text}
use Rattle.lake_values.specs.declared.schemas.Column.{Column}

-- without a named column the first one distributes
abbrev pub distribution_of : List Column → Option (List ℕ) → ℕ
distribution_of columns None = 0
distribution_of columns (Some name) = unwrap_or (position (λ c. same_text c.name name) columns) 0

abbrev pub schema_of : List Column → Option (List ℕ) → TableColumns
schema_of columns distribution = record { columns = columns; distribution = distribution_of columns distribution }
