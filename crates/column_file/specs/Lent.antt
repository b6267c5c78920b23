-- Values and columns whose texts are lent, as what they lend.
use Rattle.std.specs.Prelude.{◌≡◌, ◌<◌, ◌≤◌, ℕ, length, map, All, slice_index_or}
use Rattle.lake_values.specs.Order.{bytes_of}
use Rattle.lake_values.specs.declared.values.Value.{Value}
use Rattle.lake_values.specs.declared.values.Value.TheVariants.{Null, Int, Text}
use Rattle.lake_values.specs.declared.values.ValueRef.{ValueRef}
use Rattle.lake_values.specs.declared.values.ValueRef.TheVariants as lent
use Rattle.column_file.specs.declared.columns.LentColumn.{LentColumn}
use Rattle.column_file.specs.Spelling.{Column}

abbrev pub owned : ValueRef → Value
owned lent.Null = Null
owned (lent.Int n) = Int n
owned (lent.Text t) = Text t.now

abbrev pub lent_column : LentColumn → Column
lent_column c = (c.kind, map owned c.values.items)

-- the value of a column at a row
abbrev pub value_at : ℕ → LentColumn → Value
value_at place c = slice_index_or (map owned c.values.items) place Null

-- a column has a row, and a text there is short
pub record HasPlace (place : ℕ) (c : LentColumn) : Type 0 where
  pub within : place < length c.values.items
  pub short : length (bytes_of (value_at place c)) ≤ 4096

-- a column has so many rows, and its texts are short
pub record IsTable (count : ℕ) (c : LentColumn) : Type 0 where
  pub rows : length c.values.items ≡ count
  pub short : All (λ v. length (bytes_of v) ≤ 4096) (map owned c.values.items)
