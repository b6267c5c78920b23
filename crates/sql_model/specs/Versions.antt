-- What a version of the lake holds.
use Rattle.std.specs.Prelude.{ℕ, Bool, List, [], Option, find, is_some, map}
use Rattle.std.specs.List.{flat_map}
use Rattle.std.specs.Option.{option_map_or}
use Rattle.lake_values.specs.Schemas.{TableColumns}
use Rattle.lake_values.specs.Texts.{same_text}
use Rattle.sql_model.specs.Units.{ConflictUnit, units_of_marks}
use Rattle.lake_values.specs.declared.values.Value.{Value}
use Rattle.sql_model.specs.declared.changes.Mark.{Mark}
use Rattle.sql_model.specs.declared.changes.MarkedRow.{MarkedRow}

-- a table as a version has it; the mark of each row says which commit and part added it, and its cell
pub record Table : Type 0 where
  pub name : List ℕ
  pub schema : TableColumns
  pub rows : List MarkedRow

-- tables in the order in which they were created
abbrev pub Tables : Type 0
Tables = List Table

-- a version: its tables, its worn marks, which still have a row and have lost one, and the marks
-- that the commit that made it struck: of the committed rows that it removed, or of the files that
-- it replaced
pub record Version : Type 0 where
  pub tables : Tables
  pub worn : List Mark
  pub struck : List Mark

abbrev pub empty_version : Version
empty_version = record { tables = []; worn = []; struck = [] }

-- what the commit that made the version wrote
abbrev pub wrote : Version → List ConflictUnit
wrote version = units_of_marks version.struck

-- the table of this name, if it is there
abbrev pub table_of : List ℕ → Tables → Option Table
table_of name tables = find (λ t. same_text t.name name) tables

abbrev pub has_table : List ℕ → Tables → Bool
has_table name tables = is_some (table_of name tables)

-- the rows of the table of this name, with their marks
abbrev pub marked_rows_of : List ℕ → Tables → List MarkedRow
marked_rows_of name tables = option_map_or (λ t. t.rows) (table_of name tables) []

-- the rows of each table, without their marks
abbrev pub rows_of : Tables → List ℕ → List (List Value)
rows_of tables name = map (λ m. m.row) (marked_rows_of name tables)

-- the rows of all tables
abbrev pub all_rows : Tables → List MarkedRow
all_rows tables = flat_map (λ t. t.rows) tables
