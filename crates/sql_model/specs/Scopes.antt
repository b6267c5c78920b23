-- What the names of a statement stand for: tables, columns and outputs.
use Rattle.std.specs.Prelude.{ℕ, ◌+◌, Bool, true, false, ◌&&◌, List, [], ◌∷◌, ◌++◌, Option, None, Some, map, if◌then◌else◌, codes}
use Rattle.std.specs.List.{list_any, flat_map}
use Rattle.std.specs.Option.{option_map_or}
use Rattle.lake_values.specs.Schemas.{TableColumns}
use Rattle.lake_values.specs.declared.schemas.Column.{Column}
use Rattle.sql_model.specs.declared.expressions.Ref.{Ref}
use Rattle.sql_model.specs.declared.scopes.Heading.{Heading}
use Rattle.sql_model.specs.declared.scopes.Found.{Found}
use Rattle.sql_model.specs.declared.scopes.Found.TheVariants.{Absent, One, Several}
use Rattle.sql_model.specs.declared.statements.SourceRef.{SourceRef}
use Rattle.lake_values.specs.Texts.{same_text}

-- the schemas of the tables that are there, each with the table's name
abbrev pub TableSchemas : Type 0
TableSchemas = List (List ℕ × TableColumns)

-- the schema of the table of this name
abbrev pub schema_named : List ℕ → TableSchemas → Option TableColumns
schema_named name [] = None
schema_named name (s ∷ ss) = if same_text s.0 name then Some s.1 else schema_named name ss

-- a table's columns; a table that isn't there has none
abbrev pub columns_named : List ℕ → TableSchemas → List Column
columns_named name schemas = option_map_or (λ s. s.columns) (schema_named name schemas) []

abbrev pub heading : List ℕ → Column → Heading
heading table c = record { table = table; name = c.name; kind = c.kind }

-- the columns of a table that the statement calls by this name
abbrev pub headings : List ℕ → List Column → List Heading
headings name columns = map (heading name) columns

abbrev pub source_headings : TableSchemas → SourceRef → List Heading
source_headings schemas source = headings source.name (columns_named source.table schemas)

-- the columns of the joined row of all sources
abbrev pub scope_of : TableSchemas → List SourceRef → List Heading
scope_of schemas sources = flat_map (source_headings schemas) sources

-- the columns of a table that the statement calls by its own name
abbrev pub table_scope : TableSchemas → List ℕ → List Heading
table_scope schemas table = headings table (columns_named table schemas)

-- a reference without a table may name a column of each
abbrev pub is_of_table : Option (List ℕ) → List ℕ → Bool
is_of_table None name = true
is_of_table (Some table) name = same_text table name

-- the reference fits the column
abbrev pub fits : Option (List ℕ) → List ℕ → Heading → Bool
fits table column h = is_of_table table h.table && same_text column h.name

-- what passes at this place, where some behind it may pass too
abbrev pub found_at : ℕ → Bool → Found
found_at place more = if more then Several else One place

-- which members pass, where the list begins at a place
abbrev pub found_from : {X : Type 0} → ℕ → (X → Bool) → List X → Found
found_from place test [] = Absent
found_from place test (x ∷ xs) = if test x then found_at place (list_any test xs) else found_from (place + 1) test xs

-- which column a reference names
abbrev pub named : List Heading → Option (List ℕ) → List ℕ → Found
named scope table column = found_from 0 (fits table column) scope

abbrev pub has_name : List ℕ → Option (List ℕ) → Bool
has_name name output = option_map_or (same_text name) output false

-- which output a name of ORDER BY names
abbrev pub output_named : List (Option (List ℕ)) → List ℕ → Found
output_named outputs name = found_from 0 (has_name name) outputs

-- the place of what was found
abbrev pub place_of : Found → ℕ
place_of (One place) = place
place_of found = 0

-- the place of the column that a reference names
abbrev pub column_of : List Heading → Ref → ℕ
column_of scope r = place_of (named scope r.table r.column)

-- a reference as it is printed
abbrev pub printed : Option (List ℕ) → List ℕ → List ℕ
printed None column = column
printed (Some table) column = table ++ codes "." ++ column
