-- The versions of tables that a history stands for.
use Rattle.std.specs.Prelude.{◌≡◌, ◌≤◌, ℕ, ◌+◌, ◌-◌, Bool, true, List, [], ◌∷◌, ◌++◌, length, nat_le, slice_get, unwrap_or, if◌then◌else◌}
use Rattle.std.specs.List.{AllByRecursion, list_any}
use Rattle.sql_model.specs.declared.changes.Added.{Added}
use Rattle.sql_model.specs.declared.changes.Change.{Change}
use Rattle.sql_model.specs.declared.changes.Mark.{Mark}
use Rattle.sql_model.specs.declared.changes.MarkedRow.{MarkedRow}
use Rattle.sql_model.specs.Versions.{Tables}
use Rattle.lake_values.specs.Texts.{same_text}

-- the number of the first version that is kept, the tables of it and of each version behind it, and for each table how
-- many rows more it has room for
pub record History : Type 0 where
  pub first : ℕ
  pub tables : List Tables
  pub spares : List (List ℕ × ℕ)

-- version 0, which has no table
abbrev pub no_tables : History
no_tables = record { first = 0; tables = [] ∷ []; spares = [] }

-- the number of the last version
abbrev pub last_of : History → ℕ
last_of h = h.first + length h.tables - 1

-- the tables of a version
abbrev pub tables_in : History → ℕ → Tables
tables_in h version = unwrap_or (slice_get h.tables (version - h.first)) []

abbrev pub newest_of : History → Tables
newest_of h = tables_in h (last_of h)

-- the version is kept
pub record IsIn (h : History) (version : ℕ) : Type 0 where
  pub from : h.first ≤ version
  pub to : version ≤ last_of h

-- there is room for so many rows in the table, if there is one
abbrev pub has_spare_rows : List (List ℕ × ℕ) → List ℕ → ℕ → Bool
has_spare_rows [] name rows = true
has_spare_rows (s ∷ ss) name rows = if same_text s.0 name then nat_le rows s.1 else has_spare_rows ss name rows

-- the room that the one history has for rows the other has too
abbrev pub KeepsRoom : History → History → Type 0
KeepsRoom old new = (name : List ℕ) (rows : ℕ) → has_spare_rows old.spares name rows ≡ true → has_spare_rows new.spares name rows ≡ true

-- how many rows a change adds to a table
abbrev pub rows_for : List ℕ → List Added → ℕ
rows_for name [] = 0
rows_for name (a ∷ more) = if same_text a.table name then length a.rows + rows_for name more else rows_for name more

-- one of the marks is of each row's table
abbrev pub NamesTables : List Mark → List MarkedRow → Type 0
NamesTables marks rows = AllByRecursion (λ m. list_any (λ mark. same_text mark.table m.mark.table) marks ≡ true) rows

abbrev pub change_from : List MarkedRow → List Added → Change
change_from removed added = record { removed = removed; added = added }

-- one version more, and the room for what it adds is used
pub record GrowsBy (old new : History) (more : Tables) : Type 0 where
  pub first : new.first ≡ old.first
  pub tables : new.tables ≡ old.tables ++ more ∷ []
