-- How the versions of a table are kept: each row once, with the commits that added it and removed it.
use Rattle.std.specs.Prelude.{◌≡◌, ◌≤◌, ◌<◌, ◌^◌, ℕ, ◌-◌, ◌+◌, Bool, true, false, ◌&&◌, List, [], ◌∷◌, ◌++◌, Option, None, Some, map, filter, is_none, nat_le, nat_lt, vec_len, vec_capacity, if◌then◌else◌}
use Rattle.std.specs.List.{AllByRecursion, list_any}
use Rattle.std.specs.Option.{option_map_or}
use Rattle.lake_values.specs.Cells.{cell}
use Rattle.lake_values.specs.Schemas.{TableColumns}
use Rattle.lake_values.specs.declared.values.Value.{Value}
use Rattle.sql_model.specs.declared.changes.Mark.{Mark}
use Rattle.sql_model.specs.declared.changes.MarkedRow.{MarkedRow}
use Rattle.sql_model.specs.declared.changes.Added.{Added}
use Rattle.sql_model.specs.Listing.{numbers}
use Rattle.lake_values.specs.Rows.{value_at}
use Rattle.sql_model.specs.Versions.{Table, Tables}
use Rattle.lake_values.specs.Texts.{same_text}
use Rattle.table_history.specs.declared.kept.Kept.{Kept}
use Rattle.table_history.specs.declared.kept.ViewRow.{ViewRow}
use Rattle.table_history.specs.declared.stores.Store.{Store}
use Rattle.table_history.specs.Strikes.{less, times}
use Rattle.table_history.specs.Histories.{History}

-- a kept row of a table with its mark
abbrev pub marked_as : List ℕ → Kept → MarkedRow
marked_as table k = record { mark = record { table = table; seq = k.seq; part = k.part; cell = k.cell }; row = k.row }

-- a lent row of a table with its mark
abbrev pub marked_of : List ℕ → ViewRow → MarkedRow
marked_of table r = record { mark = record { table = table; seq = r.seq; part = r.part; cell = r.cell }; row = r.row.now }

-- the version comes before the commit that removed the row, if one did
abbrev pub is_before : ℕ → Option ℕ → Bool
is_before version removed = option_map_or (λ seq. nat_lt version seq) removed true

-- the row stands in the version
abbrev pub stands : ℕ → Kept → Bool
stands version k = nat_le k.seq version && is_before version k.removed

abbrev pub rows_at : ℕ → List ℕ → List Kept → List MarkedRow
rows_at version table rows = map (marked_as table) (filter (stands version) rows)

-- what a store keeps: a table, the commit that created it, and its rows
pub record Stored : Type 0 where
  pub name : List ℕ
  pub schema : TableColumns
  pub created : ℕ
  pub rows : List Kept

abbrev pub stored : Store → Stored
stored s = record { name = s.name; schema = s.schema; created = s.created; rows = s.rows.items }

-- how many rows more a store has room for
abbrev pub spare_at : Store → List ℕ × ℕ
spare_at s = (s.name, vec_capacity s.rows - vec_len s.rows)

-- the table as the version has it
abbrev pub table_at : ℕ → Stored → Table
table_at version s = record { name = s.name; schema = s.schema; rows = rows_at version s.name s.rows }

-- the version has the table
abbrev pub is_there : ℕ → Stored → Bool
is_there version s = nat_le s.created version

-- the tables of the version
abbrev pub tables_at : ℕ → List Stored → Tables
tables_at version stores = map (table_at version) (filter (is_there version) stores)

-- a row that a commit removed
abbrev pub gone : ℕ → Kept → Kept
gone seq k = record k { removed = Some seq }

-- the rows after a commit removes those that stand in the version before it, each as often as the count says
abbrev pub stamped : List ℕ → ℕ → ℕ → (MarkedRow → ℕ) → List Kept → List Kept
stamped table version seq count [] = []
stamped table version seq count (k ∷ ks) =
    if stands version k && nat_lt 0 (count (marked_as table k)) then gone seq k ∷ stamped table version seq (less (marked_as table k) count) ks else k ∷ stamped table version seq count ks

-- the store after a commit removes these rows from the version before it
abbrev pub stamped_store : ℕ → ℕ → List MarkedRow → Stored → Stored
stamped_store version seq removed s = record s { rows = stamped s.name version seq (times removed) s.rows }

-- a row as a part of a commit adds it to a table
abbrev pub kept_by : TableColumns → ℕ → ℕ → List Value → Kept
kept_by schema seq part row = record { seq = seq; part = part; cell = cell (value_at row schema.distribution); removed = None; row = row }

-- the rows that a part of a commit adds to the table of this name
abbrev pub kept_for : List ℕ → TableColumns → ℕ → Added → List Kept
kept_for name schema seq a = if same_text a.table name then map (kept_by schema seq a.part) a.rows else []

-- the store after a part of a commit adds its rows
abbrev pub grown_store : ℕ → Added → Stored → Stored
grown_store seq a s = record s { rows = s.rows ++ kept_for s.name s.schema seq a }

-- after all its parts do
abbrev pub grown_stores : ℕ → List Added → List Stored → List Stored
grown_stores seq [] stores = stores
grown_stores seq (a ∷ more) stores = grown_stores seq more (map (grown_store seq a) stores)

-- the rows of the table that no commit removed
abbrev pub cleared_store : Stored → Stored
cleared_store s = record s { rows = filter (λ k. is_none k.removed) s.rows }

-- where one of the marks is of the table
abbrev pub cleared_if : List Mark → Stored → Stored
cleared_if marks s = if list_any (λ mark. same_text mark.table s.name) marks then cleared_store s else s

-- no commit behind this one added or removed the row
abbrev pub IsStampedBy : ℕ → Kept → Type 0
IsStampedBy last k = (nat_le k.seq last ≡ true) × (option_map_or (λ seq. nat_le seq last) k.removed true ≡ true)

-- nor created the table
abbrev pub IsStoredBy : ℕ → Stored → Type 0
IsStoredBy last s = (nat_le s.created last ≡ true) × AllByRecursion (IsStampedBy last) s.rows

-- no store has the name
abbrev pub IsNewName : List ℕ → List Stored → Type 0
IsNewName name stores = AllByRecursion (λ s. same_text s.name name ≡ false) stores

-- the stores have names of their own
abbrev pub HaveOwnNames : List Stored → Type 0
HaveOwnNames [] = Unit {0}
HaveOwnNames (s ∷ ss) = IsNewName s.name ss × HaveOwnNames ss

-- what a history keeps is of the versions up to the last
pub record IsKept (stores : List Stored) (first last : ℕ) : Type 0 where
  pub first_within : first ≤ last
  pub last_small : last < 2 ^ 62
  pub stamps : AllByRecursion (IsStoredBy last) stores
  pub own_names : HaveOwnNames stores

-- the versions that a history stands for
abbrev pub history_of : List Stored → List (List ℕ × ℕ) → ℕ → ℕ → History
history_of stores spares first last = record {
  first = first;
  tables = map (λ version. tables_at version stores) (numbers first (last + 1 - first));
  spares = spares;
}
