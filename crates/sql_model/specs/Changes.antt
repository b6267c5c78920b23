-- What statements and transactions change, and what tables and versions are after a change.
use Rattle.std.specs.Prelude.{ℕ, ◌==◌, ◌++◌, Bool, true, false, ◌&&◌, not, List, [], ◌∷◌, map, filter, fold, if◌then◌else◌}
use Rattle.std.specs.List.{flat_map, list_any}
use Rattle.std.specs.Ordering.{nat_cmp, on, then_cmp, is_eq}
use Rattle.std.specs.Cmp.Lexicographic.{slice_cmp}
use Rattle.std.specs.declared.cmp.Ordering.{Ordering}
use Rattle.lake_values.specs.Cells.{cell}
use Rattle.lake_values.specs.Order.{row_cmp}
use Rattle.lake_values.specs.Schemas.{TableColumns}
use Rattle.lake_values.specs.declared.values.Value.{Value}
use Rattle.sql_model.specs.declared.changes.Added.{Added}
use Rattle.sql_model.specs.declared.changes.Change.{Change}
use Rattle.sql_model.specs.declared.changes.Mark.{Mark}
use Rattle.sql_model.specs.declared.changes.MarkedRow.{MarkedRow}
use Rattle.lake_values.specs.Rows.{value_at}
use Rattle.sql_model.specs.Listing.{ordered, listed}
use Rattle.sql_model.specs.Versions.{Table, Tables, Version, all_rows}
use Rattle.lake_values.specs.Texts.{same_text}
use Rattle.sql_model.specs.Units.{marks_of}

abbrev pub no_change : Change
no_change = record { removed = []; added = [] }

abbrev pub is_nil : {X : Type 0} → List X → Bool
is_nil [] = true
is_nil (x ∷ xs) = false

-- the change removes nothing and adds nothing
abbrev pub is_unchanged : Change → Bool
is_unchanged change = is_nil change.removed && is_nil change.added

-- the order of marks: by table, commit, part and cell
abbrev pub mark_cmp : Mark → Mark → Ordering
mark_cmp = then_cmp (on (λ m. m.table) (slice_cmp nat_cmp)) (then_cmp (on (λ m. m.seq) nat_cmp) (then_cmp (on (λ m. m.part) nat_cmp) (on (λ m. m.cell) nat_cmp)))

abbrev pub same_mark : Mark → Mark → Bool
same_mark m n = is_eq (mark_cmp m n)

-- by mark, and then by row
abbrev pub marked_cmp : MarkedRow → MarkedRow → Ordering
marked_cmp = then_cmp (on (λ m. m.mark) mark_cmp) (on (λ m. m.row) row_cmp)

-- the members without the first that equals this one
abbrev pub without_one : {X : Type 0} → (X → X → Ordering) → List X → X → List X
without_one cmp [] x = []
without_one cmp (y ∷ ys) x = if is_eq (cmp x y) then ys else y ∷ without_one cmp ys x

-- the members without these, each as often as it stands among them
abbrev pub without : {X : Type 0} → (X → X → Ordering) → List X → List X → List X
without cmp xs removed = fold (without_one cmp) xs removed

-- the row's mark, if a part of a commit adds it to the table. Commit 0 stands for rows that aren't committed
abbrev pub marked : List ℕ → TableColumns → ℕ → ℕ → List Value → MarkedRow
marked table schema seq part row = record {
  mark = record { table = table; seq = seq; part = part; cell = cell (value_at row schema.distribution) };
  row = row;
}

-- what a part adds to a table
abbrev pub added_to : Table → ℕ → Added → List MarkedRow
added_to t seq added = if same_text added.table t.name then map (marked t.name t.schema seq added.part) added.rows else []

-- the rows that are removed from a table
abbrev pub removed_from : Table → List MarkedRow → List MarkedRow
removed_from t removed = filter (λ m. same_text m.mark.table t.name) removed

-- the table after a change that becomes this commit
abbrev pub changed_table : ℕ → Change → Table → Table
changed_table seq change t = record t { rows = without marked_cmp t.rows (removed_from t change.removed) ++ flat_map (added_to t seq) change.added }

-- the tables after a change that becomes this commit
abbrev pub applied : ℕ → Change → Tables → Tables
applied seq change tables = map (changed_table seq change) tables

-- the rows that a part adds, in row order; no rows are no addition
abbrev pub addition : List ℕ → ℕ → List (List Value) → List Added
addition table part [] = []
addition table part (row ∷ rows) = record { table = table; part = part; rows = listed (row ∷ rows) } ∷ []

-- what a statement changes that removes these rows and adds those as this part of its transaction
abbrev pub change_of : List ℕ → ℕ → List MarkedRow → List (List Value) → Change
change_of table part removed added = record { removed = ordered marked_cmp removed; added = addition table part added }

-- the transaction itself added the row
abbrev pub is_own : MarkedRow → Bool
is_own m = m.mark.seq == 0

abbrev pub own : List MarkedRow → List MarkedRow
own rows = filter is_own rows

abbrev pub committed : List MarkedRow → List MarkedRow
committed rows = filter (λ m. not (is_own m)) rows

abbrev pub is_of_part : Added → MarkedRow → Bool
is_of_part added m = same_text m.mark.table added.table && (m.mark.part == added.part)

-- what a part added, without rows that its transaction removed again
abbrev pub left_of : List MarkedRow → Added → Added
left_of removed added = record added { rows = without row_cmp added.rows (map (λ m. m.row) (filter (is_of_part added) removed)) }

-- a part of which no row is left adds nothing
abbrev pub additions_left : List MarkedRow → List Added → List Added
additions_left removed additions = filter (λ added. not (is_nil added.rows)) (map (left_of removed) additions)

-- what a transaction changes after a further statement of it: a row of its own that is removed was never added
abbrev pub pend : Change → Change → Change
pend before change = record {
  removed = before.removed ++ committed change.removed;
  added = additions_left (own change.removed) before.added ++ change.added;
}

-- a row of the tables has the mark
abbrev pub has_mark : Tables → Mark → Bool
has_mark tables mark = list_any (λ m. same_mark m.mark mark) (all_rows tables)

abbrev pub as_commit : ℕ → Mark → Mark
as_commit seq mark = record mark { seq = seq }

-- the version after a transaction's change, as this commit; `worn` are the transaction's own marks that have lost a row
abbrev pub version_after : ℕ → Change → List Mark → Version → Version
version_after seq change worn version =
    let tables = applied seq change version.tables in
    record {
      tables = tables;
      worn = filter (has_mark tables) (version.worn ++ marks_of change.removed ++ map (as_commit seq) worn);
      struck = marks_of change.removed;
    }
