-- What the rows of a catalogue say of conflicts.
use Rattle.std.specs.Prelude.{◌≡◌, ℕ, ◌≤◌, ◌==◌, Bool, true, false, ◌&&◌, List, [], ◌∷◌, map, nat_lt}
use Rattle.std.specs.List.{AllByRecursion, list_any}
use Rattle.sql_model.specs.declared.changes.Mark.{Mark}
use Rattle.sql_model.specs.Units.{ConflictUnit, whole_table, share_unit, units_of_marks}
use Rattle.lake_core.specs.declared.rows.CatRow.{CatRow}

-- what the row's commit wrote of its table: the table, where it removed a row of it
abbrev pub units_of_row : CatRow → List ConflictUnit
units_of_row row = map (λ m. whole_table row.table) row.marks

-- the row's commit wrote a unit of these marks
abbrev pub writes_one : List Mark → CatRow → Bool
writes_one marks row = share_unit (units_of_row row) (units_of_marks marks)

-- and came after the snapshot
abbrev pub is_conflict : ℕ → List Mark → CatRow → Bool
is_conflict snapshot marks row = nat_lt snapshot row.seq && writes_one marks row

-- the rows stand in the order of their commits
abbrev pub AreInOrder : List CatRow → Type 0
AreInOrder [] = Unit {0}
AreInOrder (r ∷ rs) = AllByRecursion (λ s. r.seq ≤ s.seq) rs × AreInOrder rs

-- the commit conflicts, and none before it does
pub record IsFirstConflict (snapshot : ℕ) (marks : List Mark) (rows : List CatRow) (seq : ℕ) : Type 0 where
  pub there : list_any (λ r. is_conflict snapshot marks r && (r.seq == seq)) rows ≡ true
  pub least : AllByRecursion (λ r. is_conflict snapshot marks r ≡ true → seq ≤ r.seq) rows

-- no commit conflicts
abbrev pub HasNoConflict : ℕ → List Mark → List CatRow → Type 0
HasNoConflict snapshot marks rows = list_any (is_conflict snapshot marks) rows ≡ false
