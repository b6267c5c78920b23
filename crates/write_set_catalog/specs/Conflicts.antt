-- What the commits of a catalogue say of conflicts.
use Rattle.std.specs.Prelude.{◌≡◌, ℕ, ◌≤◌, ◌==◌, Bool, true, false, ◌&&◌, List, map, nat_lt}
use Rattle.std.specs.List.{AllByRecursion, list_any}
use Rattle.sql_model.specs.declared.changes.Mark.{Mark}
use Rattle.sql_model.specs.Units.{ConflictUnit, whole_table, share_unit, units_of_marks}
use Rattle.write_set_catalog.specs.Catalogs.{ToldCommit}
use Rattle.write_set_catalog.specs.declared.rows.CatRow.{CatRow}

-- what a commit wrote of a row's table: the table, where it removed a row of it
abbrev pub units_of_row : CatRow → List ConflictUnit
units_of_row row = map (λ m. whole_table row.table) row.marks

-- it wrote a unit of these marks
abbrev pub row_writes_one : List Mark → CatRow → Bool
row_writes_one marks row = share_unit (units_of_row row) (units_of_marks marks)

abbrev pub writes_one : List Mark → ToldCommit → Bool
writes_one marks commit = list_any (row_writes_one marks) commit.rows

-- and came after the snapshot
abbrev pub is_conflict : ℕ → List Mark → ToldCommit → Bool
is_conflict snapshot marks commit = nat_lt snapshot commit.seq && writes_one marks commit

-- the commit conflicts, and none before it does
pub record IsFirstConflict (snapshot : ℕ) (marks : List Mark) (commits : List ToldCommit) (seq : ℕ)
    : Type 0 where
  pub there : list_any (λ c. is_conflict snapshot marks c && (c.seq == seq)) commits ≡ true
  pub least : AllByRecursion (λ c. is_conflict snapshot marks c ≡ true → seq ≤ c.seq) commits

-- no commit conflicts
abbrev pub HasNoConflict : ℕ → List Mark → List ToldCommit → Type 0
HasNoConflict snapshot marks commits = list_any (is_conflict snapshot marks) commits ≡ false
