-- That the files of a table stand for its rows in a version, or for what a transaction sees of it.
use Rattle.std.specs.Prelude.{◌≡◌, ℕ, ◌<◌, ◌≤◌, ◌==◌, Bool, true, false, not, List, ◌++◌, is_some}
use Rattle.std.specs.Prelude.{if◌then◌else◌}
use Rattle.std.specs.List.{AllByRecursion}
use Rattle.sql_model.specs.declared.changes.Mark.{Mark}
use Rattle.sql_model.specs.declared.changes.MarkedRow.{MarkedRow}
use Rattle.sql_model.specs.Listing.{IsPartOf, SameBag, weight}
use Rattle.sql_model.specs.Changes.{is_nil, is_own, marked_cmp, same_mark, without}
use Rattle.sql_model.specs.Units.{marks_of}
use Rattle.manifest_block.specs.declared.items.Item.{Item}
use Rattle.table_snapshot.specs.declared.files.FileRow.{FileRow}
use Rattle.table_snapshot.specs.Files.{replay}
use Rattle.file_laws.specs.Contents.{Contents, live_of, mark_of, rows_in}
use Rattle.file_laws.specs.Touching.{MayTouch, HasNone, is_marked}

-- both hold or neither
abbrev pub agrees : Bool → Bool → Bool
agrees true b = b
agrees false b = not b

-- how many files have the mark
abbrev pub files_marked : List ℕ → Mark → List FileRow → ℕ
files_marked table mark files =
    weight (λ f. if same_mark mark (mark_of table f) then 1 else 0) files

-- The rows that are left of the files are these, each under the mark of its file. A file has a
-- vector exactly where its mark is worn, each file has a row, and no two files have one mark.
pub record FilesStand
    (c : Contents) (table : List ℕ) (files : List FileRow) (rows : List MarkedRow)
    (worn : List Mark) : Type 0 where
  pub same : SameBag (rows_in c table files) rows
  pub vectors :
      AllByRecursion (λ f. agrees (is_some f.vector) (is_marked worn (mark_of table f)) ≡ true)
      files
  pub filled : AllByRecursion (λ f. is_nil (live_of c f) ≡ false) files
  pub one_each : (mark : Mark) → files_marked table mark files ≤ 1

-- the files and the worn marks are of commits up to this one
pub record AreUpTo (last : ℕ) (files : List FileRow) (worn : List Mark) : Type 0 where
  pub of_files : AllByRecursion (λ f. (0 < f.seq) × (f.seq ≤ last)) files
  pub of_worn : AllByRecursion (λ m. (0 < m.seq) × (m.seq ≤ last)) worn

-- A transaction's items, replayed over the files of its snapshot, give files that stand for what it
-- sees of the table: the snapshot's rows without those that it removed, and those that it added.
pub record IsSeenBy
    (c : Contents) (table : List ℕ) (txn : ℕ) (files : List FileRow) (rows : List MarkedRow)
    (worn : List Mark) (items : List Item) (removed added : List MarkedRow) (own_worn : List Mark)
    : Type 0 where
  pub may : MayTouch txn table (marks_of removed) files items
  pub none : HasNone txn files
  pub part : IsPartOf removed rows
  pub own_rows : AllByRecursion (λ m. is_own m ≡ true) added
  pub own_marks : AllByRecursion (λ m. (m.seq == 0) ≡ true) own_worn
  pub stands :
      FilesStand c table (replay 0 items files) (without marked_cmp rows removed ++ added)
      (worn ++ marks_of removed ++ own_worn)
