-- Laws of the files of a table: for which rows they stand when a transaction's items are replayed
-- over them.
use Rattle.std.specs.Prelude.{◌≡◌, ℕ, ◌+◌, ◌==◌, ◌≤◌, Bool, true, false, not, List, [], ◌∷◌, ◌++◌}
use Rattle.std.specs.Prelude.{map, filter}
use Rattle.std.specs.List.{AllByRecursion, flat_map}
use Rattle.lake_values.specs.declared.names.Name.{Name}
use Rattle.sql_model.specs.declared.changes.Mark.{Mark}
use Rattle.sql_model.specs.declared.changes.MarkedRow.{MarkedRow}
use Rattle.sql_model.specs.Listing.{IsPartOf, SameBag}
use Rattle.sql_model.specs.Changes.{as_commit, is_nil, is_own, marked_cmp, without}
use Rattle.sql_model.specs.Units.{marks_of, ConflictUnit, same_unit}
use Rattle.manifest_block.specs.declared.items.Item.{Item}
use Rattle.table_snapshot.specs.declared.files.FileRow.{FileRow}
use Rattle.manifest_block.specs.declared.items.Item.TheVariants.{Add}
use Rattle.table_snapshot.specs.Files.{item_file, new_file, replay}
use Rattle.file_laws.specs.Marking.{Removal, mark_items, HasVector, HaveOwnNames}
use Rattle.file_laws.specs.Contents.{Contents, mark_of, marked_live, rows_in, row_as}
use Rattle.file_laws.specs.Standing.{files_marked, FilesStand, AreUpTo, IsSeenBy}
use Rattle.file_laws.specs.Touching.{Row, is_marked, is_there, MayTouch, HasNone, TouchInTurn}
use Rattle.file_laws.specs.Touching.{IsApart, is_touched, replay_rows}

-- the files with these names
abbrev pub named : (Name → Bool) → List FileRow → List FileRow
named among files = filter (λ f. among f.file) files

-- the files are those of a version's rows of a table, none of which a transaction itself added
pub record AreCommitted
    (c : Contents) (table : List ℕ) (files : List FileRow) (rows : List MarkedRow) : Type 0 where
  pub kept_files : AllByRecursion (λ f. (f.seq == 0) ≡ false) files
  pub kept_rows : AllByRecursion (λ m. is_own m ≡ false) rows
  pub same : SameBag (rows_in c table files) rows

-- A transaction's items, whose files are those with the names `among`, make of the files of its
-- snapshot those of what it sees: its snapshot's rows without those that it removed, and those that
-- it added.
pub record IsSeen
    (c : Contents) (table : List ℕ) (among : Name → Bool) (items : List Item) (files : List FileRow)
    (rows removed added : List MarkedRow) : Type 0 where
  pub names : AllByRecursion (λ i. among (item_file i) ≡ true) items
  pub part : IsPartOf removed rows
  pub own : AllByRecursion (λ m. is_own m ≡ true) added
  pub same :
      SameBag (rows_in c table (replay 0 items files)) (without marked_cmp rows removed ++ added)

-- Where the named files are as they were at the snapshot, the items make of a later version's files
-- those of the version after the change, in which what the transaction added has the new commit's
-- marks.
abbrev pub Rebases : Type 0
Rebases =
    (c : Contents) (table : List ℕ) (among : Name → Bool) (items : List Item) (seq : ℕ)
    (files : List FileRow) (rows : List MarkedRow) (later : List FileRow)
    (later_rows removed added : List MarkedRow) → AreCommitted c table files rows
    → AreCommitted c table later later_rows → IsSeen c table among items files rows removed added
    → SameBag (named among later) (named among files)
    → SameBag (rows_in c table (replay seq items later))
    (without marked_cmp later_rows removed ++ map (row_as seq) added)

-- Where no commit after a snapshot wrote a unit that the transaction writes, the files that its
-- items name are as they were; and the items name what they may of the later files too.
abbrev pub KeepsWhatIsFree : Type 0
KeepsWhatIsFree =
    (unit : Mark → ConflictUnit) → ((u : ConflictUnit) → same_unit u u ≡ true)
    → (table : List ℕ) (txn : ℕ) (marks : List Mark) (items : List Item) (files : List FileRow)
    (rows : List Row)
    → MayTouch txn table marks files items → HasNone txn files → TouchInTurn table files rows
    → AllByRecursion (IsApart unit txn marks files) rows
    → (named (is_touched items) (replay_rows rows files) ≡ named (is_touched items) files)
    × MayTouch txn table marks (replay_rows rows files) items

-- A change is committed at a later version. Where the files that its items name are as they were at
-- the snapshot, the items, replayed as the next commit over the last version's files, give files
-- that stand for the version after the change.
abbrev pub StandsAfterCommit : Type 0
StandsAfterCommit =
    (c : Contents) (table : List ℕ) (txn snapshot last : ℕ) (items : List Item)
    (files : List FileRow) (rows : List MarkedRow) (worn : List Mark) (later : List FileRow)
    (later_rows : List MarkedRow) (later_worn : List Mark) (removed added : List MarkedRow)
    (own_worn : List Mark) → snapshot ≤ last → FilesStand c table files rows worn
    → AreUpTo snapshot files worn → FilesStand c table later later_rows later_worn
    → AreUpTo last later later_worn
    → IsSeenBy c table txn files rows worn items removed added own_worn
    → named (is_touched items) later ≡ named (is_touched items) files
    → FilesStand c table (replay (last + 1) items later)
    (without marked_cmp later_rows removed ++ map (row_as (last + 1)) added)
    (later_worn ++ marks_of removed ++ map (as_commit (last + 1)) own_worn)

-- The items of a removal, replayed over files that stand for rows, give files that stand for the
-- rows that it leaves. Each file that stays and lost a row wears its mark.
abbrev pub StandsAfterRemoval : Type 0
StandsAfterRemoval =
    (c : Contents) (table : List ℕ) (seq : ℕ) (r : Removal) (files : List FileRow)
    (rows : List MarkedRow) (worn : List Mark) → FilesStand c table files rows worn
    → HaveOwnNames files → AllByRecursion (HasVector c r) files
    → FilesStand c table (replay seq (flat_map (mark_items c table r) files) files)
    (filter (λ m. not (r.matches m.row)) rows)
    (worn ++ marks_of (filter (λ m. r.matches m.row) rows))

-- A further file stands for the rows that it holds, where its name and its mark are new.
abbrev pub StandsAfterAddition : Type 0
StandsAfterAddition =
    (c : Contents) (table : List ℕ) (seq cell part count : ℕ) (name : Name) (files : List FileRow)
    (rows : List MarkedRow) (worn : List Mark) → FilesStand c table files rows worn
    → is_there name files ≡ false → is_nil (c.rows name) ≡ false
    → files_marked table (mark_of table (new_file seq cell part name count)) files ≡ 0
    → is_marked worn (mark_of table (new_file seq cell part name count)) ≡ false
    → FilesStand c table (replay seq (Add table cell part name count ∷ []) files)
    (rows ++ marked_live c table (new_file seq cell part name count)) worn
