-- Which files the items of a commit may name: its own, and those whose rows it removed.
use Rattle.std.specs.Prelude.{◌≡◌, ℕ, ◌==◌, Bool, true, false, ◌&&◌, ◌||◌, not, List, [], ◌∷◌}
use Rattle.std.specs.Prelude.{Option, map}
use Rattle.std.specs.List.{AllByRecursion, list_any, list_all}
use Rattle.lake_values.specs.declared.names.Name.{Name}
use Rattle.sql_model.specs.declared.changes.Mark.{Mark}
use Rattle.sql_model.specs.Changes.{same_mark}
use Rattle.lake_values.specs.Names.{same_name}
use Rattle.sql_model.specs.Units.{ConflictUnit, share_unit}
use Rattle.manifest_block.specs.declared.items.Item.{Item}
use Rattle.manifest_block.specs.declared.items.Item.TheVariants.{Add, Remove, SetVector}
use Rattle.table_snapshot.specs.declared.files.FileRow.{FileRow}
use Rattle.table_snapshot.specs.Files.{is_file, item_file, items_of, replay}
use Rattle.file_laws.specs.Contents.{mark_of}

-- a row of the catalogue as the bytes of its manifest tell it: its commit and the transaction of
-- that, its table, the manifest and all items of it, the names that the table gained and lost, and
-- the marks of its rows that the commit removed
pub record Row : Type 0 where
  pub seq : ℕ
  pub txn : ℕ
  pub table : List ℕ
  pub manifest : Option Name
  pub items : List Item
  pub added : List Name
  pub dropped : List Name
  pub marks : List Mark

-- the mark is one of these
abbrev pub is_marked : List Mark → Mark → Bool
is_marked marks mark = list_any (same_mark mark) marks

-- the transaction wrote the blob
abbrev pub is_name_of : ℕ → Name → Bool
is_name_of txn name = name.txn == txn

-- one of the files has the name
abbrev pub is_there : Name → List FileRow → Bool
is_there name files = list_any (is_file name) files

-- the files of this name have one of the marks
abbrev pub all_marked : List ℕ → List Mark → Name → List FileRow → Bool
all_marked table marks name files =
    list_all (λ f. not (is_file name f) || is_marked marks (mark_of table f)) files

-- a transaction names its own files, and of those that were there such as have one of the marks
abbrev pub may_name : ℕ → List ℕ → List Mark → List FileRow → Name → Bool
may_name txn table marks files name =
    is_name_of txn name || is_there name files && all_marked table marks name files

-- the items name only what they may
abbrev pub MayTouch : ℕ → List ℕ → List Mark → List FileRow → List Item → Type 0
MayTouch txn table marks files items =
    AllByRecursion (λ i. may_name txn table marks files (item_file i) ≡ true) items

-- what the item adds is the transaction's
abbrev pub adds_own : ℕ → Item → Bool
adds_own txn (Add table cell part file rows) = is_name_of txn file
adds_own txn (Remove table file) = true
adds_own txn (SetVector table file vector removed) = true

-- whatever the items add is the transaction's
abbrev pub AddsOwn : ℕ → List Item → Type 0
AddsOwn txn items = AllByRecursion (λ i. adds_own txn i ≡ true) items

-- one of the items names the file
abbrev pub is_touched : List Item → Name → Bool
is_touched items name = list_any (λ i. same_name (item_file i) name) items

-- what the rows of a table make of its files, one after another
abbrev pub replay_rows : List Row → List FileRow → List FileRow
replay_rows [] files = files
replay_rows (r ∷ rs) files = replay_rows rs (replay r.seq (items_of r.table r.items) files)

-- each row's items name only what they may, in the files that the rows before it left
abbrev pub TouchInTurn : List ℕ → List FileRow → List Row → Type 0
TouchInTurn table files [] = Unit {0}
TouchInTurn table files (r ∷ rs) =
    MayTouch r.txn table r.marks files (items_of r.table r.items)
    × TouchInTurn table (replay r.seq (items_of r.table r.items) files) rs

-- no file of the list is the transaction's
abbrev pub HasNone : ℕ → List FileRow → Type 0
HasNone txn files = AllByRecursion (λ f. is_name_of txn f.file ≡ false) files

-- a commit of another transaction, whose files the list doesn't have, and which wrote no unit of
-- these marks
pub record IsApart
    (unit : Mark → ConflictUnit) (txn : ℕ) (marks : List Mark) (files : List FileRow) (r : Row)
    : Type 0 where
  pub other : (r.txn == txn) ≡ false
  pub none : HasNone r.txn files
  pub free : share_unit (map unit marks) (map unit r.marks) ≡ false
