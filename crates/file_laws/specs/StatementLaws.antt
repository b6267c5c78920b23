-- What a further statement makes of a transaction's items.
use Rattle.std.specs.Prelude.{◌≡◌, ℕ, ◌==◌, true, false, List, [], ◌∷◌, ◌++◌, map, filter}
use Rattle.std.specs.List.{AllByRecursion, flat_map}
use Rattle.lake_values.specs.declared.names.Name.{Name}
use Rattle.sql_model.specs.declared.changes.Change.{Change}
use Rattle.sql_model.specs.declared.changes.Mark.{Mark}
use Rattle.sql_model.specs.Changes.{added_to, changed_table, is_nil, is_own, own, pend}
use Rattle.sql_model.specs.Changes.{removed_from}
use Rattle.sql_model.specs.Units.{marks_of}
use Rattle.sql_model.specs.Listing.{SameBag}
use Rattle.sql_model.specs.Versions.{Table}
use Rattle.manifest_block.specs.declared.items.Item.{Item}
use Rattle.manifest_block.specs.declared.items.Item.TheVariants.{Add}
use Rattle.table_snapshot.specs.declared.files.FileRow.{FileRow}
use Rattle.table_snapshot.specs.Files.{new_file, replay}
use Rattle.file_laws.specs.Contents.{Contents, mark_of, marked_live}
use Rattle.file_laws.specs.Marking.{HasVector, HaveOwnNames, Removal, mark_items}
use Rattle.file_laws.specs.Pends.{HaveOwnParts}
use Rattle.file_laws.specs.Standing.{IsSeenBy, files_marked}
use Rattle.file_laws.specs.Touching.{AddsOwn, is_marked, is_name_of, is_there}

-- a file that a statement writes
pub record Written : Type 0 where
  pub cell : ℕ
  pub name : Name
  pub rows : ℕ

-- the item that adds it as a part of a transaction
abbrev pub add_item : List ℕ → ℕ → Written → Item
add_item table part w = Add table w.cell part w.name w.rows

-- the file, while it isn't committed
abbrev pub file_of : ℕ → Written → FileRow
file_of part w = new_file 0 w.cell part w.name w.rows

-- The files that a statement writes are the transaction's, hold rows, and have names and marks that
-- none of its files has.
abbrev pub AreNew : Contents → List ℕ → ℕ → ℕ → List Written → List FileRow → List Mark → Type 0
AreNew c table txn part [] files worn = Unit {0}
AreNew c table txn part (w ∷ ws) files worn =
    (is_name_of txn w.name ≡ true) × (is_nil (c.rows w.name) ≡ false)
    × (is_there w.name files ≡ false)
    × (files_marked table (mark_of table (file_of part w)) files ≡ 0)
    × (is_marked worn (mark_of table (file_of part w)) ≡ false)
    × AreNew c table txn part ws (replay 0 (add_item table part w ∷ []) files) worn

-- What a statement removes of a table that the transaction sees and adds to it, and the files and
-- vectors that say so.
pub record IsStatement
    (c : Contents) (s : Table) (txn : ℕ) (files : List FileRow) (worn : List Mark)
    (before change : Change) (r : Removal) (part : ℕ) (ws : List Written) : Type 0 where
  pub removes :
      SameBag (removed_from s change.removed)
      (filter (λ m. r.matches m.row) (changed_table 0 before s).rows)
  pub adds :
      SameBag (flat_map (added_to s 0) change.added)
      (flat_map (λ w. marked_live c s.name (file_of part w)) ws)
  pub vectors : AllByRecursion (HasVector c r) files
  pub written :
      AreNew c s.name txn part ws (replay 0 (flat_map (mark_items c s.name r) files) files)
      (worn ++ marks_of (filter (λ m. r.matches m.row) (changed_table 0 before s).rows))

-- The items of the statement behind those of the transaction are what the transaction has changed
-- then.
abbrev pub SeenAfterStatement : Type 0
SeenAfterStatement =
    (c : Contents) (s : Table) (txn : ℕ) (files : List FileRow) (worn : List Mark)
    (items : List Item) (before change : Change) (own_worn : List Mark) (r : Removal) (part : ℕ)
    (ws : List Written)
    →
    let seen = replay 0 items files in
    IsSeenBy c s.name txn files s.rows worn items
    (removed_from s before.removed) (flat_map (added_to s 0) before.added) own_worn
    → AllByRecursion (λ m. is_own m ≡ false) s.rows
    → AllByRecursion (λ f. (f.seq == 0) ≡ false) files → HaveOwnParts before.added
    → HaveOwnNames files → HaveOwnNames seen → AddsOwn txn items
    → IsStatement c s txn seen (worn ++ marks_of (removed_from s before.removed) ++ own_worn) before
    change r part ws
    → IsSeenBy c s.name txn files s.rows worn
    (items ++ flat_map (mark_items c s.name r) seen ++ map (add_item s.name part) ws)
    (removed_from s (pend before change).removed)
    (flat_map (added_to s 0) (pend before change).added)
    (own_worn ++ marks_of (own (removed_from s change.removed)))
