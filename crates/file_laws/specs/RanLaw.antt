-- A statement that ran keeps it that the catalogue stands.
use Rattle.std.specs.Prelude.{◌≡◌, ℕ, ◌+◌, true, false, List, [], ◌++◌, Some, map}
use Rattle.std.specs.List.{AllByRecursion, flat_map}
use Rattle.sql_model.specs.declared.changes.Change.{Change}
use Rattle.sql_model.specs.declared.replies.Reply.{Reply}
use Rattle.sql_model.specs.Units.{marks_of}
use Rattle.sql_model.specs.Changes.{removed_from}
use Rattle.lake_model.specs.State.{State, Transaction, after_ran, transaction, version_at}
use Rattle.sql_model.specs.Versions.{Table, table_of}
use Rattle.lake_values.specs.Texts.{same_text}
use Rattle.manifest_block.specs.declared.items.Item.{Item}
use Rattle.table_snapshot.specs.declared.files.FileRow.{FileRow}
use Rattle.file_laws.specs.Contents.{Contents}
use Rattle.table_snapshot.specs.Files.{items_of, replay}
use Rattle.file_laws.specs.Marking.{Removal, mark_items}
use Rattle.file_laws.specs.Pends.{HaveOwnParts}
use Rattle.file_laws.specs.Stands.{Stands, files_at}
use Rattle.file_laws.specs.StandsLaws.{with_items}
use Rattle.file_laws.specs.StatementLaws.{IsStatement, Written, add_item}
use Rattle.file_laws.specs.Touching.{AddsOwn, Row}

-- the files of a table that the transaction sees
abbrev pub files_seen : List Row → List Item → Transaction → List ℕ → List FileRow
files_seen rows items t table = replay 0 (items_of table items) (files_at rows t.snapshot table)

-- A write of one table, with the items that say it. The table is one of the snapshot's.
pub record IsWrite
    (c : Contents) (rows : List Row) (items more : List Item) (st : State) (t : Transaction)
    (s : Table) (change : Change) (r : Removal) (ws : List Written) : Type 0 where
  pub table : table_of s.name (version_at st t.snapshot).tables ≡ Some s
  pub removed : AllByRecursion (λ m. same_text m.mark.table s.name ≡ true) change.removed
  pub added : AllByRecursion (λ a. a.table ≡ s.name) change.added
  pub statement :
      IsStatement c s t.number (files_seen rows items t s.name)
      ((version_at st t.snapshot).worn ++ marks_of (removed_from s t.pending.removed) ++ t.worn)
      t.pending change r (t.parts + 1) ws
  pub own_items :
      items_of s.name more
      ≡ flat_map (mark_items c s.name r) (files_seen rows items t s.name)
      ++ map (add_item s.name (t.parts + 1)) ws
  pub other_items : (table : List ℕ) → same_text table s.name ≡ false → items_of table more ≡ []

-- With the items of a write behind its session's the catalogue stands after the write.
abbrev pub StandsRan : Type 0
StandsRan =
    (c : Contents) (rows : List Row) (items : ℕ → List Item) (more : List Item) (st : State)
    (session : ℕ) (t : Transaction) (s : Table) (reply : Reply) (change : Change) (r : Removal)
    (ws : List Written) → Stands c rows items st → transaction st session ≡ Some t
    → HaveOwnParts t.pending.added → AddsOwn t.number (items session)
    → IsWrite c rows (items session) more st t s change r ws
    → Stands c rows (with_items session (items session ++ more) items)
    (after_ran session reply change st)
