-- What a lake core keeps, and that it stands for a chronicle.
use Rattle.std.specs.Prelude.{◌≡◌, ℕ, ◌==◌, ◌<◌, ◌≤◌, Bool, true, false, ◌&&◌, List, [], ◌∷◌, ◌++◌}
use Rattle.std.specs.Prelude.{Some, filter, map}
use Rattle.std.specs.declared.cmp.Ordering.TheVariants.{Less}
use Rattle.std.specs.List.{AllByRecursion, list_any}
use Rattle.lake_values.specs.declared.names.Name.{Name}
use Rattle.lake_model.specs.declared.entries.Fact.{Fact}
use Rattle.sql_model.specs.declared.changes.Mark.{Mark}
use Rattle.lake_model.specs.Allowed.{IsLegal}
use Rattle.sql_model.specs.Changes.{is_nil}
use Rattle.lake_values.specs.Names.{is_among, same_name}
use Rattle.lake_model.specs.State.{State, Noted, Transaction, last, state, transaction, version_at}
use Rattle.lake_model.specs.State.{view}
use Rattle.sql_model.specs.Units.{ConflictUnit, whole_table}
use Rattle.sql_model.specs.Versions.{marked_rows_of}
use Rattle.lake_values.specs.Texts.{same_text}
use Rattle.manifest_block.specs.declared.items.Item.{Item}
use Rattle.manifest_block.specs.declared.items.Item.TheVariants.{Add, Remove, SetVector}
use Rattle.table_snapshot.specs.declared.files.FileRow.{FileRow}
use Rattle.write_set_catalog.specs.Names.{NamesRow}
use Rattle.file_laws.specs.Catalogues.{Catalogue, table_has}
use Rattle.file_laws.specs.Collector.{Gains, StandsNames, names_at, open_of}
use Rattle.file_laws.specs.Commits.{HaveNames}
use Rattle.file_laws.specs.Contents.{Contents}
use Rattle.table_snapshot.specs.Files.{file_cmp, items_of, replay}
use Rattle.table_snapshot.specs.Files.{names_in, vector_names}
use Rattle.file_laws.specs.NameLaws.{NamesInTurn}
use Rattle.file_laws.specs.Pends.{HaveOwnParts}
use Rattle.file_laws.specs.Standing.{FilesStand}
use Rattle.file_laws.specs.Stands.{Checkpoint, Stands, files_at, files_from, rows_of}
use Rattle.file_laws.specs.StandsLaws.{ChecksStand, NumbersStand}
use Rattle.file_laws.specs.Touching.{Row, is_marked, is_name_of}

-- what a core keeps beside its chronicle: its blobs, the rows of all commits, the checkpoints, and
-- by session the items of the open transactions
pub record Book : Type 0 where
  pub contents : Contents
  pub rows : List Row
  pub checks : List Checkpoint
  pub items : ℕ → List Item

-- a blob of one of the transaction's parts, which is there
pub record IsOwnName (c : Contents) (number parts : ℕ) (name : Name) : Type 0 where
  pub own : is_name_of number name ≡ true
  pub up_to : name.part ≤ parts
  pub here : c.has name ≡ true

-- an item that a part of the transaction wrote
abbrev pub IsOwnItem : Contents → ℕ → ℕ → Item → Type 0
IsOwnItem c number parts (Add table cell part file rows) =
    IsOwnName c number parts file × (part ≤ parts)
IsOwnItem c number parts (Remove table file) = Unit {0}
IsOwnItem c number parts (SetVector table file vector removed) = IsOwnName c number parts vector

-- the item writes the blob
abbrev pub writes : Name → Item → Bool
writes name (Add table cell part file rows) = same_name name file
writes name (Remove table file) = false
writes name (SetVector table file vector removed) = same_name name vector

-- each blob is of one table
abbrev pub HaveOneTable : List Item → Type 0
HaveOneTable items =
    (name : Name) (one other : List ℕ) → list_any (writes name) (items_of one items) ≡ true
    → list_any (writes name) (items_of other items) ≡ true → one ≡ other

-- What an open transaction has is of its parts: each part added rows once, and none later than the
-- last.
pub record OwnsItems (c : Contents) (mine : List Item) (t : Transaction) : Type 0 where
  pub items : AllByRecursion (IsOwnItem c t.number t.parts) mine
  pub added : AllByRecursion (λ a. (a.part ≤ t.parts) × (is_nil a.rows ≡ false)) t.pending.added
  pub apart : HaveOwnParts t.pending.added
  pub worn : AllByRecursion (λ m. m.part ≤ t.parts) t.worn
  pub one_table : HaveOneTable mine

-- the unit of a row with this mark
abbrev pub unit_of : Mark → ConflictUnit
unit_of m = whole_table m.table

-- the blobs of a file and its vector are there
abbrev pub HasFile : Contents → FileRow → Type 0
HasFile c f = AllByRecursion (λ n. c.has n ≡ true) (f.file ∷ vector_names f.vector)

-- the same of some files
abbrev pub HasBlobs : Contents → List FileRow → Type 0
HasBlobs c files = AllByRecursion (HasFile c) files

-- a row as a collector sees it
abbrev pub shown_row : Row → NamesRow
shown_row r = record {
  seq = r.seq;
  table = r.table;
  manifest = r.manifest;
  added = r.added;
  dropped = r.dropped;
}

-- the book as a collector sees it
abbrev pub shown : Book → State → Catalogue
shown k st = record {
  rows = map shown_row k.rows;
  checks = map (λ c. c.check) k.checks;
  running = map open_of st.running;
  last_number = st.last_number;
  last = last st;
  floor = st.floor;
}

-- by the row its table gains the name
abbrev pub adds : Name → Row → Bool
adds name r = is_among name r.added

-- each row is of a later commit than those before it
abbrev pub AreLater : List Row → Type 0
AreLater [] = Unit {0}
AreLater (r ∷ rs) = AllByRecursion (λ s. r.seq < s.seq) rs × AreLater rs

-- A table has a row at most of a commit, which tells the names that it gained and lost by it. Names
-- are of the row's transaction and of one table, and by the rows each version from the floor on has
-- the names that it has.
pub record NamesAgree (k : Book) (st : State) : Type 0 where
  pub once : (table : List ℕ) → AreLater (rows_of table k.rows)
  pub turns : (table : List ℕ) → NamesInTurn [] (rows_of table k.rows)
  pub own :
      AllByRecursion (λ r. (name : Name) → adds name r ≡ true → is_name_of r.txn name ≡ true) k.rows
  pub one_table :
      (name : Name) (one other : List ℕ) → list_any (adds name) (rows_of one k.rows) ≡ true
      → list_any (adds name) (rows_of other k.rows) ≡ true → one ≡ other
  pub versions : HaveNames st (shown k st)

-- the marks of a table
abbrev pub marks_of_table : List ℕ → List Mark → List Mark
marks_of_table table marks = filter (λ m. same_text m.table table) marks

-- the row has the marks of its table that its commit struck
abbrev pub TellsMarks : State → Row → Type 0
TellsMarks st r = r.marks ≡ marks_of_table r.table (version_at st r.seq).struck

-- a row of this commit is of the table
abbrev pub has_row_at : List Row → ℕ → List ℕ → Bool
has_row_at rows n table = list_any (λ r. same_text r.table table && (r.seq == n)) rows

-- What the book says is what the state has.
pub record Agrees (k : Book) (st : State) : Type 0 where
  pub stands : Stands k.contents k.rows k.items st
  pub numbers : NumbersStand k.rows st
  pub given : AllByRecursion (λ r. r.txn ≤ st.last_number) k.rows
  pub open_items :
      (session : ℕ) (t : Transaction) → transaction st session ≡ Some t
      → OwnsItems k.contents (k.items session) t
  pub checks : ChecksStand k.rows k.checks
  pub checked : AllByRecursion (λ c. c.check.at ≤ last st) k.checks
  pub marks : AllByRecursion (TellsMarks st) k.rows
  pub struck :
      (n : ℕ) (m : Mark) → n ≤ last st → is_marked (version_at st n).struck m ≡ true
      → has_row_at k.rows n m.table ≡ true
  pub names : NamesAgree k st
  pub blobs :
      (version : ℕ) (table : List ℕ) → st.floor ≤ version → version ≤ last st
      → HasBlobs k.contents (files_at k.rows version table)

-- The chronicle is legal, and the book says what it leads to, and which checkpoints it noted.
pub record IsKept (k : Book) (entries : List Noted) : Type 0 where
  pub legal : IsLegal true entries
  pub agrees : Agrees k (state entries)
  pub noted : map (λ c. c.check) k.checks ≡ (state entries).checks

-- an entry of this fact may come next
pub record IsNext (entries : List Noted) (e : Noted) (f : Fact) : Type 0 where
  pub legal : IsLegal true (entries ++ e ∷ [])
  pub fact : e.entry.fact ≡ f

-- The book after the entry is kept, and as a collector sees it it gained what the entry may give.
pub record Follows (k k' : Book) (entries : List Noted) (e : Noted) : Type 0 where
  pub kept : IsKept k' (entries ++ e ∷ [])
  pub gains :
      Gains (state entries) e.entry.fact (shown k (state entries))
      (shown k' (state (entries ++ e ∷ [])))

-- in the order of their names, each once
abbrev pub Ascend : List FileRow → Type 0
Ascend [] = Unit {0}
Ascend (f ∷ fs) = AllByRecursion (λ g. file_cmp f g ≡ Less) fs × Ascend fs

-- What a kept book tells of a version from the floor on: its files, from the newest checkpoint of
-- each table, have its rows, in the order of their names; these are the names that the table has by
-- the rows, and together they are the version's.
pub record TellsVersion (k : Book) (st : State) (version : ℕ) : Type 0 where
  pub rows :
      (table : List ℕ)
      → FilesStand k.contents table (files_from k.checks k.rows version table)
      (marked_rows_of table (version_at st version).tables) (version_at st version).worn
  pub ascend : (table : List ℕ) → Ascend (files_from k.checks k.rows version table)
  pub by_table :
      (table : List ℕ) (name : Name)
      → is_among name (names_in (files_from k.checks k.rows version table))
      ≡ table_has (shown k st) version table name
  pub together :
      (name : Name)
      → list_any (λ r. is_among name (names_in (files_from k.checks k.rows version r.table))) k.rows
      ≡ is_among name (names_at st version)

-- the files of its snapshot, with the items of an open transaction, stand for what it sees
abbrev pub TellsView : Book → State → ℕ → Transaction → Type 0
TellsView k st session t =
    (table : List ℕ) →
    let base = files_from k.checks k.rows t.snapshot table in
    let files = replay 0 (items_of table (k.items session)) base in
    let seen = view st session in
    FilesStand k.contents table files (marked_rows_of table seen.tables) seen.worn

-- what a kept book tells: its versions, what open transactions see, what a collector needs, and of
-- each commit what it struck
pub record Tells (k : Book) (entries : List Noted) : Type 0 where
  pub files :
      (version : ℕ) (table : List ℕ)
      → files_from k.checks k.rows version table ≡ files_at k.rows version table
  pub versions :
      (version : ℕ) → (state entries).floor ≤ version → version ≤ last (state entries)
      → TellsVersion k (state entries) version
  pub views :
      (session : ℕ) (t : Transaction) → transaction (state entries) session ≡ Some t
      → TellsView k (state entries) session t
  pub collector : StandsNames (state entries) (shown k (state entries))
  pub marks : AllByRecursion (TellsMarks (state entries)) k.rows
  pub struck :
      (n : ℕ) (m : Mark) → n ≤ last (state entries)
      → is_marked (version_at (state entries) n).struck m ≡ true
      → has_row_at k.rows n m.table ≡ true
