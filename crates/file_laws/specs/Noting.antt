-- What a book says of numbers, marks and names. None of it rests on bytes, so it stands over ports
-- that tell nothing too.
use Rattle.std.specs.Prelude.{◌≡◌, ℕ, ◌+◌, ◌==◌, ◌≤◌, Bool, true, false, List, [], ◌∷◌, ◌++◌, Some}
use Rattle.std.specs.Prelude.{IfSome, None, map, if◌then◌else◌}
use Rattle.std.specs.List.{AllByRecursion, flat_map, list_any}
use Rattle.lake_values.specs.declared.names.Name.{Name}
use Rattle.lake_values.specs.declared.values.Value.{Value}
use Rattle.lake_values.specs.Names.{is_among}
use Rattle.sql_model.specs.declared.changes.Change.{Change}
use Rattle.sql_model.specs.declared.changes.Mark.{Mark}
use Rattle.sql_model.specs.declared.replies.Reply.{Reply}
use Rattle.sql_model.specs.declared.replies.Reply.TheVariants.{Rows}
use Rattle.sql_model.specs.Listing.{weight}
use Rattle.sql_model.specs.Units.{marks_of}
use Rattle.lake_model.specs.declared.entries.Fact.{Fact}
use Rattle.lake_model.specs.declared.entries.Fact.TheVariants.{Began, Committed, Ran}
use Rattle.lake_model.specs.Allowed.{IsLegal}
use Rattle.lake_model.specs.Conflicts.{first_conflict}
use Rattle.lake_model.specs.Names.{holds_rows}
use Rattle.lake_model.specs.State.{State, Noted, Transaction, last, parts_of, state, transaction}
use Rattle.lake_model.specs.State.{version_at}
use Rattle.manifest_block.specs.declared.items.Item.{Item}
use Rattle.table_snapshot.specs.Files.{items_of, replay}
use Rattle.file_laws.specs.Commits.{HaveNames}
use Rattle.file_laws.specs.Contents.{Contents}
use Rattle.file_laws.specs.Kept.{Book, HaveOneTable, IsKept, TellsMarks, adds, has_row_at}
use Rattle.file_laws.specs.Kept.{marks_of_table, shown, unit_of, writes}
use Rattle.file_laws.specs.KeptLaws.{AreRows, HasOne, begun, empty_book, leaves_book, with_more}
use Rattle.file_laws.specs.KeptLaws.{with_rows}
use Rattle.file_laws.specs.NameLaws.{GainsAndLoses}
use Rattle.file_laws.specs.Stands.{files_at, rows_of}
use Rattle.file_laws.specs.Touching.{Row, is_marked, is_name_of}

-- how many of the items write the name
abbrev pub times_written : Name → List Item → ℕ
times_written name items = weight (λ i. if writes name i then 1 else 0) items

-- What an open transaction wrote with so many parts: names of its own files and vectors, each once
-- and of one table.
pub record AreWritten (number parts : ℕ) (items : List Item) : Type 0 where
  pub own :
      (name : Name) → list_any (writes name) items ≡ true
      → (is_name_of number name ≡ true) × (name.part ≤ parts)
  pub kinds : (name : Name) → list_any (writes name) items ≡ true → holds_rows name ≡ true
  pub one_table : HaveOneTable items
  pub once : (name : Name) → times_written name items ≤ 1

-- the items of the rows' commits
abbrev pub items_of_all : List Row → List Item
items_of_all rows = flat_map (λ r. r.items) rows

-- those of a table, row by row
abbrev pub table_items : List Row → List Item
table_items rows = flat_map (λ r. items_of r.table r.items) rows

-- Rows are of commits up to the last, of transactions that have ended, and one transaction has one
-- commit. What items write has the number of their transaction, each name once and in one table.
-- A row adds what its items write, and has the marks that its commit struck. By the rows each
-- version from the floor on has the names that it has.
pub record NotesAgree (k : Book) (st : State) : Type 0 where
  pub within : AllByRecursion (λ r. r.seq ≤ last st) k.rows
  pub given : AllByRecursion (λ r. r.txn ≤ st.last_number) k.rows
  pub ended :
      (session : ℕ) (t : Transaction) → transaction st session ≡ Some t
      → AllByRecursion (λ r. (r.txn == t.number) ≡ false) k.rows
  pub own :
      AllByRecursion
      (λ r. (name : Name) → list_any (writes name) r.items ≡ true → is_name_of r.txn name ≡ true)
      k.rows
  pub one_table : HaveOneTable (items_of_all k.rows)
  pub once :
      (table : List ℕ) (name : Name) → times_written name (table_items (rows_of table k.rows)) ≤ 1
  pub adds :
      AllByRecursion
      (λ r.
      (name : Name) → adds name r ≡ true
      → list_any (writes name) (items_of r.table r.items) ≡ true)
      k.rows
  pub marks : AllByRecursion (TellsMarks st) k.rows
  pub struck :
      (n : ℕ) (m : Mark) → n ≤ last st → is_marked (version_at st n).struck m ≡ true
      → has_row_at k.rows n m.table ≡ true
  pub versions : HaveNames st (shown k st)
  pub open_items :
      (session : ℕ) (t : Transaction) → transaction st session ≡ Some t
      → AreWritten t.number t.parts (k.items session)
  pub checked : AllByRecursion (λ c. c.check.at ≤ last st) k.checks

-- The chronicle is legal as far as is told, and the book says what it leads to.
pub record IsNoted (told : Bool) (k : Book) (entries : List Noted) : Type 0 where
  pub legal : IsLegal told entries
  pub agrees : NotesAgree k (state entries)
  pub noted : map (λ c. c.check) k.checks ≡ (state entries).checks

-- an entry of this fact may come next
pub record ComesNext (told : Bool) (entries : List Noted) (e : Noted) (f : Fact) : Type 0 where
  pub legal : IsLegal told (entries ++ e ∷ [])
  pub fact : e.entry.fact ≡ f

-- One law for each kind of entry.

-- At first nothing is noted.
abbrev pub NotedEmpty : Type 0
NotedEmpty = (told : Bool) (c : Contents) → IsNoted told (empty_book c) []

-- A new table, an end, a conflict, a refusal and a failure leave the book.
abbrev pub NotedAsItIs : Type 0
NotedAsItIs =
    (told : Bool) (k : Book) (entries : List Noted) (e : Noted) (f : Fact) → IsNoted told k entries
    → leaves_book f ≡ true → ComesNext told entries e f → IsNoted told k (entries ++ e ∷ [])

-- A transaction begins without items.
abbrev pub NotedBegan : Type 0
NotedBegan =
    (told : Bool) (k : Book) (entries : List Noted) (e : Noted) (explicit : Bool)
    (txn snapshot : ℕ) → IsNoted told k entries
    → ComesNext told entries e (Began explicit txn snapshot)
    → IsNoted told (begun k e.entry.session) (entries ++ e ∷ [])

-- A query writes nothing.
abbrev pub NotedQuery : Type 0
NotedQuery =
    (told : Bool) (k : Book) (entries : List Noted) (e : Noted) (rows : List (List Value))
    (change : Change) → IsNoted told k entries → ComesNext told entries e (Ran (Rows rows) change)
    → IsNoted told k (entries ++ e ∷ [])

-- what a statement wrote as this part: names of its files and vectors, each once and of one table
pub record IsPartWritten (number part : ℕ) (items : List Item) : Type 0 where
  pub own :
      (name : Name) → list_any (writes name) items ≡ true
      → (is_name_of number name ≡ true) × (name.part ≡ part)
  pub kinds : (name : Name) → list_any (writes name) items ≡ true → holds_rows name ≡ true
  pub one_table : HaveOneTable items
  pub once : (name : Name) → times_written name items ≤ 1

-- A write gives its transaction items.
abbrev pub NotedWrite : Type 0
NotedWrite =
    (told : Bool) (k : Book) (entries : List Noted) (e : Noted) (t : Transaction) (reply : Reply)
    (change : Change) (more : List Item) → IsNoted told k entries
    → ComesNext told entries e (Ran reply change)
    → transaction (state entries) e.entry.session ≡ Some t → parts_of reply ≡ 1
    → IsPartWritten t.number (t.parts + 1) more
    → IsNoted told (with_more k e.entry.session more) (entries ++ e ∷ [])

-- The row is of the next commit, of this transaction, and its manifest has these items. It has
-- those of these marks that are its table's, and the names that the items change of the table's
-- files at the snapshot.
pub record IsNewRow
    (k : Book) (st : State) (t : Transaction) (mine : List Item) (struck : List Mark) (r : Row)
    : Type 0 where
  pub seq : r.seq ≡ last st + 1
  pub txn : r.txn ≡ t.number
  pub items : r.items ≡ mine
  pub manifest : IfSome r.manifest (λ m. m.txn ≡ t.number)
  pub marks : r.marks ≡ marks_of_table r.table struck
  pub names :
      GainsAndLoses (files_at k.rows t.snapshot r.table)
      (replay 0 (items_of r.table r.items) (files_at k.rows t.snapshot r.table)) r

-- the rows of a commit: one for each table of which it has items or strikes marks; together their
-- names are those that it adds and drops
pub record AreNewRows
    (k : Book) (st : State) (t : Transaction) (mine : List Item) (struck : List Mark)
    (gained lost : List Name) (more : List Row) : Type 0 where
  pub rows : AllByRecursion (IsNewRow k st t mine struck) more
  pub each : (table : List ℕ) → HasOne mine more table
  pub struck_rows :
      (m : Mark) → is_marked struck m ≡ true → has_row_at more (last st + 1) m.table ≡ true
  pub added : (name : Name) → list_any (λ r. is_among name r.added) more ≡ is_among name gained
  pub dropped : (name : Name) → list_any (λ r. is_among name r.dropped) more ≡ is_among name lost

-- With the rows of a commit the book is noted.
abbrev pub NotedCommit : Type 0
NotedCommit =
    (told : Bool) (k : Book) (entries : List Noted) (e : Noted) (t : Transaction) (seq : ℕ)
    (gained lost : List Name) (more : List Row) → IsNoted told k entries
    → ComesNext told entries e (Committed seq gained lost)
    → transaction (state entries) e.entry.session ≡ Some t
    → AreNewRows k (state entries) t (k.items e.entry.session) (marks_of t.pending.removed) gained
    lost more → IsNoted told (with_rows k more) (entries ++ e ∷ [])

-- What a transaction's items change of the names of its snapshot they change of those of the last
-- version, where no commit after the snapshot wrote what it wrote: so a commit's rows can be made
-- before its turn comes.
abbrev pub RowsAtLast : Type 0
RowsAtLast =
    (k : Book) (entries : List Noted) (session : ℕ) (t : Transaction) (gained lost : List Name)
    (more : List Row) → IsKept k entries → NotesAgree k (state entries)
    → transaction (state entries) session ≡ Some t
    → first_conflict (state entries) t.snapshot (map unit_of (marks_of t.pending.removed)) ≡ None
    → AreNewRows k (state entries) t (k.items session) (marks_of t.pending.removed) gained lost more
    → AreRows k (state entries) t.number (k.items session) (marks_of t.pending.removed) gained lost
    more
