-- Which entries keep a book right: one law for each kind, and what each asks of who appends it.
use Rattle.std.specs.Prelude.{◌≡◌, ◌⊎◌, ℕ, ◌+◌, ◌==◌, Bool, true, false, not, List, [], ◌∷◌, ◌++◌}
use Rattle.std.specs.Prelude.{Some, map, filter, IfSome}
use Rattle.std.specs.List.{AllByRecursion, flat_map, list_any}
use Rattle.lake_values.specs.declared.names.Name.{Name}
use Rattle.lake_values.specs.declared.values.Value.{Value}
use Rattle.sql_model.specs.declared.changes.Change.{Change}
use Rattle.lake_model.specs.declared.entries.Fact.{Fact}
use Rattle.lake_model.specs.declared.entries.Fact.TheVariants.{Created, Began, Ran, Committed}
use Rattle.lake_model.specs.declared.entries.Fact.TheVariants.{Conflict, Ended, RolledBack, Refused}
use Rattle.lake_model.specs.declared.entries.Fact.TheVariants.{Failed, Compacted, Checkpointed}
use Rattle.lake_model.specs.declared.entries.Fact.TheVariants.{Collected}
use Rattle.sql_model.specs.declared.changes.Mark.{Mark}
use Rattle.sql_model.specs.declared.replies.Reply.{Reply}
use Rattle.sql_model.specs.declared.replies.Reply.TheVariants.{Rows}
use Rattle.sql_model.specs.Changes.{added_to, changed_table, is_nil, removed_from}
use Rattle.sql_model.specs.Units.{marks_of}
use Rattle.sql_model.specs.Listing.{SameBag}
use Rattle.lake_values.specs.Names.{is_among, same_name}
use Rattle.lake_model.specs.State.{State, Noted, Transaction, last, parts_of, state, transaction}
use Rattle.lake_model.specs.State.{version_at}
use Rattle.sql_model.specs.Versions.{Table, table_of}
use Rattle.lake_values.specs.Texts.{same_text}
use Rattle.manifest_block.specs.declared.items.Item.{Item}
use Rattle.manifest_block.specs.declared.items.Item.TheVariants.{Add, Remove, SetVector}
use Rattle.table_snapshot.specs.declared.files.FileRow.{FileRow}
use Rattle.file_laws.specs.BlobLaws.{contents_of}
use Rattle.lake_outside.specs.Ports.{ToldBlob}
use Rattle.file_laws.specs.Compacting.{IsCellMerge, Merge, items_of_merges}
use Rattle.file_laws.specs.Contents.{Contents, marked_live}
use Rattle.table_snapshot.specs.Files.{items_of, replay}
use Rattle.file_laws.specs.Kept.{Book, Follows, IsKept, IsNext, Tells, marks_of_table}
use Rattle.file_laws.specs.Marking.{HasVector, Removal, mark_items}
use Rattle.file_laws.specs.NameLaws.{GainsAndLoses}
use Rattle.file_laws.specs.Pends.{HaveOwnParts}
use Rattle.file_laws.specs.RanLaw.{files_seen}
use Rattle.file_laws.specs.Stands.{Checkpoint, files_at, files_from, rows_of}
use Rattle.file_laws.specs.StandsLaws.{with_items}
use Rattle.file_laws.specs.StatementLaws.{Written, add_item, file_of}
use Rattle.file_laws.specs.Touching.{Row, is_name_of}
use Rattle.lake_model.specs.Allowed.{has_names}

-- Entries that change nothing in the book.

-- a new table, an end, a conflict, a refusal and a failure leave the book
abbrev pub leaves_book : Fact → Bool
leaves_book (Created table schema seq) = true
leaves_book (Began explicit txn snapshot) = false
leaves_book (Ran reply change) = false
leaves_book (Committed seq added dropped) = false
leaves_book (Conflict seq) = true
leaves_book Ended = true
leaves_book RolledBack = true
leaves_book (Refused cause) = true
leaves_book (Failed cause) = true
leaves_book (Compacted table cells marks seq added dropped) = false
leaves_book (Checkpointed table at name) = false
leaves_book (Collected names floor) = false

-- The book stays as it is.
abbrev pub KeptAsItIs : Type 0
KeptAsItIs =
    (k : Book) (entries : List Noted) (e : Noted) (f : Fact) → IsKept k entries
    → leaves_book f ≡ true → IsNext entries e f → Follows k k entries e

-- A transaction begins without items.

-- the book whose session has no items
abbrev pub begun : Book → ℕ → Book
begun k session = record k { items = with_items session [] k.items }

-- The book of a session that has begun is kept.
abbrev pub KeptBegan : Type 0
KeptBegan =
    (k : Book) (entries : List Noted) (e : Noted) (explicit : Bool) (txn snapshot : ℕ)
    → IsKept k entries → IsNext entries e (Began explicit txn snapshot)
    → Follows k (begun k e.entry.session) entries e

-- A query ran: nothing is written.

-- The book stays as it is.
abbrev pub KeptQuery : Type 0
KeptQuery =
    (k : Book) (entries : List Noted) (e : Noted) (rows : List (List Value)) (change : Change)
    → IsKept k entries → IsNext entries e (Ran (Rows rows) change) → Follows k k entries e

-- A write ran: it gives its session's transaction items.

-- the items of a write of one table: of each file that the transaction sees what the rows that
-- match leave of it, and the files of the rows that it adds
abbrev pub write_items : Contents → List ℕ → List FileRow → Removal → ℕ → List Written → List Item
write_items c table seen r part ws =
    flat_map (mark_items c table r) seen ++ map (add_item table part) ws

-- two files of other cells and names
abbrev pub AreOther : Written → Written → Type 0
AreOther w x = ((w.cell == x.cell) ≡ false) × (same_name w.name x.name ≡ false)

-- any two of the files are of other cells and names
abbrev pub AllOther : List Written → Type 0
AllOther [] = Unit {0}
AllOther (w ∷ ws) = AllByRecursion (AreOther w) ws × AllOther ws

-- a blob of this part, which is there
pub record IsPartName (c : Contents) (number part : ℕ) (name : Name) : Type 0 where
  pub own : is_name_of number name ≡ true
  pub of_part : name.part ≡ part
  pub here : c.has name ≡ true

-- the item's blob is of this part
abbrev pub IsPartItem : Contents → ℕ → ℕ → Item → Type 0
IsPartItem c number part (Add table cell p file rows) = IsPartName c number part file × (p ≡ part)
IsPartItem c number part (Remove table file) = Unit {0}
IsPartItem c number part (SetVector table file vector removed) = IsPartName c number part vector

-- What is asked of a write of table `s` that removes the rows that match `r` and writes the files
-- `ws`: its change is what the blobs say, and the blobs are those of its part.
pub record AsksOfWrite
    (k : Book) (st : State) (session : ℕ) (t : Transaction) (reply : Reply) (change : Change)
    (s : Table) (r : Removal) (ws : List Written) : Type 0 where
  pub opened : transaction st session ≡ Some t
  pub table : table_of s.name (version_at st t.snapshot).tables ≡ Some s
  pub counted : parts_of reply ≡ 1
  pub removed : AllByRecursion (λ m. same_text m.mark.table s.name ≡ true) change.removed
  pub added :
      AllByRecursion (λ a. (a.table ≡ s.name) × (a.part ≡ t.parts + 1) × (is_nil a.rows ≡ false))
      change.added
  pub one_part : HaveOwnParts change.added
  pub removes :
      SameBag (removed_from s change.removed)
      (filter (λ m. r.matches m.row) (changed_table 0 t.pending s).rows)
  pub adds :
      SameBag (flat_map (added_to s 0) change.added)
      (flat_map (λ w. marked_live k.contents s.name (file_of (t.parts + 1) w)) ws)
  pub vectors :
      AllByRecursion (HasVector k.contents r) (files_seen k.rows (k.items session) t s.name)
  pub written : AllByRecursion (λ w. is_nil (k.contents.rows w.name) ≡ false) ws
  pub other : AllOther ws
  pub blobs :
      AllByRecursion (IsPartItem k.contents t.number (t.parts + 1))
      (write_items k.contents s.name (files_seen k.rows (k.items session) t s.name) r (t.parts + 1)
      ws)

-- the book with these items behind those of the session
abbrev pub with_more : Book → ℕ → List Item → Book
with_more k session more = record k { items = with_items session (k.items session ++ more) k.items }

-- With the items of the write the book is kept.
abbrev pub KeptWrite : Type 0
KeptWrite =
    (k : Book) (entries : List Noted) (e : Noted) (t : Transaction) (reply : Reply)
    (change : Change) (s : Table) (r : Removal) (ws : List Written) → IsKept k entries
    → IsNext entries e (Ran reply change)
    → AsksOfWrite k (state entries) e.entry.session t reply change s r ws
    → Follows k
    (with_more k e.entry.session
    (write_items k.contents s.name (files_seen k.rows (k.items e.entry.session) t s.name) r
    (t.parts + 1) ws))
    entries e

-- A commit: the book gains a row for each table of which the transaction has items.

-- The row is of the next commit, of this transaction, and its manifest has these items. It has
-- those of these marks that are its table's, and the names that the table gains and loses.
pub record IsRowOf
    (k : Book) (st : State) (number : ℕ) (mine : List Item) (struck : List Mark) (r : Row)
    : Type 0 where
  pub seq : r.seq ≡ last st + 1
  pub txn : r.txn ≡ number
  pub items : r.items ≡ mine
  pub manifest : IfSome r.manifest (λ m. m.txn ≡ number)
  pub marks : r.marks ≡ marks_of_table r.table struck
  pub names :
      GainsAndLoses (files_at k.rows (last st) r.table)
      (replay r.seq (items_of r.table r.items) (files_at k.rows (last st) r.table)) r

-- the rows have a row of the table where the items have one of it, and no second one
abbrev pub HasOne : List Item → List Row → List ℕ → Type 0
HasOne items more table =
    ((rows_of table more ≡ []) × (items_of table items ≡ []))
    ⊎ ((r : Row) × (rows_of table more ≡ r ∷ []))

-- the rows of a commit; together their names are those that it adds and drops
pub record AreRows
    (k : Book) (st : State) (number : ℕ) (mine : List Item) (struck : List Mark)
    (gained lost : List Name) (more : List Row) : Type 0 where
  pub rows : AllByRecursion (IsRowOf k st number mine struck) more
  pub each : (table : List ℕ) → HasOne mine more table
  pub added : (name : Name) → list_any (λ r. is_among name r.added) more ≡ is_among name gained
  pub dropped : (name : Name) → list_any (λ r. is_among name r.dropped) more ≡ is_among name lost

-- What is asked of a commit: its rows are of the transaction's own items.
pub record AsksOfCommit
    (k : Book) (st : State) (session : ℕ) (t : Transaction) (gained lost : List Name)
    (more : List Row) : Type 0 where
  pub opened : transaction st session ≡ Some t
  pub rows : AreRows k st t.number (k.items session) (marks_of t.pending.removed) gained lost more

-- the book with further rows
abbrev pub with_rows : Book → List Row → Book
with_rows k more = record k { rows = k.rows ++ more }

-- With the rows of the commit the book is kept.
abbrev pub KeptCommit : Type 0
KeptCommit =
    (k : Book) (entries : List Noted) (e : Noted) (t : Transaction) (seq : ℕ)
    (added dropped : List Name) (more : List Row) → IsKept k entries
    → IsNext entries e (Committed seq added dropped)
    → AsksOfCommit k (state entries) e.entry.session t added dropped more
    → Follows k (with_rows k more) entries e

-- A compaction: the book gains the rows of a commit whose manifest merges cells of a table.

-- What is asked of a compaction: its merges are those of the cells, of the files at its snapshot.
pub record AsksOfCompact
    (k : Book) (st : State) (session : ℕ) (t : Transaction) (table cells : List ℕ)
    (marks : List Mark) (ms : List Merge) (gained lost : List Name) (more : List Row) : Type 0 where
  pub opened : transaction st session ≡ Some t
  pub rows : AreRows k st t.number (items_of_merges table ms) marks gained lost more
  pub due : map (λ m. m.new.cell) ms ≡ cells
  pub other : AllOther (map (λ m. m.new) ms)
  pub merges :
      AllByRecursion (IsCellMerge k.contents t.number (files_at k.rows t.snapshot table)) ms

-- With the rows of the compaction the book is kept.
abbrev pub KeptCompacted : Type 0
KeptCompacted =
    (k : Book) (entries : List Noted) (e : Noted) (t : Transaction) (table cells : List ℕ)
    (marks : List Mark) (seq : ℕ) (gained lost : List Name) (ms : List Merge) (more : List Row)
    → IsKept k entries → IsNext entries e (Compacted table cells marks seq gained lost)
    → AsksOfCompact k (state entries) e.entry.session t table cells marks ms gained lost more
    → Follows k (with_rows k more) entries e

-- Before a commit or a compaction: what its rows drop, the last version has.
abbrev pub KeptDrops : Type 0
KeptDrops =
    (k : Book) (entries : List Noted) (number : ℕ) (mine : List Item) (struck : List Mark)
    (gained lost : List Name) (more : List Row) → IsKept k entries
    → AreRows k (state entries) number mine struck gained lost more
    → has_names (state entries) lost ≡ true

-- A checkpoint: the book gains it.

-- What is asked of a checkpoint: it has the files of its table at its version, and the number that
-- was given last.
pub record AsksOfCheck (k : Book) (st : State) (c : Checkpoint) : Type 0 where
  pub begun : c.check.begun ≡ st.last_number
  pub files : c.files ≡ files_from k.checks k.rows c.check.at c.check.table

-- the book with a further checkpoint
abbrev pub with_checkpoint : Book → Checkpoint → Book
with_checkpoint k c = record k { checks = k.checks ++ c ∷ [] }

-- With the checkpoint the book is kept.
abbrev pub KeptCheck : Type 0
KeptCheck =
    (k : Book) (entries : List Noted) (e : Noted) (c : Checkpoint) → IsKept k entries
    → IsNext entries e (Checkpointed c.check.table c.check.at c.check.name)
    → AsksOfCheck k (state entries) c
    → Follows k (with_checkpoint k c) entries e

-- Further blobs. They come before the entry whose items name them.

-- the blob of the name holds the same
abbrev pub SameAt : Contents → Contents → Name → Type 0
SameAt c c' name = (c'.rows name ≡ c.rows name) × (c'.gone name ≡ c.gone name)

-- what was there is there still
abbrev pub HasMore : Contents → Contents → Type 0
HasMore c c' = (name : Name) → c.has name ≡ true → (c'.has name ≡ true) × SameAt c c' name

-- Over contents that have more the book is kept.
abbrev pub KeptOverBlobs : Type 0
KeptOverBlobs =
    (k : Book) (entries : List Noted) (c : Contents) → IsKept k entries → HasMore k.contents c
    → IsKept (record k { contents = c }) entries

-- A collection: the blobs that it gives up may go.

-- what was there and isn't given up is there still
abbrev pub HasAllBut : List Name → Contents → Contents → Type 0
HasAllBut names c c' =
    (name : Name) → c.has name ≡ true → is_among name names ≡ false
    → (c'.has name ≡ true) × SameAt c c' name

-- Over contents that have all but what is given up the book is kept.
abbrev pub KeptCollected : Type 0
KeptCollected =
    (k : Book) (entries : List Noted) (e : Noted) (names : List Name) (floor : ℕ) (c : Contents)
    → IsKept k entries → IsNext entries e (Collected names floor) → HasAllBut names k.contents c
    → Follows k (record k { contents = c }) entries e

-- What a kept book tells.

-- A kept book tells its versions, its views and what a collector needs.
abbrev pub KeptTells : Type 0
KeptTells = (k : Book) (entries : List Noted) → IsKept k entries → Tells k entries

-- At first nothing is kept.

-- the book over these contents, in which nothing is noted
abbrev pub empty_book : Contents → Book
empty_book c = record { contents = c; rows = []; checks = []; items = λ session. [] }

-- It is kept for the chronicle without an entry.
abbrev pub KeptEmpty : Type 0
KeptEmpty = (c : Contents) → IsKept (empty_book c) []

-- What blobs hold: more blobs hold more, and without the blobs that are given up they hold all but
-- these.

-- the blobs but those of these names
abbrev pub without_blobs : List Name → List ToldBlob → List ToldBlob
without_blobs names blobs = filter (λ b. not (is_among b.name names)) blobs

-- more blobs have more, and without some names they have all but these
pub record BlobsHold
    (read_rows : List ℕ → List (List Value)) (read_gone : List ℕ → List ℕ) (blobs : List ToldBlob)
    : Type 0 where
  pub more :
      (new : List ToldBlob)
      → HasMore (contents_of read_rows read_gone blobs)
      (contents_of read_rows read_gone (blobs ++ new))
  pub less :
      (names : List Name)
      → HasAllBut names (contents_of read_rows read_gone blobs)
      (contents_of read_rows read_gone (without_blobs names blobs))

-- Whatever reads the blobs, this holds.
abbrev pub BlobsAreHeld : Type 0
BlobsAreHeld =
    (read_rows : List ℕ → List (List Value)) (read_gone : List ℕ → List ℕ) (blobs : List ToldBlob)
    → BlobsHold read_rows read_gone blobs
