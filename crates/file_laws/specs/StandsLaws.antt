-- Which entries keep it that a catalogue stands for the state.
use Rattle.std.specs.Prelude.{map, nat_lt, ◌&&◌, ◌≡◌, ℕ, ◌+◌, ◌≤◌, Bool, true, false, ◌==◌, List}
use Rattle.std.specs.Prelude.{[], ◌++◌, Some, if◌then◌else◌}
use Rattle.std.specs.List.{AllByRecursion, list_any}
use Rattle.lake_values.specs.declared.names.Name.{Name}
use Rattle.sql_model.specs.declared.changes.Mark.{Mark}
use Rattle.sql_model.specs.Units.{marks_of, ConflictUnit, same_unit, share_unit}
use Rattle.lake_model.specs.State.{State, Transaction, after_began, after_commit, after_created}
use Rattle.lake_model.specs.State.{after_stop, ended, last, newest, transaction, version_at}
use Rattle.sql_model.specs.Versions.{Table}
use Rattle.manifest_block.specs.declared.items.Item.{Item}
use Rattle.file_laws.specs.Contents.{Contents}
use Rattle.file_laws.specs.Stands.{AreInOrder, AreRowsOf, Checkpoint, KeepsTables, Stands, files_at}
use Rattle.file_laws.specs.Stands.{files_from, removed_of, rows_behind, rows_of}
use Rattle.file_laws.specs.Touching.{AddsOwn, HasNone, Row, IsApart}

-- no commit after the transaction's snapshot wrote a unit that it writes, and none has its names
abbrev pub IsFree : (Mark → ConflictUnit) → List Row → Transaction → Type 0
IsFree unit rows t =
    (table : List ℕ)
    → AllByRecursion
    (IsApart unit t.number (marks_of (removed_of table t.pending.removed))
    (files_at rows t.snapshot table))
    (rows_behind t.snapshot (rows_of table rows))

-- Rows of one transaction are of one commit, no open transaction has a row, and a manifest adds
-- files of its transaction.
pub record NumbersStand (rows : List Row) (st : State) : Type 0 where
  pub apart :
      AllByRecursion (λ r. AllByRecursion (λ s. (r.txn == s.txn) ≡ true → r.seq ≡ s.seq) rows) rows
  pub open_ones :
      (session : ℕ) (t : Transaction) → transaction st session ≡ Some t
      → AllByRecursion (λ r. (r.txn == t.number) ≡ false) rows
  pub own_adds : AllByRecursion (λ r. AddsOwn r.txn r.items) rows

-- a commit behind the snapshot wrote a unit of these marks
abbrev pub conflicts : (Mark → ConflictUnit) → ℕ → List Mark → Row → Bool
conflicts unit snapshot marks r =
    nat_lt snapshot r.seq && share_unit (map unit marks) (map unit r.marks)

-- Where no row of the catalogue conflicts with what the transaction removed, nothing is in its way.
abbrev pub FreeIfNoConflict : Type 0
FreeIfNoConflict =
    (unit : Mark → ConflictUnit) (rows : List Row) (st : State) (session : ℕ) (t : Transaction)
    → NumbersStand rows st → transaction st session ≡ Some t
    → list_any (conflicts unit t.snapshot (marks_of t.pending.removed)) rows ≡ false
    → IsFree unit rows t

-- A commit that conflicts with none keeps the catalogue standing: it gains a row for each table of
-- which the transaction has items.
abbrev pub StandsCommitted : Type 0
StandsCommitted =
    (unit : Mark → ConflictUnit) → ((u : ConflictUnit) → same_unit u u ≡ true)
    → (c : Contents) (rows more : List Row) (items : ℕ → List Item) (st : State) (session : ℕ)
    (t : Transaction) (dropped added : List Name)
    → Stands c rows items st → transaction st session ≡ Some t → IsFree unit rows t
    → KeepsTables (version_at st t.snapshot).tables (newest st).tables
    → AreRowsOf (last st + 1) t.number (items session) t.pending.removed more
    → Stands c (rows ++ more) items (after_commit session dropped added st)

-- Where each checkpoint has the files of its version, the files from the newest one on are those
-- from nothing.
abbrev pub ChecksGiveFiles : Type 0
ChecksGiveFiles =
    (rows : List Row) (checks : List Checkpoint) → AreInOrder rows
    → AllByRecursion (λ k. k.files ≡ files_at rows k.check.at k.check.table) checks
    → (version : ℕ) (table : List ℕ)
    → files_from checks rows version table ≡ files_at rows version table

-- A new table has no row and no file.
abbrev pub StandsCreated : Type 0
StandsCreated =
    (c : Contents) (rows : List Row) (items : ℕ → List Item) (st : State) (t : Table)
    → Stands c rows items st → st.floor ≤ last st → t.rows ≡ []
    → Stands c rows items (after_created t st)

-- the items of one session anew
abbrev pub with_items : ℕ → List Item → (ℕ → List Item) → ℕ → List Item
with_items session new items other = if other == session then new else items other

-- A transaction begins without items, with a number that no file has.
abbrev pub StandsBegan : Type 0
StandsBegan =
    (c : Contents) (rows : List Row) (items : ℕ → List Item) (st : State) (session : ℕ)
    (explicit : Bool) (number : ℕ) → Stands c rows items st → st.floor ≤ last st
    → ((table : List ℕ) → HasNone number (files_at rows (last st) table))
    → Stands c rows (with_items session [] items) (after_began session explicit number (last st) st)

-- An end and a stop leave what the catalogue stands for.
abbrev pub StandsEnded : Type 0
StandsEnded =
    (c : Contents) (rows : List Row) (items : ℕ → List Item) (st : State) (session : ℕ)
    → Stands c rows items st → Stands c rows items (ended session st)

abbrev pub StandsStopped : Type 0
StandsStopped =
    (c : Contents) (rows : List Row) (items : ℕ → List Item) (st : State) (session : ℕ)
    (ends : Bool) → Stands c rows items st → Stands c rows items (after_stop session ends st)

-- So does a floor that rises up to the snapshots of the open transactions.
abbrev pub StandsCollected : Type 0
StandsCollected =
    (c : Contents) (rows : List Row) (items : ℕ → List Item) (st : State) (floor : ℕ)
    → Stands c rows items st → st.floor ≤ floor
    → ((session : ℕ) (t : Transaction) → transaction st session ≡ Some t → floor ≤ t.snapshot)
    → Stands c rows items (record st { floor = floor })

-- each checkpoint has the files of its version
abbrev pub ChecksStand : List Row → List Checkpoint → Type 0
ChecksStand rows checks =
    AllByRecursion (λ k. k.files ≡ files_at rows k.check.at k.check.table) checks

-- Later commits leave what checkpoints have.
abbrev pub ChecksStay : Type 0
ChecksStay =
    (rows more : List Row) (checks : List Checkpoint) (last : ℕ)
    → AllByRecursion (λ k. k.check.at ≤ last) checks → AllByRecursion (λ r. r.seq ≡ last + 1) more
    → ChecksStand rows checks → ChecksStand (rows ++ more) checks

-- open transactions have different numbers
abbrev pub HaveOwnNumbers : State → Type 0
HaveOwnNumbers st =
    (one other : ℕ) (t u : Transaction) → transaction st one ≡ Some t
    → transaction st other ≡ Some u → (t.number == u.number) ≡ true → one ≡ other

-- A commit keeps it that the numbers stand.
abbrev pub NumbersCommitted : Type 0
NumbersCommitted =
    (rows more : List Row) (items : List Item) (st : State) (session : ℕ) (t : Transaction)
    → NumbersStand rows st → transaction st session ≡ Some t → HaveOwnNumbers st
    → AddsOwn t.number items
    → AllByRecursion (λ r. (r.seq ≡ last st + 1) × (r.txn ≡ t.number) × (r.items ≡ items)) more
    → NumbersStand (rows ++ more) (ended session st)
