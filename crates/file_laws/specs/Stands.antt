-- That a catalogue stands for a chronicle's state.
use Rattle.std.specs.Prelude.{◌≡◌, ℕ, ◌<◌, ◌≤◌, ◌&&◌, ◌⊎◌, Bool, true, List, [], ◌∷◌, Option, None}
use Rattle.std.specs.Prelude.{Some, filter, length, nat_le, nat_lt, if◌then◌else◌}
use Rattle.std.specs.List.{AllByRecursion, flat_map}
use Rattle.std.specs.Option.{option_map, option_map_or}
use Rattle.lake_values.specs.Schemas.{TableColumns}
use Rattle.sql_model.specs.declared.changes.Added.{Added}
use Rattle.sql_model.specs.declared.changes.MarkedRow.{MarkedRow}
use Rattle.sql_model.specs.Changes.{added_to}
use Rattle.sql_model.specs.Units.{marks_of}
use Rattle.lake_model.specs.State.{State, Transaction, last, transaction, version_at, Check}
use Rattle.sql_model.specs.Versions.{Tables, Version, has_table, marked_rows_of, table_of}
use Rattle.lake_values.specs.Texts.{same_text}
use Rattle.manifest_block.specs.declared.items.Item.{Item}
use Rattle.table_snapshot.specs.declared.files.FileRow.{FileRow}
use Rattle.table_snapshot.specs.Files.{items_of}
use Rattle.file_laws.specs.Contents.{Contents}
use Rattle.file_laws.specs.Standing.{FilesStand, AreUpTo, IsSeenBy}
use Rattle.file_laws.specs.Touching.{Row, TouchInTurn, replay_rows}

-- the rows of a table
abbrev pub rows_of : List ℕ → List Row → List Row
rows_of table rows = filter (λ r. same_text r.table table) rows

-- those of commits up to this one, and those of later ones
abbrev pub rows_to : ℕ → List Row → List Row
rows_to version rows = filter (λ r. nat_le r.seq version) rows

abbrev pub rows_behind : ℕ → List Row → List Row
rows_behind version rows = filter (λ r. nat_lt version r.seq) rows

-- the files of a table at a version, replayed from nothing
abbrev pub files_at : List Row → ℕ → List ℕ → List FileRow
files_at rows version table = replay_rows (rows_to version (rows_of table rows)) []

-- a checkpoint, and the files that its bytes tell
pub record Checkpoint : Type 0 where
  pub check : Check
  pub files : List FileRow

-- a checkpoint of the table at or below the version
abbrev pub is_base : ℕ → List ℕ → Checkpoint → Bool
is_base version table k = same_text k.check.table table && nat_le k.check.at version

-- the newest checkpoint of the table at or below the version; of two at one version the later
abbrev pub newer : ℕ → List ℕ → Option Checkpoint → Checkpoint → Option Checkpoint
newer version table best k =
    let is_newer = option_map_or (λ b. nat_le b.check.at k.check.at) best true in
    if is_base version table k && is_newer then Some k else best

-- the newest of some checkpoints
abbrev pub newest_check : ℕ → List ℕ → Option Checkpoint → List Checkpoint → Option Checkpoint
newest_check version table best [] = best
newest_check version table best (k ∷ ks) =
    newest_check version table (newer version table best k) ks

-- the files of a table at a version: from its newest checkpoint on
abbrev pub files_from : List Checkpoint → List Row → ℕ → List ℕ → List FileRow
files_from checks rows version table =
    option_map_or
    (λ k. replay_rows (rows_behind k.check.at (rows_to version (rows_of table rows))) k.files)
    (newest_check version table None checks) (files_at rows version table)

-- the rows stand in the order of their commits
abbrev pub AreInOrder : List Row → Type 0
AreInOrder [] = Unit {0}
AreInOrder (r ∷ rs) = AllByRecursion (λ s. r.seq ≤ s.seq) rs × AreInOrder rs

-- the removed rows of a table, and what the parts add to it as this commit
abbrev pub removed_of : List ℕ → List MarkedRow → List MarkedRow
removed_of table removed = filter (λ m. same_text m.mark.table table) removed

abbrev pub added_of : List ℕ → Tables → ℕ → List Added → List MarkedRow
added_of table tables seq added =
    option_map_or (λ t. flat_map (added_to t seq) added) (table_of table tables) []

-- the files of the version stand for it
pub record VersionStands
    (c : Contents) (rows : List Row) (seq : ℕ) (version : Version) : Type 0 where
  pub each :
      (table : List ℕ)
      → FilesStand c table (files_at rows seq table) (marked_rows_of table version.tables)
      version.worn
  pub up_to : (table : List ℕ) → AreUpTo seq (files_at rows seq table) version.worn

-- the items of an open transaction are what it changed of its snapshot
pub record OpenStands
    (c : Contents) (rows : List Row) (st : State) (items : List Item) (t : Transaction)
    : Type 0 where
  pub known :
      AllByRecursion (λ a. has_table a.table (version_at st t.snapshot).tables ≡ true)
      t.pending.added
  pub snapshot : (st.floor ≤ t.snapshot) × (t.snapshot ≤ last st)
  pub each :
      (table : List ℕ)
      → IsSeenBy c table t.number (files_at rows t.snapshot table)
      (marked_rows_of table (version_at st t.snapshot).tables) (version_at st t.snapshot).worn
      (items_of table items) (removed_of table t.pending.removed)
      (added_of table (version_at st t.snapshot).tables 0 t.pending.added) t.worn

-- the rows of a catalogue, and the items of the sessions' open transactions, stand for the state
pub record Stands
    (c : Contents) (rows : List Row) (items : ℕ → List Item) (st : State) : Type 0 where
  pub some : 0 < length st.versions
  pub order : AreInOrder rows
  pub within : AllByRecursion (λ r. r.seq ≤ last st) rows
  pub touching : (table : List ℕ) → TouchInTurn table [] (rows_of table rows)
  pub versions : (n : ℕ) → st.floor ≤ n → n ≤ last st → VersionStands c rows n (version_at st n)
  pub open_ones :
      (session : ℕ) (t : Transaction) → transaction st session ≡ Some t
      → OpenStands c rows st (items session) t

-- the schema of a table, if it is there
abbrev pub schema_of : List ℕ → Tables → Option (List ℕ × TableColumns)
schema_of table tables = option_map (λ t. (t.name, t.schema)) (table_of table tables)

-- each table of the one is a table of the other
abbrev pub KeepsTables : Tables → Tables → Type 0
KeepsTables old new =
    (table : List ℕ) → has_table table old ≡ true → schema_of table new ≡ schema_of table old

-- What a commit adds to the catalogue of a table: nothing where its manifest has no item of it,
-- else one row.
abbrev pub HasRow : ℕ → ℕ → List Item → List MarkedRow → List Row → List ℕ → Type 0
HasRow seq txn items removed more table =
    ((rows_of table more ≡ []) × (items_of table items ≡ []))
    ⊎ ((r : Row) × (rows_of table more ≡ r ∷ []) × (r.seq ≡ seq) × (r.txn ≡ txn) × (r.table ≡ table)
    × (r.items ≡ items) × (r.marks ≡ marks_of (removed_of table removed)))

-- the rows of a commit, by the transaction's items
pub record AreRowsOf
    (seq txn : ℕ) (items : List Item) (removed : List MarkedRow) (more : List Row) : Type 0 where
  pub seqs : AllByRecursion (λ r. r.seq ≡ seq) more
  pub each : (table : List ℕ) → HasRow seq txn items removed more table
