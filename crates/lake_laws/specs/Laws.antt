-- Each kind of entry keeps it that a catalogue stands for a chronicle: one law a kind, and what it
-- asks of who appends the entry.
use Rattle.std.specs.Prelude.{◌≡◌, ℕ, ◌+◌, Bool, true, false, List, [], ◌∷◌, ◌++◌, Some, None}
use Rattle.std.specs.Prelude.{IsTrue, is_some}
use Rattle.std.specs.List.{flat_map}
use Rattle.lake_values.specs.Schemas.{TableColumns}
use Rattle.lake_values.specs.declared.names.Name.{Name}
use Rattle.lake_values.specs.declared.values.Value.{Value}
use Rattle.lake_values.specs.Names.{is_ascending}
use Rattle.lake_outside.specs.Ports.{ToldBlob}
use Rattle.sql_model.specs.declared.changes.Change.{Change}
use Rattle.sql_model.specs.declared.changes.Mark.{Mark}
use Rattle.sql_model.specs.declared.replies.Reply.{Reply}
use Rattle.sql_model.specs.declared.replies.Reply.TheVariants.{Rows}
use Rattle.sql_model.specs.Changes.{is_unchanged}
use Rattle.sql_model.specs.Units.{marks_of, units_of, units_of_marks}
use Rattle.sql_model.specs.Versions.{Table}
use Rattle.lake_model.specs.declared.entries.Fact.{Fact}
use Rattle.lake_model.specs.declared.entries.Fact.TheVariants.{Created, Began, Ran, Committed}
use Rattle.lake_model.specs.declared.entries.Fact.TheVariants.{Conflict, Ended, RolledBack, Refused}
use Rattle.lake_model.specs.declared.entries.Fact.TheVariants.{Failed, Compacted, Checkpointed}
use Rattle.lake_model.specs.declared.entries.Fact.TheVariants.{Collected}
use Rattle.lake_model.specs.Allowed.{IsAllowedFact, IsLegal}
use Rattle.lake_model.specs.Conflicts.{first_conflict}
use Rattle.lake_model.specs.State.{Transaction, parts_of, transaction}
use Rattle.write_set_catalog.specs.Catalogs.{Catalogue, ToldCommit, empty, with_commit}
use Rattle.write_set_catalog.specs.Catalogs.{with_running}
use Rattle.write_set_catalog.specs.Catalogs.{with_table, without_running}
use Rattle.write_set_catalog.specs.Conflicts.{HasNoConflict, IsFirstConflict}
use Rattle.file_laws.specs.KeptLaws.{AsksOfWrite, write_items}
use Rattle.file_laws.specs.Marking.{Removal}
use Rattle.file_laws.specs.Noting.{AreNewRows, IsPartWritten}
use Rattle.file_laws.specs.RanLaw.{files_seen}
use Rattle.file_laws.specs.StatementLaws.{Written as WrittenFile}
use Rattle.op_write.specs.Staging.{Written}
use Rattle.lake_laws.specs.Books.{book, contents_told, rows_of_commit}
use Rattle.lake_laws.specs.Chronicles.{Beside, chronicle, items_written, own_items, state_of}
use Rattle.lake_laws.specs.Standing.{IsStanding, SpellsItems}

-- an entry may come next: the chronicle with it is legal, as far as is told
pub record ComesNext (told : Bool) (entries : List Beside) (b : Beside) (f : Fact) : Type 0 where
  pub fact : b.noted.entry.fact ≡ f
  pub allowed : IsAllowedFact told (state_of entries) b.noted.entry.session f

-- the chronicle with the entry
abbrev pub after_entry : List Beside → Beside → List Beside
after_entry entries b = entries ++ b ∷ []

-- A legal chronicle with an entry that is allowed is legal.
abbrev pub LegalMore : Type 0
LegalMore =
    (told : Bool) (entries : List Beside) (b : Beside) (f : Fact) → IsLegal told (chronicle entries)
    → ComesNext told entries b f → IsLegal told (chronicle (after_entry entries b))

-- A lake without entries stands.
abbrev pub StandsEmpty : Type 0
StandsEmpty = (told : Bool) → IsStanding told empty []

-- A new table is the next version's.
abbrev pub StandsCreated : Type 0
StandsCreated =
    (told : Bool) (c : Catalogue) (entries : List Beside) (b : Beside) (table : List ℕ)
    (schema : TableColumns) (seq : ℕ) → IsStanding told c entries
    → ComesNext told entries b (Created table schema seq)
    → IsStanding told
    (with_table (record { name = table; schema = schema; since = c.last + 1 }) c)
    (after_entry entries b)

-- A transaction begins.
abbrev pub StandsBegan : Type 0
StandsBegan =
    (told : Bool) (c : Catalogue) (entries : List Beside) (b : Beside) (explicit : Bool)
    (txn snapshot : ℕ) → IsStanding told c entries
    → ComesNext told entries b (Began explicit txn snapshot)
    → IsStanding told (with_running (record { number = txn; snapshot = snapshot }) c)
    (after_entry entries b)

-- an end, a conflict, a refusal or a failure
abbrev pub stops : Fact → Bool
stops (Created table schema seq) = false
stops (Began explicit txn snapshot) = false
stops (Ran reply change) = false
stops (Committed seq added dropped) = false
stops (Conflict seq) = true
stops Ended = true
stops RolledBack = true
stops (Refused cause) = true
stops (Failed cause) = true
stops (Compacted table cells marks seq added dropped) = false
stops (Checkpointed table at name) = false
stops (Collected names floor) = false

-- Where the session has a transaction behind it as before, the catalogue stays.
abbrev pub StandsStopped : Type 0
StandsStopped =
    (told : Bool) (c : Catalogue) (entries : List Beside) (b : Beside) (f : Fact)
    → IsStanding told c entries → ComesNext told entries b f → stops f ≡ true
    → is_some (transaction (state_of (after_entry entries b)) b.noted.entry.session)
    ≡ is_some (transaction (state_of entries) b.noted.entry.session)
    → IsStanding told c (after_entry entries b)

-- Where its transaction ended, it is no longer open.
abbrev pub StandsEnded : Type 0
StandsEnded =
    (told : Bool) (c : Catalogue) (entries : List Beside) (b : Beside) (f : Fact) (t : Transaction)
    → IsStanding told c entries → ComesNext told entries b f → stops f ≡ true
    → transaction (state_of entries) b.noted.entry.session ≡ Some t
    → is_some (transaction (state_of (after_entry entries b)) b.noted.entry.session) ≡ false
    → IsStanding told (without_running t.number c) (after_entry entries b)

-- A query leaves the catalogue.
abbrev pub StandsRead : Type 0
StandsRead =
    (told : Bool) (c : Catalogue) (entries : List Beside) (b : Beside) (rows : List (List Value))
    (change : Change) → IsStanding told c entries
    → ComesNext told entries b (Ran (Rows rows) change) → b.wrote ≡ []
    → IsStanding told c (after_entry entries b)

-- the catalogue with further blobs
abbrev pub with_blobs : List ToldBlob → Catalogue → Catalogue
with_blobs more c = record c { blobs = c.blobs ++ more }

-- the blobs that tasks wrote
abbrev pub blobs_written : List Written → List ToldBlob
blobs_written wrote = flat_map (λ w. w.blobs) wrote

-- What tasks wrote says the change of a write, where the port tells: it is of a table, removes the
-- rows that match, and adds those of some files.
pub record WriteTells
    (c : Catalogue) (entries : List Beside) (session : ℕ) (t : Transaction) (reply : Reply)
    (change : Change) (wrote : List Written) : Type 0 where
  pub table : Table
  pub removal : Removal
  pub files : List WrittenFile
  pub asks :
      AsksOfWrite (book (with_blobs (blobs_written wrote) c) entries) (state_of entries) session t
      reply change table removal files
  pub items :
      items_written wrote
      ≡ write_items (contents_told (c.blobs ++ blobs_written wrote)) table.name
      (files_seen (flat_map rows_of_commit c.commits) (own_items entries session) t table.name)
      removal (t.parts + 1) files

-- A write gives the catalogue the blobs that its tasks wrote.
abbrev pub StandsWrote : Type 0
StandsWrote =
    (told : Bool) (c : Catalogue) (entries : List Beside) (b : Beside) (t : Transaction)
    (reply : Reply) (change : Change) → IsStanding told c entries
    → ComesNext told entries b (Ran reply change)
    → transaction (state_of entries) b.noted.entry.session ≡ Some t → parts_of reply ≡ 1
    → IsPartWritten t.number (t.parts + 1) (items_written b.wrote)
    → (IsTrue told → WriteTells c entries b.noted.entry.session t reply change b.wrote)
    → IsStanding told (with_blobs (blobs_written b.wrote) c) (after_entry entries b)

-- What the catalogue says of conflicts the chronicle says.
pub record ConflictsAgree (c : Catalogue) (entries : List Beside) (snapshot : ℕ) (marks : List Mark)
    : Type 0 where
  pub found :
      (seq : ℕ) → IsFirstConflict snapshot marks c.commits seq
      → first_conflict (state_of entries) snapshot (units_of_marks marks) ≡ Some seq
  pub none :
      HasNoConflict snapshot marks c.commits
      → first_conflict (state_of entries) snapshot (units_of_marks marks) ≡ None

abbrev pub StandsForConflicts : Type 0
StandsForConflicts =
    (told : Bool) (c : Catalogue) (entries : List Beside) (snapshot : ℕ) (marks : List Mark)
    → IsStanding told c entries → ConflictsAgree c entries snapshot marks

-- what is asked of a commit: its transaction changed something, no commit after the snapshot wrote
-- what it wrote, its rows are those of its items, and where the port tells, the manifest spells
-- these
pub record AsksOfCommit
    (told : Bool) (c : Catalogue) (entries : List Beside) (session : ℕ) (t : Transaction)
    (gained lost : List Name) (commit : ToldCommit) : Type 0 where
  pub opened : transaction (state_of entries) session ≡ Some t
  pub changed : is_unchanged t.pending ≡ false
  pub free : first_conflict (state_of entries) t.snapshot (units_of t.pending) ≡ None
  pub gained_order : is_ascending gained ≡ true
  pub lost_order : is_ascending lost ≡ true
  pub next : commit.seq ≡ c.last + 1
  pub rows :
      AreNewRows (book c entries) (state_of entries) t (own_items entries session)
      (marks_of t.pending.removed) gained lost (rows_of_commit commit)
  pub spelled : IsTrue told → SpellsItems commit

-- It is allowed.
abbrev pub CommitIsAllowed : Type 0
CommitIsAllowed =
    (told : Bool) (c : Catalogue) (entries : List Beside) (session : ℕ) (t : Transaction)
    (gained lost : List Name) (commit : ToldCommit) → IsStanding told c entries
    → AsksOfCommit told c entries session t gained lost commit
    → IsAllowedFact told (state_of entries) session (Committed commit.seq gained lost)

-- And it gives the catalogue the commit, and ends the transaction.
abbrev pub StandsCommitted : Type 0
StandsCommitted =
    (told : Bool) (c : Catalogue) (entries : List Beside) (b : Beside) (t : Transaction)
    (gained lost : List Name) (commit : ToldCommit) → IsStanding told c entries
    → b.noted.entry.fact ≡ Committed commit.seq gained lost
    → AsksOfCommit told c entries b.noted.entry.session t gained lost commit
    → IsStanding told (with_commit commit (without_running t.number c)) (after_entry entries b)
