-- Laws of the definitions: what holds of every legal chronicle.
use Rattle.std.specs.Prelude.{◌≡◌, ◌≢◌, ℕ, ◌==◌, ◌<◌, ◌≤◌, Bool, true, false, List, [], ◌∷◌, Option, None, Some, IfSome, IsSomeAnd, length, map}
use Rattle.std.specs.List.{AllByRecursion, list_all}
use Rattle.std.specs.Option.{option_map}
use Rattle.lake_values.specs.Schemas.{AllDistinct, TableColumns}
use Rattle.lake_model.specs.declared.entries.Fact.{Fact}
use Rattle.lake_model.specs.declared.entries.Fact.TheVariants as fact
use Rattle.sql_model.specs.declared.changes.Change.{Change}
use Rattle.sql_model.specs.declared.replies.Reply.{Reply}
use Rattle.sql_model.specs.declared.scripts.Numbered.{Numbered}
use Rattle.sql_model.specs.declared.scripts.Step.{Step}
use Rattle.sql_model.specs.declared.scripts.Step.TheVariants.{One, Parallel}
use Rattle.sql_model.specs.Changes.{is_unchanged}
use Rattle.sql_model.specs.Versions.{Tables, table_of, wrote}
use Rattle.lake_model.specs.State.{State, Noted, Transaction, opening, last, parts_of, version_at, transaction, view, after, state, stated}
use Rattle.lake_model.specs.Allowed.{IsAllowedFact, IsLegal}
use Rattle.lake_model.specs.Conflicts.{wrote_one}
use Rattle.lake_model.specs.Following.{Follows, statements, is_failed}
use Rattle.lake_model.specs.Text.{text}

-- the entry leaves the session's transaction as it was, and what the session sees
pub record LeavesAlone (st : State) (e : Noted) (session : ℕ) : Type 0 where
  pub transaction : transaction (after st e) session ≡ transaction st session
  pub view : view (after st e) session ≡ view st session

-- no session sees what another does, be it allowed or not
abbrev pub ViewsStay : Type 0
ViewsStay =
    (entries : List Noted) (e : Noted) (session : ℕ) → IsLegal true entries
    → e.entry.session ≢ session → LeavesAlone (state entries) e session

-- the schema of the table of this name, if it is there
abbrev pub schema_in : List ℕ → Tables → Option TableColumns
schema_in name tables = option_map (λ t. t.schema) (table_of name tables)

-- a table stays in each later version, with its schema
abbrev pub TablesStay : State → Type 0
TablesStay st =
    (m n : ℕ) (name : List ℕ) (schema : TableColumns) → m ≤ n → n ≤ last st
    → schema_in name (version_at st m).tables ≡ Some schema → schema_in name (version_at st n).tables ≡ Some schema

-- What legality alone says of a state. There is a version, and names of blobs for each; the floor is one of them. Of the
-- open transactions no two have one session or one number, each number was given, and each snapshot is a version from
-- the floor on. Tables stay.
pub record IsSound (st : State) : Type 0 where
  pub some_version : 0 < length st.versions
  pub counted : length st.names ≡ length st.versions
  pub floor : st.floor ≤ last st
  pub sessions : AllDistinct (map (λ o. o.0) st.running)
  pub numbers : AllDistinct (map (λ o. o.1.number) st.running)
  pub given : AllByRecursion (λ o. o.1.number ≤ st.last_number) st.running
  pub made : AllByRecursion (λ o. o.1.snapshot ≤ last st) st.running
  pub kept : AllByRecursion (λ o. st.floor ≤ o.1.snapshot) st.running
  pub tables : TablesStay st

-- every legal chronicle leads to such a state
abbrev pub StatesAreSound : Type 0
StatesAreSound = (entries : List Noted) → IsLegal true entries → IsSound (state entries)

-- The names of blobs that versions have are of transactions that have ended: their numbers were given, and no open
-- transaction has one of them.
pub record NamesAreOfEnded (st : State) : Type 0 where
  pub given : AllByRecursion (λ ns. AllByRecursion (λ n. n.txn ≤ st.last_number) ns) st.names
  pub ended :
      AllByRecursion
      (λ o. AllByRecursion (λ ns. AllByRecursion (λ n. (n.txn == o.1.number) ≡ false) ns) st.names)
      st.running

-- so it is in every legal chronicle, whatever is told
abbrev pub NamesHaveEnded : Type 0
NamesHaveEnded =
    (told : Bool) (entries : List Noted) → IsLegal told entries → NamesAreOfEnded (state entries)

-- A statement that ran and changed something counts as a part of its transaction.
abbrev pub ChangesAreParts : Type 0
ChangesAreParts =
    (st : State) (session : ℕ) (said : Reply) (change : Change)
    → IsAllowedFact true st session (fact.Ran said change)
    → is_unchanged change ≡ false → parts_of said ≡ 1

-- the number of the commit that an entry makes of its session's transaction
abbrev pub commit_of : Fact → Option ℕ
commit_of (fact.Created table schema seq) = None
commit_of (fact.Began explicit txn snapshot) = None
commit_of (fact.Ran reply change) = None
commit_of (fact.Committed seq added dropped) = Some seq
commit_of (fact.Conflict seq) = None
commit_of fact.Ended = None
commit_of fact.RolledBack = None
commit_of (fact.Refused cause) = None
commit_of (fact.Failed cause) = None
commit_of (fact.Compacted table cells marks seq added dropped) = Some seq
commit_of (fact.Checkpointed table at name) = None
commit_of (fact.Collected names floor) = None

-- the transaction saw each commit before n that wrote a unit which n wrote
abbrev pub SawEarlier : State → ℕ → Transaction → Type 0
SawEarlier st n t =
    (m : ℕ) → m < n → wrote_one st (wrote (version_at st n)) m ≡ true → m ≤ t.snapshot

-- if the entry is a commit, its transaction saw the earlier ones that wrote what it wrote
abbrev pub CommitsFirst : State → State × Noted → Type 0
CommitsFirst st p = IfSome (commit_of p.1.entry.fact) (λ n. IsSomeAnd (transaction p.0 p.1.entry.session) (SawEarlier st n))

-- Of two commits that wrote one unit, the later one's transaction began after the earlier: concurrent transactions that
-- write one unit never both commit.
abbrev pub FirstCommitterWins : Type 0
FirstCommitterWins =
    (entries : List Noted) → IsLegal true entries
    → AllByRecursion (CommitsFirst (state entries)) (stated opening entries)

abbrev pub is_one : Step → Bool
is_one (One n) = true
is_one (Parallel group) = false

-- each place is below those behind it
abbrev pub HaveAscendingPlaces : List Numbered → Type 0
HaveAscendingPlaces [] = Unit {0}
HaveAscendingPlaces (n ∷ ns) = AllByRecursion (λ m. n.place < m.place) ns × HaveAscendingPlaces ns

-- the script is statements one after another, at ascending places
pub record IsSerial (x : List Step) : Type 0 where
  pub single : list_all is_one x ≡ true
  pub places : HaveAscendingPlaces (statements x)

-- a legal chronicle that follows the script, and in which nothing failed
pub record IsSuccess (x : List Step) (entries : List Noted) : Type 0 where
  pub legal : IsLegal true entries
  pub follows : Follows true entries x
  pub unfailed : AllByRecursion (λ e. is_failed e.entry.fact ≡ false) entries

-- What is printed for a script without blocks follows from the script, where nothing fails.
abbrev pub OneText : Type 0
OneText = (x : List Step) (entries entries' : List Noted) → IsSerial x → IsSuccess x entries → IsSuccess x entries' → text entries x ≡ text entries' x
