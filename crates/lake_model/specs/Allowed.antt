-- Which entry may stand in a state, whatever statement it answers.
use Rattle.std.specs.Prelude.{◌≡◌, ◌≢◌, ℕ, ◌+◌, ◌==◌, ◌<◌, ◌≤◌, Bool, true, false, ◌&&◌, ◌||◌, not, nat_le, List, [], ◌∷◌, drop, map, Some, None, IsNone, IsSomeAnd, MatchBool}
use Rattle.std.specs.List.{AllByRecursion, list_all, list_any}
use Rattle.lake_values.specs.declared.names.Name.{Name}
use Rattle.lake_values.specs.Schemas.{AllDistinct}
use Rattle.sql_model.specs.declared.changes.Change.{Change}
use Rattle.lake_model.specs.declared.entries.Fact.{Fact}
use Rattle.lake_model.specs.declared.entries.Fact.TheVariants.{Created, Began, Ran, Committed, Conflict, Ended, RolledBack, Refused, Failed, Compacted, Checkpointed, Collected}
use Rattle.sql_model.specs.declared.changes.Mark.{Mark}
use Rattle.sql_model.specs.declared.replies.Refusal.{Refusal}
use Rattle.sql_model.specs.declared.replies.Refusal.TheVariants.{UnknownTable, UnknownColumn, Ambiguous, TypeMismatch, ColumnCount, NotGrouped, TableExists, NoTransaction, InTransaction, TooManyRows, Arith}
use Rattle.sql_model.specs.declared.replies.Reply.{Reply}
use Rattle.sql_model.specs.declared.replies.Reply.TheVariants as reply
use Rattle.sql_model.specs.Changes.{no_change, is_nil, is_unchanged}
use Rattle.sql_model.specs.Units.{units_of, units_of_marks}
use Rattle.lake_model.specs.Compactions.{due, marks_in}
use Rattle.lake_model.specs.Conflicts.{first_conflict}
use Rattle.sql_model.specs.Listing.{IsPartOf}
use Rattle.lake_model.specs.Names.{holds_rows, is_checkpoint}
use Rattle.lake_model.specs.Told.{WhereTold}
use Rattle.lake_values.specs.Names.{is_among, is_ascending}
use Rattle.sql_model.specs.Versions.{Tables, has_table, all_rows}
use Rattle.lake_model.specs.State.{State, Noted, Transaction, opening, last, newest, last_names, version_at, transaction, view, is_inside, after}

-- A statement that ran answers rows, and then it changes nothing, or says what it wrote, without the number of a
-- version, which its commit makes. No other reply is that of a statement that ran.
abbrev pub ChangesByReply : Reply → Change → Type 0
ChangesByReply (reply.Created table seq) change = ⊥
ChangesByReply (reply.Begun snapshot) change = ⊥
ChangesByReply (reply.Wrote verb count None) change = Unit {0}
ChangesByReply (reply.Wrote verb count (Some seq)) change = ⊥
ChangesByReply (reply.Rows rows) change = change ≡ no_change
ChangesByReply (reply.Committed seq) change = ⊥
ChangesByReply reply.Ended change = ⊥
ChangesByReply reply.RolledBack change = ⊥
ChangesByReply (reply.Conflict seq) change = ⊥
ChangesByReply (reply.Compacted cells seq) change = ⊥
ChangesByReply (reply.Checkpointed table at) change = ⊥
ChangesByReply (reply.Collected floor) change = ⊥
ChangesByReply (reply.Refused cause) change = ⊥
ChangesByReply (reply.Failed cause) change = ⊥

-- What a statement may answer and change in its session's transaction. It removes rows that the session sees, and adds
-- rows as the transaction's next part: for a table at most once, and then some.
pub record IsOwnChange
    (told : Bool) (seen : Tables) (said : Reply) (change : Change) (t : Transaction) : Type 0 where
  pub removes : WhereTold told (IsPartOf change.removed (all_rows seen))
  pub adds : AllByRecursion (λ a. a.part ≡ t.parts + 1) change.added
  pub once : AllDistinct (map (λ a. a.table) change.added)
  pub filled : AllByRecursion (λ a. is_nil a.rows ≡ false) change.added
  pub replies : ChangesByReply said change

-- a blob of the transaction that no version has yet
abbrev pub is_new_name : State → ℕ → Name → Bool
is_new_name st number name = holds_rows name && (name.txn == number) && not (list_any (is_among name) st.names)

-- a commit of this transaction may add these names, and both these and those that it drops ascend
abbrev pub can_rename : State → ℕ → List Name → List Name → Bool
can_rename st number added dropped =
    list_all (is_new_name st number) added && is_ascending added && is_ascending dropped

-- the last version has the names
abbrev pub has_names : State → List Name → Bool
has_names st names = list_all (λ n. is_among n (last_names st)) names

-- the transaction's change may become the next version
pub record MayCommit
    (told : Bool) (st : State) (seq : ℕ) (added dropped : List Name)
    (t : Transaction) : Type 0 where
  pub changed : is_unchanged t.pending ≡ false
  pub free : first_conflict st t.snapshot (units_of t.pending) ≡ None
  pub next : seq ≡ last st + 1
  pub renames : can_rename st t.number added dropped ≡ true
  pub drops : WhereTold told (has_names st dropped ≡ true)

-- what a transaction has changed conflicts with this commit; one without a change, as a compaction's, with any that
-- came after its snapshot
abbrev pub MayConflict : State → ℕ → Transaction → Type 0
MayConflict st seq t = MatchBool (is_unchanged t.pending) ((t.snapshot < seq) × (seq ≤ last st)) (first_conflict st t.snapshot (units_of t.pending) ≡ Some seq)

-- the transaction was opened for one statement, which changed nothing
abbrev pub is_single : Transaction → Bool
is_single t = not t.explicit && is_unchanged t.pending

-- The cells are those of the table that are due at the snapshot, and the marks those of their rows
-- there. No commit after the snapshot wrote a unit of these marks.
pub record MayCompact
    (told : Bool) (st : State) (table cells : List ℕ) (marks : List Mark) (seq : ℕ)
    (added dropped : List Name) (t : Transaction) : Type 0 where
  pub single : is_single t ≡ true
  pub all_due : WhereTold told (cells ≡ due table (version_at st t.snapshot))
  pub some : cells ≢ []
  pub all_marks : WhereTold told (marks ≡ marks_in table cells (version_at st t.snapshot).tables)
  pub free : first_conflict st t.snapshot (units_of_marks marks) ≡ None
  pub next : seq ≡ last st + 1
  pub renames : can_rename st t.number added dropped ≡ true
  pub drops : WhereTold told (has_names st dropped ≡ true)

abbrev pub MayCheckpoint : State → List ℕ → ℕ → Name → Transaction → Type 0
MayCheckpoint st table at name t =
    (t.explicit ≡ false) × (at ≡ t.snapshot) × (has_table table (version_at st at).tables ≡ true) × (is_checkpoint name && (name.txn == t.number) ≡ true)

-- the transaction is open, or its number hasn't been given yet
abbrev pub is_awaited : State → ℕ → Bool
is_awaited st number = not (nat_le number st.last_number) || list_any (λ o. o.1.number == number) st.running

-- a version from the floor on has the name, or its transaction is awaited
abbrev pub is_kept : State → ℕ → Name → Bool
is_kept st floor name = list_any (is_among name) (drop floor st.names) || is_awaited st name.txn

-- the floor doesn't fall, and no open transaction has a snapshot below it
abbrev pub MayCollect : State → List Name → ℕ → Type 0
MayCollect st names floor =
    (st.floor ≤ floor) × (floor ≤ last st) × AllByRecursion (λ o. floor ≤ o.1.snapshot) st.running
    × (is_ascending names ≡ true) × (list_any (is_kept st floor) names ≡ false)

-- a table that is there refuses a statement outside a transaction
abbrev pub IsTaken : State → ℕ → List ℕ → Type 0
IsTaken st session table = (has_table table (newest st).tables ≡ true) × IsNone (transaction st session)

-- Refusals for the session's transaction and for a table that is there are allowed where they hold. The others depend
-- on the statement alone.
abbrev pub IsAllowedRefusal : State → ℕ → Refusal → Type 0
IsAllowedRefusal st session (UnknownTable name) = Unit {0}
IsAllowedRefusal st session (UnknownColumn name) = Unit {0}
IsAllowedRefusal st session (Ambiguous name) = Unit {0}
IsAllowedRefusal st session TypeMismatch = Unit {0}
IsAllowedRefusal st session ColumnCount = Unit {0}
IsAllowedRefusal st session NotGrouped = Unit {0}
IsAllowedRefusal st session (TableExists table) = IsTaken st session table
IsAllowedRefusal st session NoTransaction = IsNone (transaction st session)
IsAllowedRefusal st session InTransaction = is_inside st session ≡ true
IsAllowedRefusal st session TooManyRows = Unit {0}
IsAllowedRefusal st session Arith = Unit {0}

abbrev pub IsAllowedFact : Bool → State → ℕ → Fact → Type 0
IsAllowedFact told st session (Created table schema seq) =
    IsNone (transaction st session)
    × (has_table table (newest st).tables ≡ false) × (seq ≡ last st + 1)
IsAllowedFact told st session (Began explicit txn snapshot) =
    IsNone (transaction st session) × (txn ≡ st.last_number + 1) × (snapshot ≡ last st)
IsAllowedFact told st session (Ran reply change) =
    IsSomeAnd (transaction st session) (IsOwnChange told (view st session).tables reply change)
IsAllowedFact told st session (Committed seq added dropped) =
    IsSomeAnd (transaction st session) (MayCommit told st seq added dropped)
IsAllowedFact told st session (Conflict seq) =
    IsSomeAnd (transaction st session) (MayConflict st seq)
IsAllowedFact told st session Ended =
    IsSomeAnd (transaction st session) (λ t. is_unchanged t.pending ≡ true)
IsAllowedFact told st session RolledBack = is_inside st session ≡ true
IsAllowedFact told st session (Refused cause) = IsAllowedRefusal st session cause
IsAllowedFact told st session (Failed cause) = Unit {0}
IsAllowedFact told st session (Compacted table cells marks seq added dropped) =
    IsSomeAnd (transaction st session) (MayCompact told st table cells marks seq added dropped)
IsAllowedFact told st session (Checkpointed table at name) =
    IsSomeAnd (transaction st session) (MayCheckpoint st table at name)
IsAllowedFact told st session (Collected names floor) =
    IsNone (transaction st session) × MayCollect st names floor

abbrev pub IsAllowed : Bool → State → Noted → Type 0
IsAllowed told st e = IsAllowedFact told st e.entry.session e.entry.fact

abbrev pub IsLegalFrom : Bool → State → List Noted → Type 0
IsLegalFrom told st [] = Unit {0}
IsLegalFrom told st (e ∷ es) = IsAllowed told st e × IsLegalFrom told (after st e) es

-- each entry is allowed in the state of the entries before it
abbrev pub IsLegal : Bool → List Noted → Type 0
IsLegal told entries = IsLegalFrom told opening entries
