-- Which entry answers a statement rightly in a state.
use Rattle.std.specs.Prelude.{◌≡◌, ◌≢◌, ℕ, ◌-◌, Bool, true, false, not, ◌&&◌, ◌||◌, List, [], Option, None, Some, Ok, fold, min, max, IsSomeAnd, MatchBool}
use Rattle.std.specs.Option.{option_map_or}
use Rattle.lake_values.specs.Schemas.{TableColumns}
use Rattle.lake_values.specs.declared.values.Value.{Value}
use Rattle.sql_model.specs.declared.changes.Change.{Change}
use Rattle.lake_model.specs.declared.entries.Fact.{Fact}
use Rattle.lake_model.specs.declared.entries.Fact.TheVariants.{Created, Began, Ran, Committed, Conflict, Ended, RolledBack, Refused, Failed, Compacted, Checkpointed, Collected}
use Rattle.sql_model.specs.declared.replies.Failure.{Failure}
use Rattle.sql_model.specs.declared.replies.Failure.TheVariants.{StoreFault}
use Rattle.sql_model.specs.declared.replies.Refusal.{Refusal}
use Rattle.sql_model.specs.declared.replies.Refusal.TheVariants.{UnknownTable, UnknownColumn, Ambiguous, TypeMismatch, ColumnCount, NotGrouped, TableExists, NoTransaction, InTransaction, TooManyRows, Arith}
use Rattle.sql_model.specs.declared.replies.Reply.{Reply}
use Rattle.sql_model.specs.declared.replies.Reply.TheVariants.{Rows}
use Rattle.sql_model.specs.declared.replies.Verb.{Verb}
use Rattle.sql_model.specs.declared.replies.Verb.TheVariants.{Inserted, Updated, Deleted}
use Rattle.sql_model.specs.declared.statements.Statement.{Statement}
use Rattle.sql_model.specs.declared.statements.Statement.TheVariants.{Create, Begin, Commit, RollBack, Insert, Select, Update, Delete, Compact, Checkpoint, Collect}
use Rattle.sql_model.specs.Changes.{is_unchanged}
use Rattle.lake_model.specs.Compactions.{due}
use Rattle.lake_model.specs.Conflicts.{first_conflict}
use Rattle.sql_model.specs.Units.{units_of_compaction}
use Rattle.sql_model.specs.Writing.{wrote}
use Rattle.lake_model.specs.State.{State, last, version_at, transaction}
use Rattle.lake_model.specs.Refusals.{binding_refusal, refusal, result_of}
use Rattle.lake_model.specs.Told.{WhereTold}
use Rattle.sql_model.specs.StatementKinds.{reads_rows, runs_alone, may_fail, is_write, is_commit, is_collect}
use Rattle.sql_model.specs.Creating.{schema_of}

-- it creates the table of this name, with this schema
abbrev pub IsCreateOf : Statement → List ℕ → TableColumns → Type 0
IsCreateOf (Create table columns distribution) name schema = (table ≡ name) × (schema ≡ schema_of columns distribution)
IsCreateOf Begin name schema = ⊥
IsCreateOf Commit name schema = ⊥
IsCreateOf RollBack name schema = ⊥
IsCreateOf (Insert table rows) name schema = ⊥
IsCreateOf (Select q) name schema = ⊥
IsCreateOf (Update table sets filter) name schema = ⊥
IsCreateOf (Delete table filter) name schema = ⊥
IsCreateOf (Compact table) name schema = ⊥
IsCreateOf (Checkpoint table) name schema = ⊥
IsCreateOf (Collect retain) name schema = ⊥

-- the reply says that so many rows were written
abbrev pub IsCountOf : Verb → Reply → Type 0
IsCountOf verb reply = (count : ℕ) × (reply ≡ wrote verb count)

-- the reply is of the statement's kind: rows, or how many it wrote
abbrev pub IsReplyTo : Statement → Reply → Type 0
IsReplyTo (Create table columns distribution) reply = ⊥
IsReplyTo Begin reply = ⊥
IsReplyTo Commit reply = ⊥
IsReplyTo RollBack reply = ⊥
IsReplyTo (Insert table rows) reply = IsCountOf Inserted reply
IsReplyTo (Select q) reply = (rows : List (List Value)) × (reply ≡ Rows rows)
IsReplyTo (Update table sets filter) reply = IsCountOf Updated reply
IsReplyTo (Delete table filter) reply = IsCountOf Deleted reply
IsReplyTo (Compact table) reply = ⊥
IsReplyTo (Checkpoint table) reply = ⊥
IsReplyTo (Collect retain) reply = ⊥

-- It answers and changes what it does over what its session sees. Where nothing is told of rows,
-- it is only known that it is bound over the tables there, and that its reply is of its kind.
abbrev pub IsRunOf : Bool → State → ℕ → Statement → Reply → Change → Type 0
IsRunOf told st session x reply change =
    (reads_rows x ≡ true)
    × MatchBool told
    (result_of st session x ≡ Ok (reply, change))
    ((binding_refusal st session x ≡ None) × IsReplyTo x reply)

-- a COMMIT commits, and a write that stands alone, after it ran
abbrev pub commits : Bool → Statement → Bool
commits ran x = is_commit x || (is_write x && ran)

abbrev pub HasChange : State → ℕ → Type 0
HasChange st session = IsSomeAnd (transaction st session) (λ t. is_unchanged t.pending ≡ false)

-- the cells of a table that are due at the session's snapshot
abbrev pub due_at_snapshot : State → ℕ → List ℕ → List ℕ
due_at_snapshot st session table = option_map_or (λ t. due table (version_at st t.snapshot)) (transaction st session) []

-- the first commit since the session's snapshot that wrote what a compaction of the table writes
abbrev pub compaction_conflict : State → ℕ → List ℕ → Option ℕ
compaction_conflict st session table =
    let units = units_of_compaction table in
    option_map_or (λ t. first_conflict st t.snapshot units) (transaction st session) None

-- a write that stands alone would commit: it ran, and changed something
abbrev pub WouldCommit : State → ℕ → Bool → Type 0
WouldCommit st session ran = (ran ≡ true) × HasChange st session

-- something is due in the table, and a commit after the session's snapshot wrote what its compaction would write
abbrev pub IsCompactionConflict : Bool → State → ℕ → List ℕ → ℕ → Type 0
IsCompactionConflict told st session table seq =
    (refusal st session (Compact table) ≡ None)
    × WhereTold told (due_at_snapshot st session table ≢ [])
    × (compaction_conflict st session table ≡ Some seq)

-- a COMMIT conflicts where there is a change, a write where it would commit, and a compaction as said
abbrev pub IsConflictOf : Bool → State → ℕ → Bool → Statement → ℕ → Type 0
IsConflictOf told st session ran (Create table columns distribution) seq = ⊥
IsConflictOf told st session ran Begin seq = ⊥
IsConflictOf told st session ran Commit seq = HasChange st session
IsConflictOf told st session ran RollBack seq = ⊥
IsConflictOf told st session ran (Insert table rows) seq = WouldCommit st session ran
IsConflictOf told st session ran (Select q) seq = ⊥
IsConflictOf told st session ran (Update table sets filter) seq = WouldCommit st session ran
IsConflictOf told st session ran (Delete table filter) seq = WouldCommit st session ran
IsConflictOf told st session ran (Compact table) seq =
    IsCompactionConflict told st session table seq
IsConflictOf told st session ran (Checkpoint table) seq = ⊥
IsConflictOf told st session ran (Collect retain) seq = ⊥

-- the compaction of the table isn't refused, and nothing is due
abbrev pub HasNothingDue : Bool → State → ℕ → List ℕ → Type 0
HasNothingDue told st session table =
    (refusal st session (Compact table) ≡ None)
    × WhereTold told (due_at_snapshot st session table ≡ [])

-- a COMMIT without a change ends, a statement that stands alone after it ran, and a compaction where nothing is due
abbrev pub IsEndOf : Bool → State → ℕ → Bool → Statement → Type 0
IsEndOf told st session ran (Create table columns distribution) = ⊥
IsEndOf told st session ran Begin = ⊥
IsEndOf told st session ran Commit = Unit {0}
IsEndOf told st session ran RollBack = ⊥
IsEndOf told st session ran (Insert table rows) = ran ≡ true
IsEndOf told st session ran (Select q) = ran ≡ true
IsEndOf told st session ran (Update table sets filter) = ran ≡ true
IsEndOf told st session ran (Delete table filter) = ran ≡ true
IsEndOf told st session ran (Compact table) = HasNothingDue told st session table
IsEndOf told st session ran (Checkpoint table) = ⊥
IsEndOf told st session ran (Collect retain) = ⊥

-- a refusal that comes behind a fault of the store, or none
abbrev pub may_come_late : Option Refusal → Bool
may_come_late None = true
may_come_late (Some (UnknownTable name)) = false
may_come_late (Some (UnknownColumn name)) = false
may_come_late (Some (Ambiguous name)) = false
may_come_late (Some TypeMismatch) = false
may_come_late (Some ColumnCount) = false
may_come_late (Some NotGrouped) = false
may_come_late (Some (TableExists name)) = false
may_come_late (Some NoTransaction) = false
may_come_late (Some InTransaction) = false
may_come_late (Some TooManyRows) = true
may_come_late (Some Arith) = true

-- A failure of the store, where no refusal stands before it. A commit fails only with a change. It fails for the
-- session's own calls, and so does COLLECT.
pub record IsFailureOf (st : State) (session : ℕ) (ran : Bool) (x : Statement) (cause : Failure) : Type 0 where
  pub fails : may_fail x ≡ true
  pub unrefused : may_come_late (refusal st session x) ≡ true
  pub change : MatchBool (is_commit x || ran) (HasChange st session) (Unit {0})
  pub own_calls : MatchBool (is_commit x || is_collect x || ran) (cause ≡ StoreFault 0) (Unit {0})

-- it compacts the table, and no commit after the session's snapshot wrote what that writes
abbrev pub IsCompactionOf : State → ℕ → Statement → List ℕ → Type 0
IsCompactionOf st session x table =
    (x ≡ Compact table) × (refusal st session x ≡ None)
    × (compaction_conflict st session table ≡ None)

abbrev pub IsCheckpointOf : State → ℕ → Statement → List ℕ → Type 0
IsCheckpointOf st session x table = (x ≡ Checkpoint table) × (refusal st session x ≡ None)

-- the least snapshot of the open transactions, and the last version without any
abbrev pub least_snapshot : State → ℕ
least_snapshot st = fold (λ n o. min n o.1.snapshot) (last st) st.running

-- so many versions before the last are kept, and what an open transaction sees; the floor doesn't fall
abbrev pub floor_after : State → ℕ → ℕ
floor_after st retain = max st.floor (min (last st - retain) (least_snapshot st))

-- it raises the floor so
abbrev pub IsCollectionOf : State → ℕ → Statement → ℕ → Type 0
IsCollectionOf st session (Create table columns distribution) floor = ⊥
IsCollectionOf st session Begin floor = ⊥
IsCollectionOf st session Commit floor = ⊥
IsCollectionOf st session RollBack floor = ⊥
IsCollectionOf st session (Insert table rows) floor = ⊥
IsCollectionOf st session (Select q) floor = ⊥
IsCollectionOf st session (Update table sets filter) floor = ⊥
IsCollectionOf st session (Delete table filter) floor = ⊥
IsCollectionOf st session (Compact table) floor = ⊥
IsCollectionOf st session (Checkpoint table) floor = ⊥
IsCollectionOf st session (Collect retain) floor =
    (floor ≡ floor_after st retain) × (refusal st session (Collect retain) ≡ None)

-- It is the refusal that holds. Where nothing is told of rows, it is only known of a cause that
-- comes of rows that the statement reads rows and binding doesn't refuse it.
abbrev pub IsRefusalOf : Bool → State → ℕ → Statement → Refusal → Type 0
IsRefusalOf told st session x cause =
    MatchBool (told || not (may_come_late (Some cause)))
    (refusal st session x ≡ Some cause)
    ((reads_rows x ≡ true) × (binding_refusal st session x ≡ None))

-- `ran` says that a Ran of the same statement stands before
abbrev pub IsRight : Bool → State → ℕ → Bool → Statement → Fact → Type 0
IsRight told st session ran x (Created table schema seq) =
    IsCreateOf x table schema × (refusal st session x ≡ None)
IsRight told st session ran x (Began explicit txn snapshot) =
    MatchBool explicit (x ≡ Begin) (runs_alone x ≡ true)
IsRight told st session ran x (Ran reply change) = IsRunOf told st session x reply change
IsRight told st session ran x (Committed seq added dropped) = commits ran x ≡ true
IsRight told st session ran x (Conflict seq) = IsConflictOf told st session ran x seq
IsRight told st session ran x Ended = IsEndOf told st session ran x
IsRight told st session ran x RolledBack = x ≡ RollBack
IsRight told st session ran x (Refused cause) = IsRefusalOf told st session x cause
IsRight told st session ran x (Failed cause) = IsFailureOf st session ran x cause
IsRight told st session ran x (Compacted table cells marks seq added dropped) =
    IsCompactionOf st session x table
IsRight told st session ran x (Checkpointed table at name) = IsCheckpointOf st session x table
IsRight told st session ran x (Collected names floor) = IsCollectionOf st session x floor
