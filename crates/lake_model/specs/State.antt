-- The state that a chronicle leads to: the fold of its entries from the first.
use Rattle.std.specs.Prelude.{ℕ, ◌+◌, ◌-◌, ◌==◌, Bool, false, ◌&&◌, not, List, [], ◌∷◌, ◌++◌, Option, None, Some, length, filter, slice_get, unwrap_or, if◌then◌else◌}
use Rattle.std.specs.Option.{option_map_or}
use Rattle.lake_values.specs.declared.names.Name.{Name}
use Rattle.sql_model.specs.declared.changes.Change.{Change}
use Rattle.lake_model.specs.declared.entries.Entry.{Entry}
use Rattle.lake_model.specs.declared.entries.Fact.{Fact}
use Rattle.lake_model.specs.declared.entries.Fact.TheVariants.{Created, Began, Ran, Committed, Conflict, Ended, RolledBack, Refused, Failed, Compacted, Checkpointed, Collected}
use Rattle.sql_model.specs.declared.changes.Mark.{Mark}
use Rattle.sql_model.specs.declared.replies.Reply.{Reply}
use Rattle.sql_model.specs.declared.replies.Reply.TheVariants as reply
use Rattle.sql_model.specs.Versions.{Table, Version, empty_version}
use Rattle.sql_model.specs.Changes.{no_change, pend, own, version_after}
use Rattle.sql_model.specs.Units.{marks_of}
use Rattle.lake_model.specs.Compactions.{version_compacted}
use Rattle.lake_model.specs.Names.{names_after}

-- An entry with what the lake keeps beside it: whether it ends its transaction though that is explicit. Of two
-- statements that fail inside a transaction a COMMIT ends it and a SELECT doesn't, and the entry alone doesn't tell.
pub record Noted : Type 0 where
  pub entry : Entry
  pub ends : Bool

-- a session's open transaction; `worn` are its own marks that have lost a row
pub record Transaction : Type 0 where
  pub explicit : Bool
  pub number : ℕ
  pub snapshot : ℕ
  pub pending : Change
  pub worn : List Mark
  pub parts : ℕ

-- a checkpoint: the file list of a table at a version, as a blob of this name; `begun` is the last
-- number of a transaction that was given before its entry
pub record Check : Type 0 where
  pub table : List ℕ
  pub at : ℕ
  pub begun : ℕ
  pub name : Name

-- the versions from 0 on, the open transactions by session, the number of the last transaction, the
-- floor, below which no version is kept, the names of the blobs that each version has, and the
-- checkpoints in the order of their entries
pub record State : Type 0 where
  pub versions : List Version
  pub running : List (ℕ × Transaction)
  pub last_number : ℕ
  pub floor : ℕ
  pub names : List (List Name)
  pub checks : List Check

-- no table, no transaction
abbrev pub opening : State
opening = record {
  versions = empty_version ∷ [];
  running = [];
  last_number = 0;
  floor = 0;
  names = [] ∷ [];
  checks = [];
}

-- the number of the last version
abbrev pub last : State → ℕ
last st = length st.versions - 1

abbrev pub version_at : State → ℕ → Version
version_at st n = unwrap_or (slice_get st.versions n) empty_version

abbrev pub newest : State → Version
newest st = version_at st (last st)

-- the names of the last version's blobs
abbrev pub last_names : State → List Name
last_names st = unwrap_or (slice_get st.names (last st)) []

abbrev pub opened_by : ℕ → List (ℕ × Transaction) → Option Transaction
opened_by session [] = None
opened_by session (o ∷ os) = if o.0 == session then Some o.1 else opened_by session os

-- the session's transaction, if it has one
abbrev pub transaction : State → ℕ → Option Transaction
transaction st session = opened_by session st.running

-- the session stands in a transaction that BEGIN opened
abbrev pub is_inside : State → ℕ → Bool
is_inside st session = option_map_or (λ t. t.explicit) (transaction st session) false

-- the number of the next part of the session's transaction
abbrev pub next_part : State → ℕ → ℕ
next_part st session = option_map_or (λ t. t.parts + 1) (transaction st session) 1

-- what a transaction sees: its snapshot after its own change
abbrev pub view_of : State → Transaction → Version
view_of st t = version_after 0 t.pending t.worn (version_at st t.snapshot)

-- what a session sees: what its transaction does, or no table outside one
abbrev pub view : State → ℕ → Version
view st session = option_map_or (view_of st) (transaction st session) empty_version

-- one version more, which drops these names and adds those
abbrev pub with_version : Version → List Name → List Name → State → State
with_version version dropped added st = record st { versions = st.versions ++ version ∷ []; names = st.names ++ names_after dropped added (last_names st) ∷ [] }

-- the session without a transaction
abbrev pub ended : ℕ → State → State
ended session st = record st { running = filter (λ o. not (o.0 == session)) st.running }

-- the session with this transaction
abbrev pub turned : ℕ → Transaction → State → State
turned session t st = record st { running = (session, t) ∷ filter (λ o. not (o.0 == session)) st.running }

-- a write statement makes a part
abbrev pub parts_of : Reply → ℕ
parts_of (reply.Created table seq) = 0
parts_of (reply.Begun snapshot) = 0
parts_of (reply.Wrote verb count seq) = 1
parts_of (reply.Rows rows) = 0
parts_of (reply.Committed seq) = 0
parts_of reply.Ended = 0
parts_of reply.RolledBack = 0
parts_of (reply.Conflict seq) = 0
parts_of (reply.Compacted cells seq) = 0
parts_of (reply.Checkpointed table at) = 0
parts_of (reply.Collected floor) = 0
parts_of (reply.Refused cause) = 0
parts_of (reply.Failed cause) = 0

abbrev pub with_part : Reply → Change → Transaction → Transaction
with_part reply change t = record t {
  pending = pend t.pending change;
  worn = t.worn ++ marks_of (own change.removed);
  parts = t.parts + parts_of reply;
}

abbrev pub after_created : Table → State → State
after_created t st =
    let created = record (newest st) { tables = (newest st).tables ++ t ∷ []; struck = [] } in
    with_version created [] [] st

abbrev pub after_began : ℕ → Bool → ℕ → ℕ → State → State
after_began session explicit number snapshot st =
    record (turned session (record { explicit = explicit; number = number; snapshot = snapshot; pending = no_change; worn = []; parts = 0 }) st) { last_number = number }

abbrev pub after_ran : ℕ → Reply → Change → State → State
after_ran session reply change st = option_map_or (λ t. turned session (with_part reply change t) st) (transaction st session) st

-- the session's change becomes the newest version
abbrev pub after_commit : ℕ → List Name → List Name → State → State
after_commit session dropped added st =
    option_map_or (λ t. ended session (with_version (version_after (last st + 1) t.pending t.worn (newest st)) dropped added st)) (transaction st session) st

-- A statement of the session's transaction was refused or failed, which takes the number of a part. A transaction that
-- was opened for the statement alone ends, and so does an explicit one where this entry ends it.
abbrev pub after_stop : ℕ → Bool → State → State
after_stop session ends st =
    option_map_or (λ t. if t.explicit && not ends then turned session (record t { parts = t.parts + 1 }) st else ended session st) (transaction st session) st

-- one checkpoint more, of a table at a version
abbrev pub with_check : List ℕ → ℕ → Name → State → State
with_check table at name st =
    let check : Check = record { table = table; at = at; begun = st.last_number; name = name } in
    record st { checks = st.checks ++ check ∷ [] }

-- what an entry makes of the state
abbrev pub after_fact : ℕ → Bool → Fact → State → State
after_fact session ends (Created table schema seq) st = after_created (record { name = table; schema = schema; rows = [] }) st
after_fact session ends (Began explicit txn snapshot) st = after_began session explicit txn snapshot st
after_fact session ends (Ran reply change) st = after_ran session reply change st
after_fact session ends (Committed seq added dropped) st = after_commit session dropped added st
after_fact session ends (Conflict seq) st = ended session st
after_fact session ends Ended st = ended session st
after_fact session ends RolledBack st = ended session st
after_fact session ends (Refused cause) st = after_stop session false st
after_fact session ends (Failed cause) st = after_stop session ends st
after_fact session ends (Compacted table cells marks seq added dropped) st = ended session (with_version (version_compacted table (last st + 1) marks (newest st)) dropped added st)
after_fact session ends (Checkpointed table at name) st =
    ended session (with_check table at name st)
after_fact session ends (Collected names floor) st = record st { floor = floor }

abbrev pub after : State → Noted → State
after st e = after_fact e.entry.session e.ends e.entry.fact st

-- the state behind these entries
abbrev pub state_from : State → List Noted → State
state_from st [] = st
state_from st (e ∷ es) = state_from (after st e) es

abbrev pub state : List Noted → State
state entries = state_from opening entries

-- each entry with the state before it
abbrev pub stated : State → List Noted → List (State × Noted)
stated st [] = []
stated st (e ∷ es) = (st, e) ∷ stated (after st e) es
