-- Which entry a call makes, and what it answers.
use Rattle.std.specs.Prelude.{ℕ, ◌+◌, Bool, List, [], Option, None, Some, length, is_some, if◌then◌else◌}
use Rattle.std.specs.Option.{option_map_or}
use Rattle.lake_values.specs.Schemas.{TableColumns}
use Rattle.lake_model.specs.declared.entries.Fact.{Fact}
use Rattle.lake_model.specs.declared.entries.Fact.TheVariants as fact
use Rattle.sql_model.specs.declared.replies.Refusal.TheVariants.{InTransaction, TableExists}
use Rattle.sql_model.specs.declared.replies.Reply.{Reply}
use Rattle.sql_model.specs.declared.replies.Reply.TheVariants as reply
use Rattle.sql_model.specs.Changes.{is_unchanged}
use Rattle.sql_model.specs.Units.{units_of}
use Rattle.lake_model.specs.Conflicts.{first_conflict}
use Rattle.lake_model.specs.State.{State, Transaction, is_inside, last, newest, transaction}
use Rattle.sql_model.specs.Versions.{has_table}

-- a table is created outside a transaction, where no table has the name
abbrev pub creation : State → ℕ → List ℕ → TableColumns → Fact
creation st session table schema =
    if is_inside st session then fact.Refused InTransaction
    else if has_table table (newest st).tables then fact.Refused (TableExists table) else fact.Created table schema (last st + 1)

-- a transaction begins where the session has none
abbrev pub beginning : State → ℕ → Bool → Fact
beginning st session explicit =
    if is_some (transaction st session) then fact.Refused InTransaction else fact.Began explicit (st.last_number + 1) (last st)

-- a change becomes the next version, if no commit after the snapshot wrote what it wrote
abbrev pub commit_or_conflict : State → Option ℕ → Fact
commit_or_conflict st (Some seq) = fact.Conflict seq
commit_or_conflict st None = fact.Committed (last st + 1) [] []

-- a transaction without a change ends
abbrev pub ending : State → Transaction → Fact
ending st t = if is_unchanged t.pending then fact.Ended else commit_or_conflict st (first_conflict st t.snapshot (units_of t.pending))

abbrev pub commitment : State → ℕ → Fact
commitment st session = option_map_or (ending st) (transaction st session) fact.Ended

-- what an entry says to its session
abbrev pub answer : Fact → Reply
answer (fact.Created table schema seq) = reply.Created table seq
answer (fact.Began explicit txn snapshot) = reply.Begun snapshot
answer (fact.Ran r change) = r
answer (fact.Committed seq added dropped) = reply.Committed seq
answer (fact.Conflict seq) = reply.Conflict seq
answer fact.Ended = reply.Ended
answer fact.RolledBack = reply.RolledBack
answer (fact.Refused cause) = reply.Refused cause
answer (fact.Failed cause) = reply.Failed cause
answer (fact.Compacted table cells marks seq added dropped) = reply.Compacted (length cells) (Some seq)
answer (fact.Checkpointed table at name) = reply.Checkpointed table at
answer (fact.Collected names floor) = reply.Collected floor
