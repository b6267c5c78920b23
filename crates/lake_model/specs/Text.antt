-- What is printed for a chronicle that follows a script.
use Rattle.std.specs.Prelude.{ℕ, List, [], ◌∷◌, Option, None, Some, map, length, if◌then◌else◌}
use Rattle.std.specs.List.{flat_map}
use Rattle.std.specs.Option.{option_map_or}
use Rattle.lake_model.specs.declared.entries.Fact.{Fact}
use Rattle.lake_model.specs.declared.entries.Fact.TheVariants as fact
use Rattle.sql_model.specs.declared.replies.Reply.{Reply}
use Rattle.sql_model.specs.declared.replies.Reply.TheVariants.{Created, Begun, Wrote, Rows, Committed, Ended, RolledBack, Conflict, Compacted, Checkpointed, Collected, Refused, Failed}
use Rattle.sql_model.specs.declared.scripts.Numbered.{Numbered}
use Rattle.sql_model.specs.declared.scripts.Step.{Step}
use Rattle.sql_model.specs.declared.statements.Statement.{Statement}
use Rattle.sql_model.specs.declared.statements.Statement.TheVariants as statement
use Rattle.lake_model.specs.Replies.{text_of_reply}
use Rattle.lake_model.specs.State.{State, Noted, opening}
use Rattle.lake_model.specs.Following.{statements, run_of}

-- a commit's answer: the reply of the write that ran, with the commit's number, or the commit itself
abbrev pub committed_reply : ℕ → Option Reply → Reply
committed_reply seq None = Committed seq
committed_reply seq (Some (Created table own)) = Committed seq
committed_reply seq (Some (Begun snapshot)) = Committed seq
committed_reply seq (Some (Wrote verb count own)) = Wrote verb count (Some seq)
committed_reply seq (Some (Rows rows)) = Committed seq
committed_reply seq (Some (Committed own)) = Committed seq
committed_reply seq (Some Ended) = Committed seq
committed_reply seq (Some RolledBack) = Committed seq
committed_reply seq (Some (Conflict own)) = Committed seq
committed_reply seq (Some (Compacted cells own)) = Committed seq
committed_reply seq (Some (Checkpointed table at)) = Committed seq
committed_reply seq (Some (Collected floor)) = Committed seq
committed_reply seq (Some (Refused cause)) = Committed seq
committed_reply seq (Some (Failed cause)) = Committed seq

-- what a statement answers that ends without a change: the reply of what ran, or for a compaction that nothing was due
abbrev pub ended_reply : Statement → Option Reply → Reply
ended_reply x (Some reply) = reply
ended_reply (statement.Create table columns distribution) None = Ended
ended_reply statement.Begin None = Ended
ended_reply statement.Commit None = Ended
ended_reply statement.RollBack None = Ended
ended_reply (statement.Insert table rows) None = Ended
ended_reply (statement.Select q) None = Ended
ended_reply (statement.Update table sets filter) None = Ended
ended_reply (statement.Delete table filter) None = Ended
ended_reply (statement.Compact table) None = Compacted 0 None
ended_reply (statement.Checkpoint table) None = Ended
ended_reply (statement.Collect retain) None = Ended

-- what a statement answers with one more entry, from what it answered before it
abbrev pub reply_after : Statement → Option Reply → Fact → Option Reply
reply_after x before (fact.Created table schema seq) = Some (Created table seq)
reply_after x before (fact.Began explicit txn snapshot) = if explicit then Some (Begun snapshot) else None
reply_after x before (fact.Ran reply change) = Some reply
reply_after x before (fact.Committed seq added dropped) = Some (committed_reply seq before)
reply_after x before (fact.Conflict seq) = Some (Conflict seq)
reply_after x before fact.Ended = Some (ended_reply x before)
reply_after x before fact.RolledBack = Some RolledBack
reply_after x before (fact.Refused cause) = Some (Refused cause)
reply_after x before (fact.Failed cause) = Some (Failed cause)
reply_after x before (fact.Compacted table cells marks seq added dropped) = Some (Compacted (length cells) (Some seq))
reply_after x before (fact.Checkpointed table at name) = Some (Checkpointed table at)
reply_after x before (fact.Collected names floor) = Some (Collected floor)

abbrev pub reply_from : Statement → Option Reply → List Fact → Option Reply
reply_from x before [] = before
reply_from x before (f ∷ fs) = reply_from x (reply_after x before f) fs

-- what a statement with these entries answers
abbrev pub reply : Statement → List Fact → Option Reply
reply x facts = reply_from x None facts

-- what a statement with this run of entries answers
abbrev pub reply_of : Statement → List (State × Noted) → Option Reply
reply_of x run = reply x (map (λ p. p.1.entry.fact) run)

-- what is printed for the statement with these entries; without entries nothing
abbrev pub run_text : Numbered → List (State × Noted) → List ℕ
run_text n run = option_map_or (text_of_reply n.place) (reply_of n.statement run) []

abbrev pub statement_text : State → List Noted → Numbered → List ℕ
statement_text st entries n = run_text n (run_of n.place st entries)

-- from a state on, the replies of all statements in the order of the script
abbrev pub text_from : State → List Noted → List Step → List ℕ
text_from st entries x = flat_map (statement_text st entries) (statements x)

-- of a chronicle, from the first entry on
abbrev pub text : List Noted → List Step → List ℕ
text entries x = text_from opening entries x
