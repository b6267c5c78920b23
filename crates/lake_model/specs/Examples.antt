-- Worked examples: what scripts and chronicles are made of, and one of upkeep: a compaction, a
-- checkpoint and a collection beside an open transaction, whose COMMIT then fails.
use Rattle.std.specs.Prelude.{ℕ, Bool, true, false, pos, List, [], ◌∷◌, ◌++◌, None, codes, length, map}
use Rattle.lake_values.specs.declared.schemas.ColType.TheVariants.{Int as IntType}
use Rattle.lake_values.specs.declared.schemas.Column.{Column}
use Rattle.lake_values.specs.declared.names.Kind.TheVariants.{Checkpoint}
use Rattle.lake_values.specs.declared.names.Name.{Name}
use Rattle.lake_values.specs.declared.values.Value.{Value}
use Rattle.lake_values.specs.declared.values.Value.TheVariants.{Int}
use Rattle.lake_model.specs.State.{Check, Noted, state}
use Rattle.lake_model.specs.declared.entries.Fact.{Fact}
use Rattle.lake_model.specs.declared.entries.Fact.TheVariants as fact
use Rattle.sql_model.specs.declared.changes.Added.{Added}
use Rattle.sql_model.specs.declared.changes.Change.{Change}
use Rattle.sql_model.specs.declared.changes.Mark.{Mark}
use Rattle.sql_model.specs.declared.changes.MarkedRow.{MarkedRow}
use Rattle.sql_model.specs.declared.replies.Failure.TheVariants.{StoreFault}
use Rattle.sql_model.specs.declared.replies.Reply.TheVariants.{Wrote}
use Rattle.sql_model.specs.declared.replies.Verb.TheVariants.{Deleted, Inserted}
use Rattle.sql_model.specs.declared.scripts.Step.{Step}
use Rattle.sql_model.specs.declared.scripts.Step.TheVariants.{One}
use Rattle.sql_model.specs.declared.statements.Statement.{Statement}
use Rattle.sql_model.specs.declared.statements.Statement.TheVariants as statement

abbrev pub row : ℕ → List Value
row n = Int (pos n) ∷ []

abbrev pub columns : List Column
columns = record { name = codes "a"; kind = IntType } ∷ []

-- a statement of a session at its place
abbrev pub step_at : ℕ → ℕ → Statement → Step
step_at session place x = One (record { place = place; session = session; statement = x })

abbrev pub insert : List (List Value) → Statement
insert rows = statement.Insert (codes "t") rows

-- CREATE TABLE t (a INT); INSERT INTO t VALUES (1), (1); INSERT INTO t VALUES (1); @b BEGIN;
-- COMPACT t; CHECKPOINT t; COLLECT RETAIN 0; @b INSERT INTO t VALUES (2); @b COMMIT;
abbrev pub steps : List Step
steps =
    step_at 1 1 (statement.Create (codes "t") columns None)
    ∷ step_at 1 2 (insert (row 1 ∷ row 1 ∷ [])) ∷ step_at 1 3 (insert (row 1 ∷ []))
    ∷ step_at 2 4 statement.Begin
    ∷ step_at 1 5 (statement.Compact (codes "t")) ∷ step_at 1 6 (statement.Checkpoint (codes "t"))
    ∷ step_at 1 7 (statement.Collect 0) ∷ step_at 2 8 (insert (row 2 ∷ []))
    ∷ step_at 2 9 statement.Commit ∷ []

abbrev pub entry_at : ℕ → ℕ → Fact → Noted
entry_at session place f = record { entry = record { session = session; place = place; fact = f }; ends = false }

-- rows that a transaction's first statement adds
abbrev pub inserted : List (List Value) → Fact
inserted rows =
    let added : Added = record { table = codes "t"; part = 1; rows = rows } in
    fact.Ran (Wrote Inserted (length rows) None) (record { removed = []; added = added ∷ [] })

-- the mark of the rows that a commit added, which are in cell 15
abbrev pub mark_of_commit : ℕ → Mark
mark_of_commit seq = record { table = codes "t"; seq = seq; part = 1; cell = 15 }

-- the table with its three rows of one cell, as version 3, and an open transaction of session 2
-- that sees it
abbrev pub filled : List Noted
filled =
    entry_at 1 1 (fact.Created (codes "t") (record { columns = columns; distribution = 0 }) 1)
    ∷ entry_at 1 2 (fact.Began false 1 1) ∷ entry_at 1 2 (inserted (row 1 ∷ row 1 ∷ []))
    ∷ entry_at 1 2 (fact.Committed 2 [] [])
    ∷ entry_at 1 3 (fact.Began false 2 2) ∷ entry_at 1 3 (inserted (row 1 ∷ []))
    ∷ entry_at 1 3 (fact.Committed 3 [] []) ∷ entry_at 2 4 (fact.Began true 3 3) ∷ []

-- the cells of the table are compacted as version 4
abbrev pub compaction : List ℕ → List Noted
compaction cells =
    let marks : List Mark = mark_of_commit 2 ∷ mark_of_commit 3 ∷ [] in
    entry_at 1 5 (fact.Began false 4 3)
    ∷ entry_at 1 5 (fact.Compacted (codes "t") cells marks 4 [] []) ∷ []

-- the blob of the checkpoint
abbrev pub checkpoint_name : Name
checkpoint_name = record { kind = Checkpoint; txn = 5; part = 1; task = 0; attempt = 0 }

-- the file list of the table at version 4 is written
abbrev pub checkpoint : List Noted
checkpoint =
    entry_at 1 6 (fact.Began false 5 4)
    ∷ entry_at 1 6 (fact.Checkpointed (codes "t") 4 checkpoint_name) ∷ []

abbrev pub collection : ℕ → List Noted
collection floor = entry_at 1 7 (fact.Collected [] floor) ∷ []

-- the COMMIT fails, and ends its transaction or not
abbrev pub failed_commit : Bool → List Noted
failed_commit ends =
    let commit = record (entry_at 2 9 (fact.Failed (StoreFault 0))) { ends = ends } in
    entry_at 2 8 (inserted (row 2 ∷ [])) ∷ commit ∷ []

abbrev pub entries : List Noted
entries = filled ++ (compaction (15 ∷ []) ++ (checkpoint ++ (collection 3 ++ failed_commit true)))

-- what isn't allowed: a compaction of a cell in which nothing is due
abbrev pub compacting_another_cell : List Noted
compacting_another_cell = filled ++ compaction (0 ∷ [])

-- what isn't allowed: a floor above what an open transaction sees
abbrev pub collecting_an_open_snapshot : List Noted
collecting_an_open_snapshot = filled ++ (compaction (15 ∷ []) ++ (checkpoint ++ collection 4))

-- what doesn't follow the script: the transaction stays open behind a COMMIT that failed
abbrev pub staying_open : List Noted
staying_open =
    filled ++ (compaction (15 ∷ []) ++ (checkpoint ++ (collection 3 ++ failed_commit false)))

-- the checkpoint, and that number 5 was the last that was given
abbrev pub checks : List Check
checks = record { table = codes "t"; at = 4; begun = 5; name = checkpoint_name } ∷ []

-- the marks that the commit of each version struck
abbrev pub struck_marks : List Noted → List (List Mark)
struck_marks es = map (λ v. v.struck) (state es).versions

-- the open transaction removes one of the two rows of commit 2
abbrev pub removal : List Noted
removal =
    let one : MarkedRow = record { mark = mark_of_commit 2; row = row 1 } in
    let change : Change = record { removed = one ∷ []; added = [] } in
    filled ++ entry_at 2 5 (fact.Ran (Wrote Deleted 1 None) change) ∷ []
