-- A worked example: a script and the chronicle of its run.
use Rattle.std.specs.Prelude.{ℕ, true, false, List, [], ◌∷◌, None, codes}
use Rattle.lake_values.specs.declared.values.Value.{Value}
use Rattle.lake_model.specs.declared.entries.Fact.TheVariants as fact
use Rattle.sql_model.specs.declared.replies.Reply.TheVariants as reply
use Rattle.sql_model.specs.declared.replies.Verb.TheVariants.{Inserted}
use Rattle.sql_model.specs.declared.scripts.Step.{Step}
use Rattle.sql_model.specs.declared.statements.Statement.TheVariants.{Create, Insert, Select}
use Rattle.sql_model.specs.Changes.{no_change}
use Rattle.lake_model.specs.State.{Noted}
use Rattle.lake_model.specs.Examples.{columns, entry_at, row, step_at}
use Rattle.sql_model.specs.declared.statements.Select.{Select as Query}
use Rattle.sql_tokens.specs.declared.faults.ParseKind.TheVariants.{Syntax}
use Rattle.sql_tokens.specs.declared.faults.ScriptBad.{ScriptBad}

-- all columns of one table
abbrev pub query_of : List ℕ → Query
query_of table = record {
  star = true;
  items = [];
  sources = record { table = table; name = table } ∷ [];
  ons = [];
  filter = None;
  groups = [];
  order = [];
  limit = None;
}

abbrev pub bytes : List ℕ
bytes = codes "CREATE TABLE t (a INT); INSERT INTO t VALUES (2), (1), (1); SELECT * FROM t;"

abbrev pub steps : List Step
steps =
    step_at 1 1 (Create (codes "t") columns None) ∷ step_at 1 2 (Insert (codes "t") (row 2 ∷ row 1 ∷ row 1 ∷ []))
    ∷ step_at 1 3 (Select (query_of (codes "t"))) ∷ []

-- Each statement with the entries that it adds: the table is created as version 1; the rows are added in a transaction
-- of their own, which becomes version 2; and a second transaction answers the query by these rows.
abbrev pub answering : List (List Value) → List Noted
answering answer =
    entry_at 1 1 (fact.Created (codes "t") (record { columns = columns; distribution = 0 }) 1)
    ∷ entry_at 1 2 (fact.Began false 1 1)
    ∷ entry_at 1 2 (fact.Ran (reply.Wrote Inserted 3 None)
    (record { removed = []; added = record { table = codes "t"; part = 1; rows = row 1 ∷ row 1 ∷ row 2 ∷ [] } ∷ [] }))
    ∷ entry_at 1 2 (fact.Committed 2 [] [])
    ∷ entry_at 1 3 (fact.Began false 2 2)
    ∷ entry_at 1 3 (fact.Ran (reply.Rows answer) no_change)
    ∷ entry_at 1 3 fact.Ended
    ∷ []

abbrev pub entries : List Noted
entries = answering (row 1 ∷ row 1 ∷ row 2 ∷ [])

-- what is no chronicle of the script: the query answers without the second 1
abbrev pub entries_without_a_row : List Noted
entries_without_a_row = answering (row 1 ∷ row 2 ∷ [])

-- what is no script, in line 1 at this column
abbrev pub syntax_at : ℕ → ScriptBad
syntax_at column = record { line = 1; column = column; kind = Syntax }
