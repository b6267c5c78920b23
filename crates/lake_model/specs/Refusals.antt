-- Which refusal a statement meets, if any.
use Rattle.std.specs.Prelude.{ℕ, List, Option, None, Some, Result, Ok, Err, is_some, if◌then◌else◌}
use Rattle.std.specs.Option.{option_or}
use Rattle.sql_model.specs.declared.replies.Refusal.{Refusal}
use Rattle.sql_model.specs.declared.replies.Refusal.TheVariants.{TableExists, InTransaction, NoTransaction}
use Rattle.sql_model.specs.declared.statements.Statement.{Statement}
use Rattle.sql_model.specs.declared.statements.Statement.TheVariants.{Create, Begin, Commit, RollBack, Insert, Select, Update, Delete, Compact, Checkpoint, Collect}
use Rattle.sql_model.specs.Binding.{refused}
use Rattle.sql_model.specs.Versions.{Tables, has_table}
use Rattle.lake_model.specs.State.{State, newest, transaction, is_inside, view, next_part}
use Rattle.sql_model.specs.Writing.{Effect, schemas_of, result_over}

-- the statement may not stand inside an explicit transaction
abbrev pub in_transaction : State → ℕ → Option Refusal
in_transaction st session = if is_inside st session then Some InTransaction else None

-- the statement needs a transaction
abbrev pub no_transaction : State → ℕ → Option Refusal
no_transaction st session = if is_some (transaction st session) then None else Some NoTransaction

-- a table of the name is there already
abbrev pub existing_table : List ℕ → Tables → Option Refusal
existing_table table tables = if has_table table tables then Some (TableExists table) else None

-- binding refuses the statement over the tables that its session sees
abbrev pub binding_refusal : State → ℕ → Statement → Option Refusal
binding_refusal st session x = refused (schemas_of (view st session).tables) x

-- what a statement does in the session's transaction
abbrev pub result_of : State → ℕ → Statement → Result Effect Refusal
result_of st session x = result_over (view st session).tables (next_part st session) x

abbrev pub refusal_in : Result Effect Refusal → Option Refusal
refusal_in (Ok effect) = None
refusal_in (Err refusal) = Some refusal

-- the first refusal that holds: of the transaction's state, then of a name that is taken, then of binding, then too
-- many rows, then of arithmetic
abbrev pub refusal : State → ℕ → Statement → Option Refusal
refusal st session (Create table columns distribution) =
    option_or (in_transaction st session) (option_or (existing_table table (newest st).tables) (binding_refusal st session (Create table columns distribution)))
refusal st session Begin = in_transaction st session
refusal st session Commit = no_transaction st session
refusal st session RollBack = no_transaction st session
refusal st session (Insert table rows) = refusal_in (result_of st session (Insert table rows))
refusal st session (Select q) = refusal_in (result_of st session (Select q))
refusal st session (Update table sets filter) = refusal_in (result_of st session (Update table sets filter))
refusal st session (Delete table filter) = refusal_in (result_of st session (Delete table filter))
refusal st session (Compact table) = option_or (in_transaction st session) (binding_refusal st session (Compact table))
refusal st session (Checkpoint table) = option_or (in_transaction st session) (binding_refusal st session (Checkpoint table))
refusal st session (Collect retain) = in_transaction st session
