-- The kinds of statements.
use Rattle.std.specs.Prelude.{Bool, true, false, ◌||◌}
use Rattle.sql_model.specs.declared.statements.Statement.{Statement}
use Rattle.sql_model.specs.declared.statements.Statement.TheVariants.{Create, Begin, Commit, RollBack, Insert, Select, Update, Delete, Compact, Checkpoint, Collect}

-- a statement that changes rows
abbrev pub is_write : Statement → Bool
is_write (Create table columns distribution) = false
is_write Begin = false
is_write Commit = false
is_write RollBack = false
is_write (Insert table rows) = true
is_write (Select q) = false
is_write (Update table sets filter) = true
is_write (Delete table filter) = true
is_write (Compact table) = false
is_write (Checkpoint table) = false
is_write (Collect retain) = false

-- a query
abbrev pub is_select : Statement → Bool
is_select (Create table columns distribution) = false
is_select Begin = false
is_select Commit = false
is_select RollBack = false
is_select (Insert table rows) = false
is_select (Select q) = true
is_select (Update table sets filter) = false
is_select (Delete table filter) = false
is_select (Compact table) = false
is_select (Checkpoint table) = false
is_select (Collect retain) = false

-- the end of a transaction that keeps its change
abbrev pub is_commit : Statement → Bool
is_commit (Create table columns distribution) = false
is_commit Begin = false
is_commit Commit = true
is_commit RollBack = false
is_commit (Insert table rows) = false
is_commit (Select q) = false
is_commit (Update table sets filter) = false
is_commit (Delete table filter) = false
is_commit (Compact table) = false
is_commit (Checkpoint table) = false
is_commit (Collect retain) = false

-- a collection of names that nothing needs
abbrev pub is_collect : Statement → Bool
is_collect (Create table columns distribution) = false
is_collect Begin = false
is_collect Commit = false
is_collect RollBack = false
is_collect (Insert table rows) = false
is_collect (Select q) = false
is_collect (Update table sets filter) = false
is_collect (Delete table filter) = false
is_collect (Compact table) = false
is_collect (Checkpoint table) = false
is_collect (Collect retain) = true

-- a statement that compacts or checkpoints a table
abbrev pub is_upkeep : Statement → Bool
is_upkeep (Create table columns distribution) = false
is_upkeep Begin = false
is_upkeep Commit = false
is_upkeep RollBack = false
is_upkeep (Insert table rows) = false
is_upkeep (Select q) = false
is_upkeep (Update table sets filter) = false
is_upkeep (Delete table filter) = false
is_upkeep (Compact table) = true
is_upkeep (Checkpoint table) = true
is_upkeep (Collect retain) = false

-- a statement that reads or changes rows
abbrev pub reads_rows : Statement → Bool
reads_rows x = is_write x || is_select x

-- outside a transaction it opens one for itself alone, and ends it
abbrev pub runs_alone : Statement → Bool
runs_alone x = reads_rows x || is_upkeep x

-- it may fail for the store
abbrev pub may_fail : Statement → Bool
may_fail x = runs_alone x || is_commit x || is_collect x
