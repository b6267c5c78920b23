-- The statements that a script may have.
use Rattle.std.specs.Prelude.{Bool, true, false}
use Rattle.sql_model.specs.declared.statements.Statement.{Statement}
use Rattle.sql_model.specs.declared.statements.Statement.TheVariants.{Create, Begin, Commit, RollBack, Insert, Select, Update, Delete, Compact, Checkpoint, Collect}

-- a CREATE, BEGIN, COMMIT, ROLLBACK, INSERT, SELECT, UPDATE or DELETE
abbrev pub is_script_statement : Statement → Bool
is_script_statement (Create table columns distribution) = true
is_script_statement Begin = true
is_script_statement Commit = true
is_script_statement RollBack = true
is_script_statement (Insert table rows) = true
is_script_statement (Select q) = true
is_script_statement (Update table sets filter) = true
is_script_statement (Delete table filter) = true
is_script_statement (Compact table) = false
is_script_statement (Checkpoint table) = false
is_script_statement (Collect retain) = false
