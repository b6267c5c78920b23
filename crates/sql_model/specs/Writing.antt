-- What a statement answers and changes over what its session sees, or why it is refused.
use Rattle.std.specs.Prelude.{ℕ, Bool, true, false, ◌&&◌, List, [], None, Result, Ok, Err, map, filter, length, if◌then◌else◌}
use Rattle.std.specs.List.{list_all}
use Rattle.lake_values.specs.declared.values.Value.{Value}
use Rattle.sql_model.specs.declared.bound.Bound.{Bound}
use Rattle.sql_model.specs.declared.bound.Bound.TheVariants.{Select, Insert, Update, Delete, Named}
use Rattle.sql_model.specs.declared.bound.BoundExpr.{BoundExpr}
use Rattle.sql_model.specs.declared.changes.Change.{Change}
use Rattle.sql_model.specs.declared.changes.MarkedRow.{MarkedRow}
use Rattle.sql_model.specs.declared.replies.Refusal.{Refusal}
use Rattle.sql_model.specs.declared.replies.Refusal.TheVariants.{Arith}
use Rattle.sql_model.specs.declared.replies.Reply.{Reply}
use Rattle.sql_model.specs.declared.replies.Reply.TheVariants.{Wrote, Rows, Ended}
use Rattle.sql_model.specs.declared.replies.Verb.{Verb}
use Rattle.sql_model.specs.declared.replies.Verb.TheVariants.{Inserted, Updated, Deleted}
use Rattle.sql_model.specs.declared.statements.Statement.{Statement}
use Rattle.sql_model.specs.Binding.{bound}
use Rattle.sql_model.specs.Changes.{no_change, change_of}
use Rattle.sql_model.specs.Evaluation.{meets, all_fit, evaluated}
use Rattle.sql_model.specs.Query.{plain}
use Rattle.sql_model.specs.Scopes.{TableSchemas}
use Rattle.sql_model.specs.Versions.{Tables, marked_rows_of, rows_of}

-- what a statement answers, and what it changes
abbrev pub Effect : Type 0
Effect = Reply × Change

-- every guard is true on the row, and every computed condition
abbrev pub is_matched : List BoundExpr → List BoundExpr → List Value → Bool
is_matched guards computed row = meets guards row && meets computed row

-- the rows that a condition matches
abbrev pub matched : List BoundExpr → List BoundExpr → List MarkedRow → List MarkedRow
matched guards computed rows = filter (λ m. is_matched guards computed m.row) rows

-- the computed conditions stay within 64 bits where the guards are true
abbrev pub condition_fits : List BoundExpr → List BoundExpr → List Value → Bool
condition_fits guards computed row = if meets guards row then all_fit computed row else true

abbrev pub conditions_fit : List BoundExpr → List BoundExpr → List MarkedRow → Bool
conditions_fit guards computed rows = list_all (λ m. condition_fits guards computed m.row) rows

-- the new values of the rows stay within 64 bits
abbrev pub values_fit : List BoundExpr → List MarkedRow → Bool
values_fit items rows = list_all (λ m. all_fit items m.row) rows

-- the rows as they are after their update
abbrev pub updated : List BoundExpr → List MarkedRow → List (List Value)
updated items rows = map (λ m. evaluated items m.row) rows

abbrev pub wrote : Verb → ℕ → Reply
wrote verb count = Wrote verb count None

abbrev pub if_fits : Bool → Effect → Result Effect Refusal
if_fits true effect = Ok effect
if_fits false effect = Err Arith

abbrev pub queried : Result (List (List Value)) Refusal → Result Effect Refusal
queried (Ok rows) = Ok (Rows rows, no_change)
queried (Err refusal) = Err refusal

-- An INSERT adds its rows. A DELETE removes the rows that it matches. An UPDATE removes them and adds each as it is
-- after its update, also where it stays the same. Each counts its rows.
abbrev pub effect_of : Bound → Tables → ℕ → Result Effect Refusal
effect_of (Select q) tables part = queried (plain q (rows_of tables))
effect_of (Insert table rows column) tables part = Ok (wrote Inserted (length rows), change_of table part [] rows)
effect_of (Update table guards computed items column) tables part =
    let rows = marked_rows_of table tables in
    let old = matched guards computed rows in
    if_fits (conditions_fit guards computed rows && values_fit items old) (wrote Updated (length old), change_of table part old (updated items old))
effect_of (Delete table guards computed) tables part =
    let rows = marked_rows_of table tables in
    let old = matched guards computed rows in
    if_fits (conditions_fit guards computed rows) (wrote Deleted (length old), change_of table part old [])
effect_of (Named table) tables part = Ok (Ended, no_change)

abbrev pub schemas_of : Tables → TableSchemas
schemas_of tables = map (λ t. (t.name, t.schema)) tables

abbrev pub effect_if_bound : Result Bound Refusal → Tables → ℕ → Result Effect Refusal
effect_if_bound (Ok form) tables part = effect_of form tables part
effect_if_bound (Err refusal) tables part = Err refusal

-- what a statement does as this part of a transaction that sees these tables: the refusals of binding stand before
-- too many rows, and these before arithmetic
abbrev pub result_over : Tables → ℕ → Statement → Result Effect Refusal
result_over tables part x = effect_if_bound (bound x (schemas_of tables)) tables part
