-- Which statements are bound to a form that reads or changes rows.
use Rattle.std.proofs.Common.{◌≡◌, true, Option, None, Some, Ok, refl, sym, ap, ◌∙◌}
use Rattle.sql_model.specs.declared.bound.Bound.{Bound}
use Rattle.sql_model.specs.declared.replies.Refusal.{Refusal}
use Rattle.sql_model.specs.declared.statements.Statement.{Statement}
use Rattle.sql_model.specs.declared.statements.Statement.TheVariants.{Create, Begin, Commit, RollBack, Insert, Select, Update, Delete, Compact, Checkpoint, Collect}
use Rattle.sql_model.specs.Binding.{IsBound, answered, refused}
use Rattle.sql_model.specs.BoundForms.{bound_form, reads_or_changes}
use Rattle.sql_model.specs.Scopes.{TableSchemas}
use Rattle.sql_model.specs.StatementKinds.{reads_rows}

form_reads : (schemas : TableSchemas) (x : Statement) → reads_or_changes (bound_form schemas x) ≡ reads_rows x
form_reads schemas (Create table columns distribution) = refl
form_reads schemas Begin = refl
form_reads schemas Commit = refl
form_reads schemas RollBack = refl
form_reads schemas (Insert table rows) = refl
form_reads schemas (Select q) = refl
form_reads schemas (Update table sets filter) = refl
form_reads schemas (Delete table filter) = refl
form_reads schemas (Compact table) = refl
form_reads schemas (Checkpoint table) = refl
form_reads schemas (Collect retain) = refl

answered_form : (judged : Option Refusal) (form made : Bound) → answered judged form ≡ Ok made → form ≡ made
answered_form None form made is = cc
answered_form (Some refusal) form made is = absurd cc

-- a statement that reads or changes rows is bound to a form that does
pub bound_reads : (x : Statement) (schemas : TableSchemas) (form : Bound) → reads_rows x ≡ true → IsBound x schemas form → reads_or_changes form ≡ true
bound_reads x schemas form reads is_bound =
    ap reads_or_changes (sym (answered_form (refused schemas x) (bound_form schemas x) form is_bound)) ∙ form_reads schemas x ∙ reads
