use Rattle.std.proofs.Common.{◌≡◌, ◌++◌, drop}
use Rattle.sql_model.specs.BoundForms.{changed_row}
use Rattle.sql_binder.proofs.forms.changed_row.Given as goal

abbrev pub invariant-loop-place : goal.invariant-loop-place
invariant-loop-place l = l.row.items ++ changed_row l.scope l.sets l.place (drop l.place l.scope) ≡ changed_row l.scope l.sets 0 l.scope
