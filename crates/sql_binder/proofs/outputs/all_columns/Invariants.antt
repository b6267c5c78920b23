use Rattle.std.proofs.Common.{◌≡◌, ◌≤◌, ◌++◌, drop, length}
use Rattle.sql_model.specs.BoundForms as form
use Rattle.sql_binder.proofs.outputs.all_columns.Given as goal

abbrev pub invariant-loop-place : goal.invariant-loop-place
invariant-loop-place l = record {
  told : l.bound.items ++ form.columns_from l.place (drop l.place l.scope) ≡ form.all_columns l.scope;
  few : length l.bound.items ≤ l.place;
}
