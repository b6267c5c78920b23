use Rattle.std.proofs.Common.{◌≡◌, ◌≤◌, ◌++◌, drop, length}
use Rattle.sql_model.specs.BoundForms as form
use Rattle.sql_binder.proofs.outputs.items_of.Given as goal

abbrev pub invariant-loop-item : goal.invariant-loop-item
invariant-loop-item l = record {
  told : l.bound.items ++ form.items_of l.scope (drop l.item-index l.items) ≡ form.items_of l.scope l.items;
  few : length l.bound.items ≤ l.item-index;
}
