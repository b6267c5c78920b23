use Rattle.std.proofs.Common.{◌≡◌, ◌+◌, ◌≤◌, ◌++◌, drop, length}
use Rattle.sql_model.specs.BoundForms as form
use Rattle.sql_binder.proofs.outputs.group_outputs.Given as goal

abbrev pub invariant-loop-item : goal.invariant-loop-item
invariant-loop-item l = record {
  told : l.outputs.items ++ form.group_outputs l.scope l.keys l.next (drop l.item-index l.items) ≡ form.group_outputs l.scope l.keys (length l.keys) l.items;
  few : l.next ≤ length l.keys + l.item-index;
}
