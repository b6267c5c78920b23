use Rattle.std.proofs.Common.{◌≡◌, ◌++◌, drop}
use Rattle.sql_model.specs.BoundForms as form
use Rattle.sql_binder.proofs.outputs.aggs_of.Given as goal

abbrev pub invariant-loop-item : goal.invariant-loop-item
invariant-loop-item l = l.aggs.items ++ form.aggs_of l.scope (drop l.item-index l.items) ≡ form.aggs_of l.scope l.items
