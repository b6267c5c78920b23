use Rattle.std.proofs.Common.{◌≡◌, ◌++◌, drop}
use Rattle.sql_model.specs.BoundForms as form
use Rattle.sql_binder.proofs.outputs.keys_of.Given as goal

abbrev pub invariant-loop-group : goal.invariant-loop-group
invariant-loop-group l = l.keys.items ++ form.keys_of l.scope (drop l.group-index l.groups) ≡ form.keys_of l.scope l.groups
