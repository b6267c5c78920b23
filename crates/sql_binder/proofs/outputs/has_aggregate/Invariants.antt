use Rattle.std.proofs.Common.{◌≡◌, drop}
use Rattle.std.specs.List.{list_any}
use Rattle.sql_model.specs.BoundForms as form
use Rattle.sql_binder.proofs.outputs.has_aggregate.Given as goal

abbrev pub invariant-loop-item : goal.invariant-loop-item
invariant-loop-item l = list_any form.is_aggregate (drop l.item-index l.items) ≡ list_any form.is_aggregate l.items
