use Rattle.std.proofs.Common.{◌≡◌, drop, map}
use Rattle.std.specs.List.{list_any}
use Rattle.sql_model.specs.Mentions.{output_name}
use Rattle.sql_model.specs.Scopes.{has_name}
use Rattle.sql_binder.proofs.outputs.some_is_called.Given as goal

abbrev pub invariant-loop-item : goal.invariant-loop-item
invariant-loop-item l = list_any (has_name l.name) (map output_name (drop l.item-index l.items)) ≡ list_any (has_name l.name) (map output_name l.items)
