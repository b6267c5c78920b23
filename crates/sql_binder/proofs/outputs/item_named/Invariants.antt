use Rattle.std.proofs.Common.{◌≡◌, drop, map}
use Rattle.sql_model.specs.Mentions.{output_name}
use Rattle.sql_model.specs.Scopes.{has_name, found_from}
use Rattle.sql_binder.proofs.outputs.item_named.Given as goal

abbrev pub invariant-loop-place : goal.invariant-loop-place
invariant-loop-place l = found_from l.place (has_name l.name) (map output_name (drop l.place l.items)) ≡ found_from 0 (has_name l.name) (map output_name l.items)
