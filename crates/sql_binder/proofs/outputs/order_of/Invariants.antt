use Rattle.std.proofs.Common.{◌≡◌, ◌++◌, drop, map}
use Rattle.sql_model.specs.BoundForms.{order_key}
use Rattle.sql_model.specs.Mentions.{output_names}
use Rattle.sql_binder.proofs.outputs.order_of.Given as goal

abbrev pub invariant-loop-key : goal.invariant-loop-key
invariant-loop-key l = l.keys.items ++ map (order_key (output_names l.scope l.query)) (drop l.key-index l.query.order) ≡ map (order_key (output_names l.scope l.query)) l.query.order
