use Rattle.std.proofs.Common.{◌≡◌, drop}
use Rattle.std.specs.List.{list_all}
use Rattle.sql_model.specs.Types.{is_typed_set}
use Rattle.sql_binder.proofs.types.are_typed_sets.Given as goal

abbrev pub invariant-loop-set : goal.invariant-loop-set
invariant-loop-set l = list_all (is_typed_set l.scope) (drop l.set-index l.sets) ≡ list_all (is_typed_set l.scope) l.sets
