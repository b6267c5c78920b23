use Rattle.std.proofs.Common.{◌≡◌, drop}
use Rattle.std.specs.List.{list_all}
use Rattle.sql_model.specs.Types.{is_typed_pair}
use Rattle.sql_binder.proofs.types.are_typed_pairs.Given as goal

abbrev pub invariant-loop-pair : goal.invariant-loop-pair
invariant-loop-pair l = list_all (is_typed_pair l.scope) (drop l.pair-index l.pairs) ≡ list_all (is_typed_pair l.scope) l.pairs
