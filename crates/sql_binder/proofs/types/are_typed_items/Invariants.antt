use Rattle.std.proofs.Common.{◌≡◌, drop}
use Rattle.std.specs.List.{list_all}
use Rattle.sql_model.specs.Types.{is_typed_item}
use Rattle.sql_binder.proofs.types.are_typed_items.Given as goal

abbrev pub invariant-loop-item : goal.invariant-loop-item
invariant-loop-item l = list_all (is_typed_item l.scope) (drop l.item-index l.items) ≡ list_all (is_typed_item l.scope) l.items
