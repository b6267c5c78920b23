use Rattle.std.proofs.Common.{◌≡◌, drop}
use Rattle.std.specs.List.{list_all}
use Rattle.sql_model.specs.Binding.{is_of_group}
use Rattle.sql_binder.proofs.groups.are_of_group.Given as goal

abbrev pub invariant-loop-item : goal.invariant-loop-item
invariant-loop-item l = list_all (is_of_group l.scope l.keys) (drop l.item-index l.items) ≡ list_all (is_of_group l.scope l.keys) l.items
