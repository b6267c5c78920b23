use Rattle.std.proofs.Common.{◌≡◌, drop}
use Rattle.std.specs.List.{list_all}
use Rattle.sql_model.specs.Binding.{is_wide}
use Rattle.sql_binder.proofs.binding.are_wide.Given as goal

abbrev pub invariant-loop-row : goal.invariant-loop-row
invariant-loop-row l = list_all (is_wide l.width) (drop l.row-index l.rows) ≡ list_all (is_wide l.width) l.rows
