use Rattle.std.proofs.Common.{◌≡◌, drop}
use Rattle.std.specs.List.{list_all}
use Rattle.sql_model.specs.Types.{are_typed_values}
use Rattle.sql_binder.proofs.types.are_typed_rows.Given as goal

abbrev pub invariant-loop-row : goal.invariant-loop-row
invariant-loop-row l = list_all (are_typed_values l.columns) (drop l.row-index l.rows) ≡ list_all (are_typed_values l.columns) l.rows
