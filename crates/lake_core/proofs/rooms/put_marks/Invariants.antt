use Rattle.std.proofs.Common.{◌≡◌, ◌||◌, List, drop}
use Rattle.sql_model.specs.Units.{ConflictUnit, share_unit}
use Rattle.lake_core.specs.Rooms.{rows_share, units_of_rows}
use Rattle.lake_core.proofs.rooms.put_marks.Given as goal

abbrev pub invariant-loop-row : goal.invariant-loop-row
invariant-loop-row l = (us : List ConflictUnit) → (rows_share l.rows.items us || share_unit (units_of_rows (drop l.row-index l.removed)) us) ≡ (rows_share l.fn.rows.items us || share_unit (units_of_rows l.removed) us)
