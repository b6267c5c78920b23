use Rattle.std.proofs.Common.{◌≡◌, ◌||◌, List, drop}
use Rattle.sql_model.specs.Units.{ConflictUnit, share_unit, units_of_marks}
use Rattle.lake_core.specs.Rooms.{units_of_rows}
use Rattle.lake_core.proofs.rooms.put_tables.Given as goal

abbrev pub invariant-loop-row : goal.invariant-loop-row
invariant-loop-row l = (us : List ConflictUnit) → (share_unit (units_of_marks l.marks) us || share_unit (units_of_rows (drop l.row-index l.removed)) us) ≡ (share_unit (units_of_marks l.fn.marks) us || share_unit (units_of_rows l.removed) us)
