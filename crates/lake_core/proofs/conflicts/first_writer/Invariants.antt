use Rattle.std.proofs.Common.{◌≡◌, drop}
use Rattle.std.specs.Prelude.{find}
use Rattle.lake_core.specs.Rows.{writes_one}
use Rattle.lake_core.proofs.conflicts.first_writer.Given as goal

abbrev pub invariant-loop-row : goal.invariant-loop-row
invariant-loop-row l = find (writes_one l.marks) (drop l.row-index l.rows) ≡ find (writes_one l.marks) l.rows
