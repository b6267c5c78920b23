use Rattle.std.proofs.Common.{◌≡◌, ◌++◌, drop}
use Rattle.sql_model.proofs.copies.copy_marked_rows.Given as goal

abbrev pub invariant-loop-marked : goal.invariant-loop-marked
invariant-loop-marked l = l.copies.items ++ drop l.marked-index l.rows ≡ l.rows
