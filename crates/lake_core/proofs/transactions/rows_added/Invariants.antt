use Rattle.std.proofs.Common.{◌≡◌, ◌+◌, drop}
use Rattle.table_history.specs.Histories.{rows_for}
use Rattle.lake_core.proofs.transactions.rows_added.Given as goal

abbrev pub invariant-loop-part : goal.invariant-loop-part
invariant-loop-part l = l.rows + rows_for l.table (drop l.part-index l.added) ≡ rows_for l.table l.added
