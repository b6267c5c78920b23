use Rattle.std.proofs.Common.{◌≡◌, ◌+◌, drop}
use Rattle.lake_core.specs.Rooms.{table_rows_for, total}
use Rattle.lake_core.proofs.reservations.rows_reserved.Given as goal

abbrev pub invariant-loop-transaction : goal.invariant-loop-transaction
invariant-loop-transaction l = l.rows + total (table_rows_for l.table) (drop l.transaction-index l.running) ≡ total (table_rows_for l.table) l.running
