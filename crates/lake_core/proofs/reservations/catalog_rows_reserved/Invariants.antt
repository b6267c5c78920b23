use Rattle.std.proofs.Common.{◌≡◌, ◌+◌, drop}
use Rattle.lake_core.specs.Rooms.{catalog_rows_for, total}
use Rattle.lake_core.proofs.reservations.catalog_rows_reserved.Given as goal

abbrev pub invariant-loop-transaction : goal.invariant-loop-transaction
invariant-loop-transaction l = l.rows + total catalog_rows_for (drop l.transaction-index l.running) ≡ total catalog_rows_for l.running
