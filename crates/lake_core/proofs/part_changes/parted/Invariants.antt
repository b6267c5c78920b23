use Rattle.std.proofs.Common.{◌≡◌, ◌++◌}
use Rattle.sql_model.specs.Changes.{committed, own}
use Rattle.lake_core.proofs.part_changes.parted.Given as goal

abbrev pub invariant-loop-row : goal.invariant-loop-row
invariant-loop-row l = (l.committed.items ++ committed l.row-iterator.rest.items ≡ committed l.fn.rows.items) × (l.own.items ++ own l.row-iterator.rest.items ≡ own l.fn.rows.items)
