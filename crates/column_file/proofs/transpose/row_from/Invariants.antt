use Rattle.std.proofs.Common.{◌≡◌, map, take}
use Rattle.column_file.specs.Lent.{value_at}
use Rattle.column_file.proofs.transpose.row_from.Given as goal

abbrev pub invariant-loop-column : goal.invariant-loop-column
invariant-loop-column l = l.values.items ≡ map (value_at l.place) (take l.column-index l.columns)
