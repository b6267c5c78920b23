use Rattle.std.proofs.Common.{◌≡◌, map, take}
use Rattle.column_file.specs.Lent.{lent_column}
use Rattle.column_file.specs.Reading.{rows_of}
use Rattle.column_file.proofs.transpose.rows_from.Given as goal

abbrev pub invariant-loop-place : goal.invariant-loop-place
invariant-loop-place l = l.rows.items ≡ take l.place (rows_of l.count (map lent_column l.columns))
