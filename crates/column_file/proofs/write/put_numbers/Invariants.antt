use Rattle.std.proofs.Common.{◌≡◌, ◌++◌, drop}
use Rattle.std.specs.List.{flat_map}
use Rattle.column_file.specs.Spelling.{column, number_spelling}
use Rattle.column_file.proofs.write.put_numbers.Given as goal

abbrev pub invariant-loop-row : goal.invariant-loop-row
invariant-loop-row l = l.out.items ++ flat_map number_spelling (column l.i (drop l.row-index l.rows)) ≡ l.fn.out.items ++ flat_map number_spelling (column l.i l.rows)
