use Rattle.std.proofs.Common.{◌≡◌, ◌++◌, drop}
use Rattle.std.specs.List.{flat_map}
use Rattle.lake_values.specs.Order.{bytes_of}
use Rattle.column_file.specs.Spelling.{column}
use Rattle.column_file.proofs.write.put_texts.Given as goal

abbrev pub invariant-loop-row : goal.invariant-loop-row
invariant-loop-row l = l.out.items ++ flat_map bytes_of (column l.i (drop l.row-index l.rows)) ≡ l.fn.out.items ++ flat_map bytes_of (column l.i l.rows)
