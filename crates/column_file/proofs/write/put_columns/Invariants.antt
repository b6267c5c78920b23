use Rattle.std.proofs.Common.{◌≡◌, ◌++◌, map, drop}
use Rattle.std.specs.List.{flat_map}
use Rattle.column_file.specs.Spelling.{columns_from, column_spelling}
use Rattle.column_file.proofs.write.put_columns.Given as goal

abbrev pub invariant-loop-i : goal.invariant-loop-i
invariant-loop-i l = l.out.items ++ flat_map column_spelling (columns_from l.i (map (λ c. c.kind) (drop l.i l.columns)) l.rows) ≡ l.fn.out.items ++ flat_map column_spelling (columns_from 0 (map (λ c. c.kind) l.columns) l.rows)
