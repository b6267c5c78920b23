use Rattle.std.proofs.Common.{◌≡◌, ◌++◌, map, drop}
use Rattle.column_file.specs.Spelling.{column, flags_spelling, is_null}
use Rattle.column_file.proofs.write.put_flags.Given as goal

abbrev pub invariant-loop-row : goal.invariant-loop-row
invariant-loop-row l = l.out.items ++ flags_spelling (map is_null (column l.i (drop l.row-index l.rows))) ≡ l.fn.out.items ++ flags_spelling (map is_null (column l.i l.rows))
