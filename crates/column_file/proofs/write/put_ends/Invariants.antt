use Rattle.std.proofs.Common.{◌≡◌, ◌++◌, drop}
use Rattle.std.specs.List.{flat_map}
use Rattle.lake_values.specs.Spelling.{u64_spelling}
use Rattle.column_file.specs.Spelling.{column, ends_from}
use Rattle.column_file.proofs.write.put_ends.Given as goal

abbrev pub invariant-loop-row : goal.invariant-loop-row
invariant-loop-row l = l.out.items ++ flat_map u64_spelling (ends_from l.end (column l.i (drop l.row-index l.rows))) ≡ l.fn.out.items ++ flat_map u64_spelling (ends_from 0 (column l.i l.rows))
