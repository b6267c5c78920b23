use Rattle.std.proofs.Common.{◌≡◌, ◌++◌, length, take}
use Rattle.std.specs.Prelude.{codes}
use Rattle.std.specs.List.{flat_map}
use Rattle.lake_values.specs.Spelling.{u64_spelling, text_spelling}
use Rattle.table_snapshot.specs.Spelling.{file_spelling}
use Rattle.table_snapshot.proofs.write.checkpoint_bytes.Given as goal

abbrev pub invariant-loop-file : goal.invariant-loop-file
invariant-loop-file l =
    l.out.items ≡ codes "LCP1" ++ text_spelling l.table ++ u64_spelling l.at ++ u64_spelling
    (length l.file-items) ++ flat_map file_spelling (take l.file-index l.file-items)
