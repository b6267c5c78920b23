use Rattle.std.proofs.Common.{◌≡◌, take}
use Rattle.table_snapshot.proofs.items.by_name.Given as goal

abbrev pub invariant-loop-file : goal.invariant-loop-file
invariant-loop-file l = l.files ≡ take l.file-index l.file-items
