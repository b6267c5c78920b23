use Rattle.std.proofs.Common.{◌≡◌}
use Rattle.table_snapshot.proofs.by_name.ByName.into_files.Given as goal

abbrev pub invariant-loop-file : goal.invariant-loop-file
invariant-loop-file l = l.files.items ≡ l.yielded
