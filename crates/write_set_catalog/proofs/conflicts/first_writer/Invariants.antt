use Rattle.std.proofs.Common.{◌≡◌, drop}
use Rattle.std.specs.Prelude.{find}
use Rattle.write_set_catalog.specs.Conflicts.{writes_one}
use Rattle.write_set_catalog.proofs.conflicts.first_writer.Given as goal

abbrev pub invariant-loop-commit : goal.invariant-loop-commit
invariant-loop-commit g l =
    find (writes_one l.marks) (drop l.commit-index l.commits) ≡ find (writes_one l.marks) l.commits
