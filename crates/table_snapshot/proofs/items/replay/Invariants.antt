use Rattle.std.proofs.Common.{◌≡◌, drop}
use Rattle.table_snapshot.specs.Files.{replay_dated}
use Rattle.table_snapshot.proofs.items.replay.Given as goal

abbrev pub invariant-loop-manifest : goal.invariant-loop-manifest
invariant-loop-manifest l =
    replay_dated l.table (drop l.manifest-index l.manifest-items) l.files ≡ replay_dated l.table
    l.manifest-items l.initial.files
