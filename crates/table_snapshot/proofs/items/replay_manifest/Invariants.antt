use Rattle.std.proofs.Common.{◌≡◌, drop}
use Rattle.std.specs.List.{flat_map}
use Rattle.table_snapshot.specs.Files.{items_of, items_in, replay}
use Rattle.table_snapshot.proofs.items.replay_manifest.Given as goal

abbrev pub invariant-loop-block : goal.invariant-loop-block
invariant-loop-block l =
    replay l.manifest.seq
    (items_of l.table (flat_map (λ block. block) (drop l.block-index l.block-items))) l.files ≡
    replay l.manifest.seq (items_of l.table (items_in l.manifest)) l.initial.files
