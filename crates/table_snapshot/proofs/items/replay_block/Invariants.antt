use Rattle.std.proofs.Common.{◌≡◌, drop}
use Rattle.table_snapshot.specs.Files.{items_of, replay}
use Rattle.table_snapshot.proofs.items.replay_block.Given as goal

abbrev pub invariant-loop-item : goal.invariant-loop-item
invariant-loop-item l =
    replay l.seq (items_of l.table (drop l.item-index l.item-items)) l.files ≡ replay l.seq
    (items_of l.table l.item-items) l.initial.files
