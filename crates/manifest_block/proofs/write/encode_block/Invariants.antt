use Rattle.std.proofs.Common.{◌≡◌, ◌++◌, length, take}
use Rattle.std.specs.Prelude.{codes}
use Rattle.std.specs.List.{flat_map}
use Rattle.lake_values.specs.Spelling.{u32_spelling}
use Rattle.manifest_block.specs.Spelling.{item_spelling}
use Rattle.manifest_block.proofs.write.encode_block.Given as goal

abbrev pub invariant-loop-item : goal.invariant-loop-item
invariant-loop-item l = l.out.items ≡ codes "LMB1" ++ u32_spelling (length l.items.items) ++ flat_map item_spelling (take l.item-index l.items.items)
