use Rattle.std.proofs.Common.{◌≡◌, ◌∷◌, map, take}
use Rattle.manifest_block.specs.declared.items.Item.TheVariants.{Remove}
use Rattle.op_write.specs.Writes.{add_item}
use Rattle.op_write.proofs.outputs.merge_items.Given as goal

abbrev pub invariant-loop-file : goal.invariant-loop-file
invariant-loop-file l =
    l.items.items ≡ add_item l.key l.rows.rows ∷ map (Remove l.key.table)
    (take l.file-index l.replaced)
