use Rattle.std.proofs.Common.{map}
use Rattle.lake_outside.specs.Ports.{told_block}
use Rattle.op_write.proofs.Staged.{AreFirst, IsQuiet}
use Rattle.op_write.proofs.blocks.stage_blocks.Given as goal

abbrev pub invariant-loop-place : goal.invariant-loop-place
invariant-loop-place g l =
    AreFirst g.P.Port.tells (map
    (told_block g.P.Block.Staged.name g.P.Block.Staged.number g.P.Block.Staged.bytes)
    l.blocks.items) l.fn.blob l.place
    × IsQuiet (g.P.Port.faults l.fn.port) (g.P.Port.faults l.port) (g.P.Port.listings l.fn.port)
    (g.P.Port.listings l.port) (g.P.Port.deletions l.fn.port) (g.P.Port.deletions l.port)
