use Rattle.std.proofs.Common.{◌≡◌, ◌≤◌, ◌-◌, suc, length, drop}
use Rattle.manifest_block.specs.Reading.{blocks_at, manifest_of}
use Rattle.manifest_block.proofs.Blocks.{with_blocks}
use Rattle.manifest_block.proofs.read.read_blocks.Given as goal

abbrev pub invariant-loop-blocks : goal.invariant-loop-blocks
invariant-loop-blocks l = record {
  so_far : with_blocks l.blocks.items (blocks_at (suc (length l.bytes) - length l.blocks.items) l.at (drop l.at l.bytes)) ≡ manifest_of l.bytes;
  few : length l.blocks.items ≤ l.at;
  within : l.at ≤ length l.bytes;
}

abbrev pub decreases-loop-blocks : goal.decreases-loop-blocks
decreases-loop-blocks l = length l.bytes - l.at
