use Rattle.std.proofs.Common.{◌≡◌, ◌≤◌, length, drop, replicate, None}
use Rattle.lake_values.specs.Reading.{each_at}
use Rattle.lake_values.proofs.Loops.{with_front}
use Rattle.manifest_block.specs.Reading.{item_at, items_at}
use Rattle.manifest_block.proofs.read.read_items.Given as goal

abbrev pub invariant-loop : goal.invariant-loop
invariant-loop l = record {
  so_far : with_front l.items.items (each_at (λ before place. item_at) None (drop l.counter (replicate l.count (tt {0}))) l.next (drop l.next l.bytes)) ≡ items_at l.count l.at (drop l.at l.bytes);
  within : l.next ≤ length l.bytes;
  moves : l.at ≤ l.next;
}
