use Rattle.std.proofs.Common.{◌≡◌, ◌+◌, ◌≤◌, ◌++◌, length}
use Rattle.std.specs.Prelude.{vec_capacity, vec_len}
use Rattle.sql_model.specs.Changes.{additions_left}
use Rattle.lake_core.proofs.part_changes.put_left.Given as goal

abbrev pub invariant-loop-part : goal.invariant-loop-part
invariant-loop-part l = record {
  parts : l.left.items ++ additions_left l.own l.part-iterator.rest.items ≡ l.fn.left.items ++ additions_left l.own l.fn.added.items;
  len : vec_len l.left + length l.part-iterator.rest.items ≤ vec_len l.fn.left + vec_len l.fn.added;
  capacity : vec_capacity l.left ≡ vec_capacity l.fn.left;
}
