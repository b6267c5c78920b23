use Rattle.std.proofs.Common.{◌≡◌, ◌++◌, length, take, drop}
use Rattle.std.specs.List.{flat_map}
use Rattle.lake_values.specs.Print.{later_value_text}
use Rattle.lake_values.proofs.print.put_others.Given as goal

abbrev pub invariant-loop-value : goal.invariant-loop-value
invariant-loop-value l = record {
  printed : l.out.items ++ flat_map later_value_text (drop l.value-index l.values) ≡ l.fn.out.items ++ flat_map later_value_text l.values;
  kept : take (length l.fn.out.items) l.out.items ≡ l.fn.out.items;
}
