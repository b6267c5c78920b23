use Rattle.std.proofs.Common.{◌≡◌, ◌++◌, length, take, drop, codes}
use Rattle.std.specs.List.{flat_map}
use Rattle.lake_values.specs.Print.{quoted_byte}
use Rattle.lake_values.proofs.print.put_quoted.Given as goal

abbrev pub invariant-loop-byte : goal.invariant-loop-byte
invariant-loop-byte l = record {
  printed : l.out.items ++ flat_map quoted_byte (drop l.byte-index l.byte-items) ≡ l.fn.out.items ++ codes "'" ++ flat_map quoted_byte l.byte-items;
  kept : take (length l.fn.out.items) l.out.items ≡ l.fn.out.items;
}
