use Rattle.std.proofs.Common.{◌≡◌, ◌++◌, length, take}
use Rattle.std.specs.Prelude.{codes}
use Rattle.std.specs.List.{flat_map}
use Rattle.lake_values.specs.Spelling.{u64_spelling}
use Rattle.deletion_vector.proofs.vector.Vector.encode.Given as goal

abbrev pub invariant-loop-position : goal.invariant-loop-position
invariant-loop-position l = l.out.items ≡ codes "LDV1" ++ u64_spelling (length l.position-items) ++ flat_map u64_spelling (take l.position-index l.position-items)
