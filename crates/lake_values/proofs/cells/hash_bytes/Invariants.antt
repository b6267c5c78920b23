use Rattle.std.proofs.Common.{◌≡◌, drop}
use Rattle.lake_values.specs.Cells.{hash_from}
use Rattle.lake_values.proofs.cells.hash_bytes.Given as goal

abbrev pub invariant-loop-byte : goal.invariant-loop-byte
invariant-loop-byte l = hash_from l.hash (drop l.byte-index l.bytes) ≡ hash_from l.fn.hash l.bytes
