use Rattle.std.proofs.Common.{arith}
use Rattle.lake_values.proofs.Standing.{whole_found}
use Rattle.deletion_vector.proofs.VectorTie.{vector_tie}
use Rattle.deletion_vector.proofs.vector.decoded.Goals as goal

pub invariant_of-result : goal.invariant_of-result
invariant_of-result c = (whole_found vector_tie c.args.bytes.now c.in_ok-positions.positions.items (λ i. omega (arith, c.type_inv.bytes i)) c.in_ok-positions.ensures).1.ascending
