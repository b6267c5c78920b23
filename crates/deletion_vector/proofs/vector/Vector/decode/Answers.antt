use Rattle.std.proofs.Common.{arith}
use Rattle.lake_values.proofs.Standing.{given_spelled, given_fits, given_only_whole}
use Rattle.deletion_vector.proofs.VectorTie.{vector_tie}
use Rattle.deletion_vector.proofs.vector.Vector.decode.Goals as goal

pub returns-clause-found : goal.returns-clause-found
returns-clause-found c = given_spelled vector_tie c.args.bytes.now c.decoded.result (λ i. omega (arith, c.type_inv.bytes i)) c.decoded.ensures

pub returns-clause-only : goal.returns-clause-only
returns-clause-only c = given_only_whole vector_tie c.args.bytes.now c.decoded.result c.decoded.ensures

pub returns-clause-fits : goal.returns-clause-fits
returns-clause-fits c = given_fits vector_tie c.args.bytes.now c.decoded.result (λ i. omega (arith, c.type_inv.bytes i)) c.decoded.ensures
