use Rattle.std.proofs.Common.{arith}
use Rattle.manifest_block.proofs.ManifestLaws.{given_spelled, given_fits, given_only}
use Rattle.manifest_block.proofs.read.decode_manifest.Goals as goal

pub returns-clause-found : goal.returns-clause-found
returns-clause-found c = given_spelled c.args.bytes.now c.read_blocks.result (λ i. omega (arith, c.type_inv.bytes i)) c.read_blocks.ensures

pub returns-clause-fits : goal.returns-clause-fits
returns-clause-fits c = given_fits c.args.bytes.now c.read_blocks.result (λ i. omega (arith, c.type_inv.bytes i)) c.read_blocks.ensures

pub returns-clause-only : goal.returns-clause-only
returns-clause-only c = given_only c.args.bytes.now c.read_blocks.result c.read_blocks.ensures
