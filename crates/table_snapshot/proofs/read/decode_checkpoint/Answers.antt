use Rattle.std.proofs.Common.{arith}
use Rattle.lake_values.proofs.Standing.{given_spelled, given_fits, given_only_whole}
use Rattle.table_snapshot.proofs.CheckpointTies.{checkpoint_tie}
use Rattle.table_snapshot.proofs.read.decode_checkpoint.Goals as goal

pub returns-clause-found : goal.returns-clause-found
returns-clause-found c =
    given_spelled checkpoint_tie c.args.bytes.now c.read_checkpoint.result
    (λ i. omega (arith, c.type_inv.bytes i)) c.read_checkpoint.ensures

pub returns-clause-only : goal.returns-clause-only
returns-clause-only c =
    given_only_whole checkpoint_tie c.args.bytes.now c.read_checkpoint.result
    c.read_checkpoint.ensures

pub returns-clause-fits : goal.returns-clause-fits
returns-clause-fits c =
    given_fits checkpoint_tie c.args.bytes.now c.read_checkpoint.result
    (λ i. omega (arith, c.type_inv.bytes i)) c.read_checkpoint.ensures
