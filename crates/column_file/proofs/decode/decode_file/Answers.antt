use Rattle.std.proofs.Common.{arith}
use Rattle.lake_values.proofs.Standing.{given_spelled, given_fits, given_only_whole}
use Rattle.column_file.proofs.FileTie.{file_tie}
use Rattle.column_file.proofs.decode.decode_file.Goals as goal

pub returns-clause-found : goal.returns-clause-found
returns-clause-found c = given_spelled file_tie c.args.bytes.now c.read_file.result (λ i. omega (arith, c.type_inv.bytes i)) c.read_file.ensures

pub returns-clause-fits : goal.returns-clause-fits
returns-clause-fits c = given_fits file_tie c.args.bytes.now c.read_file.result (λ i. omega (arith, c.type_inv.bytes i)) c.read_file.ensures

pub returns-clause-only : goal.returns-clause-only
returns-clause-only c = given_only_whole file_tie c.args.bytes.now c.read_file.result c.read_file.ensures
