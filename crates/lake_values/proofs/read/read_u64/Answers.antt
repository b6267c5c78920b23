use Rattle.std.proofs.Common.{arith}
use Rattle.lake_values.proofs.FieldTies.{u64_tie}
use Rattle.lake_values.proofs.Standing.{told_stands, told_only}
use Rattle.lake_values.proofs.read.read_u64.Goals as goal

pub returns-clause-found : goal.returns-clause-found
returns-clause-found c = told_stands u64_tie c.args.bytes.now c.args.at c.u64_field.result (λ i. omega (arith, c.type_inv.bytes i)) c.u64_field.ensures.within c.u64_field.ensures.exact

pub returns-clause-only : goal.returns-clause-only
returns-clause-only c = told_only u64_tie c.args.bytes.now c.args.at c.u64_field.result c.u64_field.ensures.exact
