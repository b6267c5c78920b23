use Rattle.std.proofs.Common.{arith}
use Rattle.lake_values.proofs.FieldTies.{u32_tie}
use Rattle.lake_values.proofs.Standing.{told_stands, told_only}
use Rattle.lake_values.proofs.read.read_u32.Goals as goal

pub returns-clause-found : goal.returns-clause-found
returns-clause-found c = told_stands u32_tie c.args.bytes.now c.args.at c.u32_field.result (λ i. omega (arith, c.type_inv.bytes i)) c.u32_field.ensures.within c.u32_field.ensures.exact

pub returns-clause-only : goal.returns-clause-only
returns-clause-only c = told_only u32_tie c.args.bytes.now c.args.at c.u32_field.result c.u32_field.ensures.exact
