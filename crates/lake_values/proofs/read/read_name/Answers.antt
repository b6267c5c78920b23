use Rattle.std.proofs.Common.{arith}
use Rattle.lake_values.proofs.FieldTies.{name_tie}
use Rattle.lake_values.proofs.Standing.{told_stands, told_only}
use Rattle.lake_values.proofs.read.read_name.Goals as goal

pub returns-clause-found : goal.returns-clause-found
returns-clause-found c = told_stands (name_tie c.args.kind) c.args.bytes.now c.args.at c.name_field.result (λ i. omega (arith, c.type_inv.bytes i)) c.name_field.ensures.within c.name_field.ensures.exact

pub returns-clause-only : goal.returns-clause-only
returns-clause-only c = told_only (name_tie c.args.kind) c.args.bytes.now c.args.at c.name_field.result c.name_field.ensures.exact
