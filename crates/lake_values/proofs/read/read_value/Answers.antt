use Rattle.std.proofs.Common.{arith}
use Rattle.lake_values.proofs.FieldTies.{value_tie}
use Rattle.lake_values.proofs.Standing.{given_stands, given_only}
use Rattle.lake_values.proofs.read.read_value.Goals as goal

pub returns-clause-found : goal.returns-clause-found
returns-clause-found c = given_stands value_tie c.args.bytes.now c.args.at c.value_field.result (λ i. omega (arith, c.type_inv.bytes i)) c.value_field.ensures.within c.value_field.ensures.exact

pub returns-clause-only : goal.returns-clause-only
returns-clause-only c = given_only value_tie c.args.bytes.now c.args.at c.value_field.result c.value_field.ensures.exact
