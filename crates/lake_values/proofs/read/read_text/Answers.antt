use Rattle.std.proofs.Common.{arith}
use Rattle.lake_values.proofs.FieldTies.{text_tie}
use Rattle.lake_values.proofs.Standing.{given_stands, given_only}
use Rattle.lake_values.proofs.read.read_text.Goals as goal

pub returns-clause-found : goal.returns-clause-found
returns-clause-found c = given_stands text_tie c.args.bytes.now c.args.at c.text_field.result (λ i. omega (arith, c.type_inv.bytes i)) c.text_field.ensures.within c.text_field.ensures.exact

pub returns-clause-only : goal.returns-clause-only
returns-clause-only c = given_only text_tie c.args.bytes.now c.args.at c.text_field.result c.text_field.ensures.exact
