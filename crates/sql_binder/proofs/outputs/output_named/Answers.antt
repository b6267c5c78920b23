use Rattle.std.proofs.Common.{◌∙◌}
use Rattle.sql_binder.proofs.OutputNames.{star_named}
use Rattle.sql_binder.proofs.outputs.output_named.Goals as goal

pub returns-then-query : goal.returns-then-query
returns-then-query c = c.named.ensures ∙ star_named c.args.scope.now c.args.query.now c.args.name.now c.if-query.true
