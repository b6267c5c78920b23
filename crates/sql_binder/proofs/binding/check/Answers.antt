use Rattle.std.proofs.Common.{Err, rules}
use Rattle.sql_model.specs.Binding.{refused}
use Rattle.sql_binder.specs.Judging.{Judges}
use Rattle.sql_binder.proofs.Noting.{judged_by_names}
use Rattle.sql_binder.proofs.binding.check.Goals as goal

pub returns-in_err-check_names : goal.returns-in_err-check_names
returns-in_err-check_names c =
    let judged : Judges {X = Unit {0}} (Err c.in_err-check_names.field-0.0) (refused c.args.schemas.now c.args.statement.now) =
    judged_by_names c.args.schemas.now c.args.statement.now c.in_err-check_names.field-0.0 c.in_err-check_names.ensures in
    search rules
