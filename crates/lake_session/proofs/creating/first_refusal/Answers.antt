use Rattle.std.proofs.Common.{Some, true, refl, sym, ◌∙◌}
use Rattle.lake_core.specs.Lakes.{state_of}
use Rattle.lake_model.specs.State.{transaction}
use Rattle.sql_model.specs.declared.statements.Statement.TheVariants.{Create}
use Rattle.lake_session.proofs.Answering.{refused_bound}
use Rattle.lake_session.proofs.Columns.{refused_by}
use Rattle.lake_session.proofs.Parts.{found_none}
use Rattle.lake_session.proofs.creating.first_refusal.Goals as goal

pub returns : goal.returns
returns g c columns distribution is_refused =
    let st = state_of c.args.lake.now in
    let outside = found_none (transaction st c.args.session) c.transaction.result true c.transaction.ensures (sym c.is_some.ensures ∙ c.if-is_some.false) refl in
    refused_bound st c.args.table.now columns distribution c.args.session outside (sym c.has_table.ensures ∙ c.if-has_table.false) (Some c.args.cause)
    (refused_by (Create c.args.table.now columns distribution) c.args.cause is_refused)
