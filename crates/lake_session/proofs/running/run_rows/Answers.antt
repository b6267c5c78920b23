use Rattle.std.proofs.Common.{sym}
use Rattle.lake_core.specs.Lakes.{state_of}
use Rattle.lake_model.specs.Refusals.{result_of}
use Rattle.lake_model.specs.State.{transaction}
use Rattle.lake_session.specs.Runs.{outcome}
use Rattle.lake_session.proofs.Chains.{at_error, begun_same, leaves_records, leaves_same, ran_inside}
use Rattle.lake_session.proofs.Parts.{found_some}
use Rattle.lake_session.proofs.running.run_rows.Goals as goal

pub returns-clause-ran : goal.returns-clause-ran
returns-clause-ran g c =
    let old = c.args.lake.now in
    let inside = found_some (transaction (state_of old) c.args.who.session) c.transaction.result c.is_none.result c.transaction.ensures c.is_none.ensures c.if-is_none.false in
    ran_inside old c.run_inside.new.lake c.args.who c.args.statement.now c.reply.result c.requires.rows inside.0 inside.1 c.requires.session.explicit c.in_ok-run_inside.ensures.entry
    c.in_ok-run_inside.field-0 c.in_ok-run_inside.ensures.reply (sym c.reply.ensures)

pub returns-in_err-run_inside-clause-leaves : goal.returns-in_err-run_inside-clause-leaves
returns-in_err-run_inside-clause-leaves g c = leaves_same c.args.lake.now c.run_inside.new.lake c.args.who.session c.in_err-run_inside.ensures.err

pub returns-clause-leaves : goal.returns-clause-leaves
returns-clause-leaves g c =
    leaves_records c.args.lake.now c.run_inside.new.lake c.args.who (outcome (result_of (state_of c.args.lake.now) c.args.who.session c.args.statement.now)) c.in_ok-run_inside.ensures.entry

pub returns-in_err-run_inside-clause-begun : goal.returns-in_err-run_inside-clause-begun
returns-in_err-run_inside-clause-begun g c =
    at_error c.from_residual.result (begun_same c.args.lake.now c.run_inside.new.lake c.args.who c.args.statement.now c.in_err-run_inside.ensures.err)
