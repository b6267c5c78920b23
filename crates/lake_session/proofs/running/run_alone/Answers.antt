use Rattle.std.proofs.Common.{false, subst}
use Rattle.lake_core.specs.Facts.{beginning, commitment}
use Rattle.lake_core.specs.Lakes.{state_of}
use Rattle.lake_model.specs.Refusals.{result_of}
use Rattle.lake_model.specs.State.{transaction}
use Rattle.lake_session.specs.Runs.{IsOutcome, outcome}
use Rattle.lake_session.specs.declared.steps.Answered.{Answered}
use Rattle.lake_session.proofs.Chains.{at_error, begun_first, begun_part, begun_running, begun_same, begun_second, leaves_records, leaves_same, leaves_then, ran_alone, ran_running, records_of, refused_alone}
use Rattle.lake_session.proofs.States.{none_there}
use Rattle.lake_session.proofs.running.run_alone.Goals as goal

pub run_inside-requires-clause-running : goal.run_inside-requires-clause-running
run_inside-requires-clause-running g c κs within =
    let old = c.args.lake.now in
    let begun = beginning (state_of old) c.args.who.session false in
    let first = records_of old c.begin.new.self c.args.who begun c.requires.session.unreserved c.in_ok-begin.ensures.entry in
    begun_running old c.begin.new.self c.args.who c.args.statement.now c.requires.rows (none_there (transaction (state_of old) c.args.who.session) c.requires.outside) first

pub run_inside-requires-clause-part : goal.run_inside-requires-clause-part
run_inside-requires-clause-part g c κs within =
    let old = c.args.lake.now in
    let begun = beginning (state_of old) c.args.who.session false in
    let first = records_of old c.begin.new.self c.args.who begun c.requires.session.unreserved c.in_ok-begin.ensures.entry in
    begun_part old c.begin.new.self c.args.who c.args.statement.now c.requires.rows (none_there (transaction (state_of old) c.args.who.session) c.requires.outside) first

pub returns-in_err-reply-clause-leaves : goal.returns-in_err-reply-clause-leaves
returns-in_err-reply-clause-leaves g c =
    let old = c.args.lake.now in
    let begun = beginning (state_of old) c.args.who.session false in
    let first = records_of old c.begin.new.self c.args.who begun c.requires.session.unreserved c.in_ok-begin.ensures.entry in
    leaves_then old c.begin.new.self c.run_inside.new.lake c.args.who.session (leaves_records old c.begin.new.self c.args.who begun first)
    (leaves_same c.begin.new.self c.run_inside.new.lake c.args.who.session c.in_err-reply.ensures.err)

pub returns-in-Refused-clause-ran : goal.returns-in-Refused-clause-ran
returns-in-Refused-clause-ran g c =
    let old = c.args.lake.now in
    let begun = beginning (state_of old) c.args.who.session false in
    let first = records_of old c.begin.new.self c.args.who begun c.requires.session.unreserved c.in_ok-begin.ensures.entry in
    let P : Answered → Type 0 = λ a. IsOutcome a (result_of (state_of c.begin.new.self) c.args.who.session c.args.statement.now) in
    refused_alone old c.begin.new.self c.args.who c.args.statement.now c.requires.rows (none_there (transaction (state_of old) c.args.who.session) c.requires.outside) first
    c.run_inside.new.lake c.in-Refused.reply c.in_ok-reply.ensures.entry (subst P c.in-Refused.is c.in_ok-reply.ensures.reply)

pub returns-in-Refused-clause-leaves : goal.returns-in-Refused-clause-leaves
returns-in-Refused-clause-leaves g c =
    let old = c.args.lake.now in
    let begun = beginning (state_of old) c.args.who.session false in
    let first = records_of old c.begin.new.self c.args.who begun c.requires.session.unreserved c.in_ok-begin.ensures.entry in
    leaves_then old c.begin.new.self c.run_inside.new.lake c.args.who.session (leaves_records old c.begin.new.self c.args.who begun first)
    (leaves_records c.begin.new.self c.run_inside.new.lake c.args.who (outcome (result_of (state_of c.begin.new.self) c.args.who.session c.args.statement.now)) c.in_ok-reply.ensures.entry)

pub end-requires-clause-running : goal.end-requires-clause-running
end-requires-clause-running g c κs within =
    let old = c.args.lake.now in
    let begun = beginning (state_of old) c.args.who.session false in
    let first = records_of old c.begin.new.self c.args.who begun c.requires.session.unreserved c.in_ok-begin.ensures.entry in
    let P : Answered → Type 0 = λ a. IsOutcome a (result_of (state_of c.begin.new.self) c.args.who.session c.args.statement.now) in
    ran_running old c.begin.new.self c.args.who c.args.statement.now c.requires.rows (none_there (transaction (state_of old) c.args.who.session) c.requires.outside) first
    c.run_inside.new.lake c.in-Ran.reply c.in_ok-reply.ensures.entry (subst P c.in-Ran.is c.in_ok-reply.ensures.reply)

pub returns-in_err-end-in-Ran-clause-leaves : goal.returns-in_err-end-in-Ran-clause-leaves
returns-in_err-end-in-Ran-clause-leaves g c =
    let old = c.args.lake.now in
    let begun = beginning (state_of old) c.args.who.session false in
    let first = records_of old c.begin.new.self c.args.who begun c.requires.session.unreserved c.in_ok-begin.ensures.entry in
    leaves_then old c.begin.new.self c.end.new.lake c.args.who.session (leaves_records old c.begin.new.self c.args.who begun first)
    (leaves_then c.begin.new.self c.run_inside.new.lake c.end.new.lake c.args.who.session
    (leaves_records c.begin.new.self c.run_inside.new.lake c.args.who (outcome (result_of (state_of c.begin.new.self) c.args.who.session c.args.statement.now)) c.in_ok-reply.ensures.entry)
    (leaves_same c.run_inside.new.lake c.end.new.lake c.args.who.session c.in_err-end-in-Ran.ensures.err))

pub returns-in_ok-end-in-Ran-clause-ran : goal.returns-in_ok-end-in-Ran-clause-ran
returns-in_ok-end-in-Ran-clause-ran g c =
    let old = c.args.lake.now in
    let begun = beginning (state_of old) c.args.who.session false in
    let first = records_of old c.begin.new.self c.args.who begun c.requires.session.unreserved c.in_ok-begin.ensures.entry in
    let P : Answered → Type 0 = λ a. IsOutcome a (result_of (state_of c.begin.new.self) c.args.who.session c.args.statement.now) in
    ran_alone old c.begin.new.self c.args.who c.args.statement.now c.requires.rows (none_there (transaction (state_of old) c.args.who.session) c.requires.outside) first
    c.run_inside.new.lake c.in-Ran.reply c.in_ok-reply.ensures.entry c.end.new.lake c.in_ok-end-in-Ran.ensures.entry (subst P c.in-Ran.is c.in_ok-reply.ensures.reply)
    c.in_ok-end-in-Ran.field-0 c.ended_reply.result c.in_ok-end-in-Ran.ensures.reply c.ended_reply.ensures

pub returns-in_ok-end-in-Ran-clause-leaves : goal.returns-in_ok-end-in-Ran-clause-leaves
returns-in_ok-end-in-Ran-clause-leaves g c =
    let old = c.args.lake.now in
    let begun = beginning (state_of old) c.args.who.session false in
    let first = records_of old c.begin.new.self c.args.who begun c.requires.session.unreserved c.in_ok-begin.ensures.entry in
    leaves_then old c.begin.new.self c.end.new.lake c.args.who.session (leaves_records old c.begin.new.self c.args.who begun first)
    (leaves_then c.begin.new.self c.run_inside.new.lake c.end.new.lake c.args.who.session
    (leaves_records c.begin.new.self c.run_inside.new.lake c.args.who (outcome (result_of (state_of c.begin.new.self) c.args.who.session c.args.statement.now)) c.in_ok-reply.ensures.entry)
    (leaves_records c.run_inside.new.lake c.end.new.lake c.args.who (commitment (state_of c.run_inside.new.lake) c.args.who.session) c.in_ok-end-in-Ran.ensures.entry))

pub returns-in_err-begin-clause-begun : goal.returns-in_err-begin-clause-begun
returns-in_err-begin-clause-begun g c =
    at_error c.from_residual.result (begun_same c.args.lake.now c.begin.new.self c.args.who c.args.statement.now c.in_err-begin.ensures.err)

pub returns-in_err-reply-clause-begun : goal.returns-in_err-reply-clause-begun
returns-in_err-reply-clause-begun g c =
    let old = c.args.lake.now in
    let begun = beginning (state_of old) c.args.who.session false in
    let first = records_of old c.begin.new.self c.args.who begun c.requires.session.unreserved c.in_ok-begin.ensures.entry in
    at_error c.from_residual-in_err-reply.result
    (begun_first old c.begin.new.self c.args.who c.args.statement.now c.requires.rows (none_there (transaction (state_of old) c.args.who.session) c.requires.outside) first
    c.run_inside.new.lake c.in_err-reply.ensures.err)

pub returns-in_err-end-in-Ran-clause-begun : goal.returns-in_err-end-in-Ran-clause-begun
returns-in_err-end-in-Ran-clause-begun g c =
    let old = c.args.lake.now in
    let begun = beginning (state_of old) c.args.who.session false in
    let first = records_of old c.begin.new.self c.args.who begun c.requires.session.unreserved c.in_ok-begin.ensures.entry in
    let P : Answered → Type 0 = λ a. IsOutcome a (result_of (state_of c.begin.new.self) c.args.who.session c.args.statement.now) in
    at_error c.from_residual-in_err-end-in-Ran.result
    (begun_second old c.begin.new.self c.args.who c.args.statement.now c.requires.rows (none_there (transaction (state_of old) c.args.who.session) c.requires.outside) first
    c.run_inside.new.lake c.in-Ran.reply c.in_ok-reply.ensures.entry c.end.new.lake (subst P c.in-Ran.is c.in_ok-reply.ensures.reply) c.in_err-end-in-Ran.ensures.err)
