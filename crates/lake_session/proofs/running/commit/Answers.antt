use Rattle.std.proofs.Common.{true, false, refl, ap}
use Rattle.std.specs.Prelude.{is_some}
use Rattle.lake_core.specs.Facts.{commitment}
use Rattle.lake_core.specs.Lakes.{state_of}
use Rattle.lake_model.specs.State.{transaction}
use Rattle.lake_model.specs.declared.entries.Fact.TheVariants as fact
use Rattle.sql_model.specs.declared.replies.Refusal.TheVariants.{NoTransaction}
use Rattle.sql_model.specs.declared.statements.Statement.TheVariants as statement
use Rattle.lake_session.proofs.Answering.{commit_answers, commit_outside}
use Rattle.lake_session.proofs.Chains.{leaves_by, leaves_ended, ran_by, ran_ended}
use Rattle.lake_session.proofs.Parts.{found_none, found_some}
use Rattle.lake_session.proofs.running.commit.Goals as goal

pub returns-in-None-clause-ran : goal.returns-in-None-clause-ran
returns-in-None-clause-ran g c =
    let lake = c.args.lake.now in
    let outside = found_none (transaction (state_of lake) c.args.who.session) c.transaction.result true c.transaction.ensures (ap is_some c.in-None.is) refl in
    ran_by lake c.refuse.new.self c.args.who statement.Commit (fact.Refused NoTransaction) c.refuse.result c.requires.unreserved (commit_outside (state_of lake) c.args.who outside) c.refuse.ensures.entry c.refuse.ensures.reply

pub returns-in-None-clause-leaves : goal.returns-in-None-clause-leaves
returns-in-None-clause-leaves g c =
    leaves_by c.args.lake.now c.refuse.new.self c.args.who (fact.Refused NoTransaction) c.refuse.result c.requires.unreserved c.refuse.ensures.entry c.refuse.ensures.err

pub returns-in-Some-clause-ran : goal.returns-in-Some-clause-ran
returns-in-Some-clause-ran g c =
    let lake = c.args.lake.now in
    let inside = found_some (transaction (state_of lake) c.args.who.session) c.transaction.result false c.transaction.ensures (ap is_some c.in-Some.is) refl in
    ran_ended lake c.end.new.lake c.args.who statement.Commit (commitment (state_of lake) c.args.who.session) c.end.result (commit_answers (state_of lake) c.args.who inside.0 inside.1) c.end.ensures.entry c.end.ensures.reply

pub returns-in-Some-clause-leaves : goal.returns-in-Some-clause-leaves
returns-in-Some-clause-leaves g c =
    leaves_ended c.args.lake.now c.end.new.lake c.args.who (commitment (state_of c.args.lake.now) c.args.who.session) c.end.result c.end.ensures.entry c.end.ensures.err
