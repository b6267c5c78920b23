use Rattle.std.proofs.Common.{sym, subst}
use Rattle.lake_core.specs.Lakes.{state_of}
use Rattle.lake_model.specs.State.{transaction}
use Rattle.lake_model.specs.declared.entries.Fact.TheVariants as fact
use Rattle.sql_model.specs.declared.replies.Refusal.TheVariants.{NoTransaction}
use Rattle.sql_model.specs.declared.replies.Reply.{Reply}
use Rattle.sql_model.specs.declared.statements.Statement.TheVariants as statement
use Rattle.lake_session.specs.Runs.{Ran, numbered}
use Rattle.lake_session.proofs.Answering.{roll_back_answers, roll_back_outside}
use Rattle.lake_session.proofs.Chains.{leaves_by, leaves_records, leaves_same, ran_by, ran_from, records_rolled}
use Rattle.lake_session.proofs.Parts.{found_none}
use Rattle.lake_session.proofs.running.roll_back.Goals as goal

pub returns-then-is_none-clause-ran : goal.returns-then-is_none-clause-ran
returns-then-is_none-clause-ran g c =
    let lake = c.args.lake.now in
    let outside = found_none (transaction (state_of lake) c.args.who.session) c.transaction.result c.is_none.result c.transaction.ensures c.is_none.ensures c.if-is_none.true in
    ran_by lake c.refuse.new.self c.args.who statement.RollBack (fact.Refused NoTransaction) c.refuse.result c.requires.unreserved (roll_back_outside (state_of lake) c.args.who outside) c.refuse.ensures.entry c.refuse.ensures.reply

pub returns-then-is_none-clause-leaves : goal.returns-then-is_none-clause-leaves
returns-then-is_none-clause-leaves g c =
    leaves_by c.args.lake.now c.refuse.new.self c.args.who (fact.Refused NoTransaction) c.refuse.result c.requires.unreserved c.refuse.ensures.entry c.refuse.ensures.err

pub returns-in_err-reserve-clause-leaves : goal.returns-in_err-reserve-clause-leaves
returns-in_err-reserve-clause-leaves g c = leaves_same c.args.lake.now c.reserve.new.self c.args.who.session c.in_err-reserve.ensures.err

pub returns-clause-ran : goal.returns-clause-ran
returns-clause-ran g c =
    let lake = c.args.lake.now in
    let records = records_rolled lake c.reserve.new.self c.roll_back.new.self c.args.who c.in_ok-reserve.ensures.entries c.in_ok-reserve.ensures.others c.roll_back.ensures.entry in
    let P : Reply → Type 0 = λ said. Ran lake c.roll_back.new.self (numbered c.args.who statement.RollBack) said in
    subst P (sym c.roll_back.ensures.reply)
    (ran_from lake c.roll_back.new.self c.args.who statement.RollBack fact.RolledBack _ _ records.entries records.legal records.unreserved (roll_back_answers (state_of lake) c.args.who))

pub returns-clause-leaves : goal.returns-clause-leaves
returns-clause-leaves g c =
    leaves_records c.args.lake.now c.roll_back.new.self c.args.who fact.RolledBack
    (records_rolled c.args.lake.now c.reserve.new.self c.roll_back.new.self c.args.who c.in_ok-reserve.ensures.entries c.in_ok-reserve.ensures.others c.roll_back.ensures.entry)
