use Rattle.std.proofs.Common.{[], sym, subst}
use Rattle.std.specs.Prelude.{IfOk}
use Rattle.lake_values.specs.Schemas.{TableColumns}
use Rattle.sql_model.specs.declared.bound.Bound.{Bound}
use Rattle.lake_model.specs.declared.entries.Fact.TheVariants as fact
use Rattle.sql_model.specs.declared.replies.Refusal.{Refusal}
use Rattle.sql_model.specs.declared.statements.Statement.{Statement}
use Rattle.sql_model.specs.declared.statements.Statement.TheVariants.{Create}
use Rattle.sql_model.specs.Binding.{IsRefused}
use Rattle.lake_core.specs.Facts.{answer, creation}
use Rattle.lake_core.specs.Lakes.{state_of}
use Rattle.lake_session.specs.Runs.{Ran, numbered}
use Rattle.lake_session.proofs.Answering.{Answers, create_allowed, create_answers, create_refused}
use Rattle.lake_session.proofs.Chains.{leaves_by, ran_by}
use Rattle.lake_session.proofs.Columns.{distinct_of, none_refused, refused_same}
use Rattle.lake_session.proofs.Refused.{bind_refused}
use Rattle.lake_session.proofs.running.create.Goals as goal

pub schema_of-requires-clause-distinct : goal.schema_of-requires-clause-distinct
schema_of-requires-clause-distinct g c =
    distinct_of c.args.table.now c.args.columns.now c.args.distribution.now
    (none_refused c.args.statement.now (Create c.args.table.now c.args.columns.now c.args.distribution.now) c.empty.result c.in-Ok.field-0 c.requires.statement c.empty.ensures c.in-Ok.ensures.bound)

pub returns-in-Ok-clause-ran : goal.returns-in-Ok-clause-ran
returns-in-Ok-clause-ran g c =
    let lake = c.args.lake.now in
    let st = state_of lake in
    let x = Create c.args.table.now c.args.columns.now c.args.distribution.now in
    let schema = c.in_ok-schema-in-Ok.schema in
    let none = none_refused c.args.statement.now x c.empty.result c.in-Ok.field-0 c.requires.statement c.empty.ensures c.in-Ok.ensures.bound in
    let P : TableColumns → Type 0 = λ s. Answers st c.args.who x (creation st c.args.who.session c.args.table.now s) [] (answer (creation st c.args.who.session c.args.table.now s)) in
    let Q : Statement → Type 0 = λ y. IfOk c.create.result (λ said. Ran lake c.create.new.self (numbered c.args.who y) said) in
    let answers = subst P (sym c.in_ok-schema-in-Ok.ensures) (create_answers st c.args.who c.args.table.now c.args.columns.now c.args.distribution.now c.requires.session.explicit none) in
    subst Q (sym c.requires.statement)
    (ran_by lake c.create.new.self c.args.who x (creation st c.args.who.session c.args.table.now schema) c.create.result c.requires.session.unreserved answers c.create.ensures.entry c.create.ensures.reply)

pub returns-in-Ok-clause-leaves : goal.returns-in-Ok-clause-leaves
returns-in-Ok-clause-leaves g c =
    leaves_by c.args.lake.now c.create.new.self c.args.who (creation (state_of c.args.lake.now) c.args.who.session c.args.table.now c.in_ok-schema-in-Ok.schema) c.create.result c.requires.session.unreserved
    c.create.ensures.entry c.create.ensures.err

pub refuse-requires-clause-allowed : goal.refuse-requires-clause-allowed
refuse-requires-clause-allowed g c κs within =
    let st = state_of c.args.lake.now in
    let x = Create c.args.table.now c.args.columns.now c.args.distribution.now in
    let P : Refusal → Type 0 = λ cause. IsRefused x [] cause in
    let is_refused = refused_same c.args.statement.now x c.empty.result c.in-Err-Refused.cause c.requires.statement c.empty.ensures
    (bind_refused Bound c.in-Err-Refused.field-0 c.in-Err-Refused.cause (λ cause. IsRefused c.args.statement.now c.empty.result cause) c.in-Err-Refused.field-0-is c.in-Err-Refused.ensures.refused) in
    create_allowed st c.args.table.now c.args.columns.now c.args.distribution.now c.args.who.session c.in_ok-cause-in-Err-Refused.cause c.requires.session.explicit
    (c.in_ok-cause-in-Err-Refused.ensures c.args.columns.now c.args.distribution.now (subst P (sym c.in-Err-Refused.cause-is) is_refused))

pub returns-in-Err-Refused-clause-ran : goal.returns-in-Err-Refused-clause-ran
returns-in-Err-Refused-clause-ran g c =
    let lake = c.args.lake.now in
    let st = state_of lake in
    let x = Create c.args.table.now c.args.columns.now c.args.distribution.now in
    let P : Refusal → Type 0 = λ cause. IsRefused x [] cause in
    let Q : Statement → Type 0 = λ y. IfOk c.refuse.result (λ said. Ran lake c.refuse.new.self (numbered c.args.who y) said) in
    let is_refused = refused_same c.args.statement.now x c.empty.result c.in-Err-Refused.cause c.requires.statement c.empty.ensures
    (bind_refused Bound c.in-Err-Refused.field-0 c.in-Err-Refused.cause (λ cause. IsRefused c.args.statement.now c.empty.result cause) c.in-Err-Refused.field-0-is c.in-Err-Refused.ensures.refused) in
    let is = c.in_ok-cause-in-Err-Refused.ensures c.args.columns.now c.args.distribution.now (subst P (sym c.in-Err-Refused.cause-is) is_refused) in
    subst Q (sym c.requires.statement)
    (ran_by lake c.refuse.new.self c.args.who x (fact.Refused c.in_ok-cause-in-Err-Refused.cause) c.refuse.result c.requires.session.unreserved
    (create_refused st c.args.who c.args.table.now c.args.columns.now c.args.distribution.now c.requires.session.explicit c.in_ok-cause-in-Err-Refused.cause is) c.refuse.ensures.entry c.refuse.ensures.reply)

pub returns-in-Err-Refused-clause-leaves : goal.returns-in-Err-Refused-clause-leaves
returns-in-Err-Refused-clause-leaves g c =
    leaves_by c.args.lake.now c.refuse.new.self c.args.who (fact.Refused c.in_ok-cause-in-Err-Refused.cause) c.refuse.result c.requires.session.unreserved c.refuse.ensures.entry c.refuse.ensures.err
