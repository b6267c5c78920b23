use Rattle.std.proofs.Common.{sym, subst}
use Rattle.std.specs.Prelude.{IfOk}
use Rattle.std.proofs.lemmas.Result.{on_err_weaker}
use Rattle.sql_model.specs.declared.statements.Statement.{Statement}
use Rattle.lake_session.specs.Runs.{Ran, numbered}
use Rattle.lake_session.proofs.Chains.{begun_same}
use Rattle.lake_session.proofs.running.run.Goals as goal

pub returns-in-Begin-clause-ran : goal.returns-in-Begin-clause-ran
returns-in-Begin-clause-ran g c =
    let P : Statement → Type 0 = λ x. IfOk c.begin.result (λ said. Ran c.args.lake.now c.begin.new.lake (numbered c.args.who x) said) in
    subst P (sym c.in-Begin.is) c.begin.ensures.ran

pub returns-in-Commit-clause-ran : goal.returns-in-Commit-clause-ran
returns-in-Commit-clause-ran g c =
    let P : Statement → Type 0 = λ x. IfOk c.commit.result (λ said. Ran c.args.lake.now c.commit.new.lake (numbered c.args.who x) said) in
    subst P (sym c.in-Commit.is) c.commit.ensures.ran

pub returns-in-RollBack-clause-ran : goal.returns-in-RollBack-clause-ran
returns-in-RollBack-clause-ran g c =
    let P : Statement → Type 0 = λ x. IfOk c.roll_back.result (λ said. Ran c.args.lake.now c.roll_back.new.lake (numbered c.args.who x) said) in
    subst P (sym c.in-RollBack.is) c.roll_back.ensures.ran

pub returns-in-Create-clause-begun : goal.returns-in-Create-clause-begun
returns-in-Create-clause-begun g c =
    on_err_weaker c.create.result (begun_same c.args.lake.now c.create.new.lake c.args.who c.args.statement.now) c.create.ensures.err

pub returns-in-Begin-clause-begun : goal.returns-in-Begin-clause-begun
returns-in-Begin-clause-begun g c =
    on_err_weaker c.begin.result (begun_same c.args.lake.now c.begin.new.lake c.args.who c.args.statement.now) c.begin.ensures.err

pub returns-in-Commit-clause-begun : goal.returns-in-Commit-clause-begun
returns-in-Commit-clause-begun g c =
    on_err_weaker c.commit.result (begun_same c.args.lake.now c.commit.new.lake c.args.who c.args.statement.now) c.commit.ensures.err

pub returns-in-RollBack-clause-begun : goal.returns-in-RollBack-clause-begun
returns-in-RollBack-clause-begun g c =
    on_err_weaker c.roll_back.result (begun_same c.args.lake.now c.roll_back.new.lake c.args.who c.args.statement.now) c.roll_back.ensures.err
