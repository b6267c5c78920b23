use Rattle.std.proofs.Common.{true}
use Rattle.lake_core.specs.Facts.{beginning}
use Rattle.lake_core.specs.Lakes.{state_of}
use Rattle.sql_model.specs.declared.statements.Statement.TheVariants as statement
use Rattle.lake_session.proofs.Answering.{begin_answers}
use Rattle.lake_session.proofs.Chains.{leaves_by, ran_by}
use Rattle.lake_session.proofs.running.begin.Goals as goal

pub returns-clause-ran : goal.returns-clause-ran
returns-clause-ran g c =
    ran_by c.args.lake.now c.begin.new.self c.args.who statement.Begin (beginning (state_of c.args.lake.now) c.args.who.session true) c.begin.result c.requires.unreserved
    (begin_answers (state_of c.args.lake.now) c.args.who c.requires.explicit) c.begin.ensures.entry c.begin.ensures.reply

pub returns-clause-leaves : goal.returns-clause-leaves
returns-clause-leaves g c =
    leaves_by c.args.lake.now c.begin.new.self c.args.who (beginning (state_of c.args.lake.now) c.args.who.session true) c.begin.result c.requires.unreserved c.begin.ensures.entry c.begin.ensures.err
