use Rattle.lake_session.proofs.Chains.{records_committed}
use Rattle.lake_session.proofs.steps.end.Goals as goal

pub returns-clause-entry : goal.returns-clause-entry
returns-clause-entry g c = records_committed c.args.lake.now c.reserve.new.self c.commit.new.self c.args.who c.requires.running c.in_ok-reserve.ensures.entries c.in_ok-reserve.ensures.others c.commit.ensures.entry
