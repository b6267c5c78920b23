use Rattle.lake_laws.proofs.Commits as law
use Rattle.lake_laws.proofs.laws.stands_committed.Goals as goal

pub returns : goal.returns
returns c = law.stands_committed
