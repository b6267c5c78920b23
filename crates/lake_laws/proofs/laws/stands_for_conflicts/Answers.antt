use Rattle.lake_laws.proofs.Conflicts as law
use Rattle.lake_laws.proofs.laws.stands_for_conflicts.Goals as goal

pub returns : goal.returns
returns c = law.stands_for_conflicts
