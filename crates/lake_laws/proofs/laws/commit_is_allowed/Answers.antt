use Rattle.lake_laws.proofs.Commits as law
use Rattle.lake_laws.proofs.laws.commit_is_allowed.Goals as goal

pub returns : goal.returns
returns c = law.commit_is_allowed
