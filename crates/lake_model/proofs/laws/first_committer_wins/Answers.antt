use Rattle.lake_model.proofs.FirstCommitter as law
use Rattle.lake_model.proofs.laws.first_committer_wins.Goals as goal

pub returns : goal.returns
returns c = law.first_committer_wins
