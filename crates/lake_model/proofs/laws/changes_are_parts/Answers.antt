use Rattle.lake_model.proofs.Effects as law
use Rattle.lake_model.proofs.laws.changes_are_parts.Goals as goal

pub returns : goal.returns
returns c = law.changes_are_parts
