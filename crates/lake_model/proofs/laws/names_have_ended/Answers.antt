use Rattle.lake_model.proofs.EndedNames as law
use Rattle.lake_model.proofs.laws.names_have_ended.Goals as goal

pub returns : goal.returns
returns c = law.names_have_ended
