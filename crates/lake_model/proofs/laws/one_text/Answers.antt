use Rattle.lake_model.proofs.OneText as law
use Rattle.lake_model.proofs.laws.one_text.Goals as goal

pub returns : goal.returns
returns c = law.one_text
