use Rattle.lake_model.proofs.FrameLaw as law
use Rattle.lake_model.proofs.laws.views_stay.Goals as goal

pub returns : goal.returns
returns c = law.views_stay
