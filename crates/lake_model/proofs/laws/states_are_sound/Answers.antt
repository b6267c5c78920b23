use Rattle.lake_model.proofs.Sound as law
use Rattle.lake_model.proofs.laws.states_are_sound.Goals as goal

pub returns : goal.returns
returns c = law.states_are_sound
