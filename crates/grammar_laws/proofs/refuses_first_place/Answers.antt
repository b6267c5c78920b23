use Rattle.grammar_laws.proofs.Places
use Rattle.grammar_laws.proofs.refuses_first_place.Goals as goal

pub returns : goal.returns
returns g c = Places.refuses_first_place g.L.Language.definition g.L.Language.predictive
