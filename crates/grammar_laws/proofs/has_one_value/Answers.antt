use Rattle.grammar_laws.proofs.Theorems
use Rattle.grammar_laws.proofs.has_one_value.Goals as goal

pub returns : goal.returns
returns g c = Theorems.has_one_value g.L.Language.definition g.L.Language.predictive
