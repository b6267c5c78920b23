use Rattle.grammar_laws.proofs.Levels
use Rattle.grammar_laws.proofs.opens_levels.Goals as goal

pub returns : goal.returns
returns g c = Levels.opens_levels g.L.Language.definition
