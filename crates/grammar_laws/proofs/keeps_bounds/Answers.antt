use Rattle.grammar_laws.proofs.Theorems
use Rattle.grammar_laws.proofs.keeps_bounds.Goals as goal

pub returns-clause-throughout : goal.returns-clause-throughout
returns-clause-throughout g c = Theorems.keeps_throughout g.L.Language.definition g.L.Language.predictive

pub returns-clause-fewer : goal.returns-clause-fewer
returns-clause-fewer g c = Theorems.keeps_in_fewer g.L.Language.definition

pub returns-clause-limit : goal.returns-clause-limit
returns-clause-limit g c = Theorems.keeps_limit g.L.Language.definition
