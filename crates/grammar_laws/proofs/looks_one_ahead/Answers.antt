use Rattle.grammar_laws.proofs.Theorems
use Rattle.grammar_laws.proofs.looks_one_ahead.Goals as goal

pub returns-clause-found : goal.returns-clause-found
returns-clause-found g c = Theorems.finds_one_ahead g.L.Language.definition g.L.Language.predictive

pub returns-clause-refused : goal.returns-clause-refused
returns-clause-refused g c = Theorems.refuses_one_ahead g.L.Language.definition g.L.Language.predictive
