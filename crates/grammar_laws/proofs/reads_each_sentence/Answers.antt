use Rattle.grammar_laws.proofs.Theorems
use Rattle.grammar_laws.proofs.reads_each_sentence.Goals as goal

pub returns-clause-kept : goal.returns-clause-kept
returns-clause-kept g c = Theorems.reads_each_sentence g.L.Language.definition g.L.Language.predictive

pub returns-clause-any : goal.returns-clause-any
returns-clause-any g c = Theorems.reads_or_meets_limit g.L.Language.definition g.L.Language.predictive
