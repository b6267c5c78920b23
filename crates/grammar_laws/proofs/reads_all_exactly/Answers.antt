use Rattle.grammar_laws.proofs.Places
use Rattle.grammar_laws.proofs.reads_all_exactly.Goals as goal

pub returns-clause-found : goal.returns-clause-found
returns-clause-found g c = Places.reads_exactly_sentences g.L.Language.definition g.L.Language.predictive

pub returns-clause-refused : goal.returns-clause-refused
returns-clause-refused g c = Places.refuses_exactly_first_place g.L.Language.definition g.L.Language.predictive
