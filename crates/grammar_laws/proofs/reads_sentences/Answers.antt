use Rattle.grammar_laws.proofs.Theorems
use Rattle.grammar_laws.proofs.reads_sentences.Goals as goal

pub returns : goal.returns
returns g c = Theorems.reads_sentences g.L.Language.definition
