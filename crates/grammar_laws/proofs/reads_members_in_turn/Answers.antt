use Rattle.grammar_laws.proofs.Lists
use Rattle.grammar_laws.proofs.reads_members_in_turn.Goals as goal

pub returns-clause-turns : goal.returns-clause-turns
returns-clause-turns g c = Lists.reads_members_in_turn g.L.Language.definition g.L.Language.predictive

pub returns-clause-takes : goal.returns-clause-takes
returns-clause-takes g c = Lists.takes_a_token g.L.Language.definition g.L.Language.predictive
