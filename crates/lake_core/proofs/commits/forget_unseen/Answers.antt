use Rattle.std.proofs.Common.{◌∙◌, sym}
use Rattle.lake_core.proofs.ConsistencyLemmas.{empty_is, history_forgotten}
use Rattle.lake_core.proofs.commits.forget_unseen.Goals as goal

pub returns-then-is_empty-clause-versions : goal.returns-then-is_empty-clause-versions
returns-then-is_empty-clause-versions c = λ st open_ kept. history_forgotten st _ _ c.args.running.now (empty_is c.args.running.now (sym c.is_empty.ensures ∙ c.if-is_empty.true)) open_ c.forget.ensures.first c.forget.ensures.tables kept
