use Rattle.std.proofs.Common.{rules}
use Rattle.std.specs.Prelude.{is_none}
use Rattle.std.proofs.lemmas.List.Elements.{filter_from_retain}
use Rattle.table_history.specs.declared.kept.Kept.{Kept}
use Rattle.table_history.proofs.stores.clear_rows.Goals as goal

pub returns-clause-rows : goal.returns-clause-rows
returns-clause-rows c = filter_from_retain _ (λ (k : Kept). is_none k.removed) (λ p x b q called. search rules) _ _ _ c.retain.ensures.filtered
