use Rattle.std.proofs.Common.{rules}
use Rattle.std.proofs.lemmas.List.Sorted.{answers_always, ranks_by}
use Rattle.std.specs.Ordering.{is_lt}
use Rattle.sql_model.specs.Changes.{marked_cmp}
use Rattle.sql_model.specs.declared.changes.MarkedRow.{MarkedRow}
use Rattle.sql_model.proofs.MarkOrder.{marked_total, marked_tells}
use Rattle.sql_model.proofs.Sorting.{ordered_from_sort}
use Rattle.sql_model.proofs.listing.sort_by_mark.Goals as goal

pub returns : goal.returns
returns c =
    ordered_from_sort marked_total marked_tells _ _ c.sort_unstable_by.ensures.permutation
    (c.sort_unstable_by.ensures.sorted (λ (x y : MarkedRow). is_lt (marked_cmp x y)) (ranks_by marked_total (λ (m : MarkedRow). m)) (answers_always _ _ _ (λ f a r f' called. search rules)))
