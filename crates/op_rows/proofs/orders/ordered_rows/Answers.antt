use Rattle.std.proofs.Common.{rules, List, ap, ◌∙◌}
use Rattle.std.proofs.lemmas.Fn.{always_returns_same}
use Rattle.std.proofs.lemmas.List.Sorted.{ranks_by}
use Rattle.std.specs.Ordering.{is_lt}
use Rattle.lake_values.specs.declared.values.Value.{Value}
use Rattle.sql_model.specs.Listing.{ordered}
use Rattle.sql_model.specs.Query.{order_cmp}
use Rattle.sql_model.proofs.BagLaw.{order_total, order_tells}
use Rattle.sql_model.proofs.Sorting.{ordered_from_sort}
use Rattle.op_rows.proofs.orders.ordered_rows.Goals as goal

pub returns-clause-ordered : goal.returns-clause-ordered
returns-clause-ordered c =
    let keys = c.args.keys.now in
    let total = order_total keys in
    ordered_from_sort total (order_tells keys) _ _ c.sort_unstable_by.ensures.permutation
    (c.sort_unstable_by.ensures.sorted (λ (a b : List Value). is_lt (order_cmp keys a b)) (ranks_by total (λ (r : List Value). r)) (always_returns_same _ _ _ (λ a r f k. search rules)))
    ∙ ap (λ (rows : List (List Value)). ordered (order_cmp keys) rows) c.in_ok-rows.ensures
