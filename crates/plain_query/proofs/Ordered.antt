-- The answer, made over rows of the groups or items in any order.
use Rattle.std.proofs.Common.{◌≡◌, List, map, ap, ◌∙◌}
use Rattle.lake_values.specs.declared.values.Value.{Value}
use Rattle.sql_model.specs.declared.bound.Query.{Query}
use Rattle.sql_model.specs.Listing.{ordered, SameBag}
use Rattle.sql_model.specs.Query.{kept, shown, outputs, order_cmp, limited, answer}
use Rattle.sql_model.proofs.BagLaw.{order_total, order_tells}
use Rattle.sql_model.proofs.Bags.{same_ordered, same_map}

pub answer_of_shown :
    (q : Query) (rows left made : List (List Value)) → left ≡ kept q rows → SameBag made (shown q left) → limited q.limit (ordered (order_cmp q.order) (map (outputs q) made)) ≡ answer q rows
answer_of_shown q rows left made keeps same =
    ap (limited q.limit) (same_ordered (order_total q.order) (order_tells q.order) _ _ (same_map (outputs q) made (shown q left) same))
    ∙ ap (λ (l : List (List Value)). limited q.limit (ordered (order_cmp q.order) (map (outputs q) (shown q l)))) keeps
