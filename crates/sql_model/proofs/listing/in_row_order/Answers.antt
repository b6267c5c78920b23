use Rattle.std.proofs.Common.{◌∙◌}
use Rattle.lake_values.specs.Order.{row_cmp_total, row_cmp_tells}
use Rattle.sql_model.proofs.Sorting.{ordered_from_sort}
use Rattle.sql_model.proofs.listing.in_row_order.Goals as goal

pub returns : goal.returns
returns c = c.from_rows.ensures ∙ ordered_from_sort row_cmp_total row_cmp_tells _ _ c.in_ok-sort.ensures.permutation c.in_ok-sort.ensures.sorted
