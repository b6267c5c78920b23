use Rattle.lake_values.specs.Order.{row_cmp_total, row_cmp_tells}
use Rattle.sql_model.proofs.Bags.{same_in_order}
use Rattle.sql_model.proofs.laws.same_bag_same_listing.Goals as goal

pub returns : goal.returns
returns c = same_in_order row_cmp_total row_cmp_tells
