use Rattle.std.proofs.Common.{length}
use Rattle.sql_binder.proofs.types.+are_typed_joins.Given as goal

abbrev pub decreases-are_typed_joins : goal.decreases-are_typed_joins
decreases-are_typed_joins l = length l.sources.now
