use Rattle.std.proofs.Common.{length}
use Rattle.sql_binder.proofs.types.+are_typed_values.Given as goal

abbrev pub decreases-are_typed_values : goal.decreases-are_typed_values
decreases-are_typed_values l = length l.values.now
