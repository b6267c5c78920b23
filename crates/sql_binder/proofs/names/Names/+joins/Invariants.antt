use Rattle.std.proofs.Common.{length}
use Rattle.sql_binder.proofs.names.Names.+joins.Given as goal

abbrev pub decreases-joins : goal.decreases-joins
decreases-joins l = length l.sources.now
