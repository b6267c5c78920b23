-- Why a query has no answer, by what its parts refuse.
use Rattle.row_evaluation.specs.declared.rows.EvaluationFault.{EvaluationFault}
use Rattle.row_evaluation.specs.declared.rows.EvaluationFault.TheVariants as evaluation
use Rattle.plain_query.specs.declared.joins.JoinFault.{JoinFault}
use Rattle.plain_query.specs.declared.joins.JoinFault.TheVariants as join
use Rattle.plain_query.specs.declared.queries.QueryFault.{QueryFault}
use Rattle.plain_query.specs.declared.queries.QueryFault.TheVariants.{TooManyRows, Arith, NoMemory}

abbrev pub of_join : JoinFault → QueryFault
of_join join.TooManyRows = TooManyRows
of_join join.NoMemory = NoMemory

abbrev pub of_evaluation : EvaluationFault → QueryFault
of_evaluation evaluation.Overflow = Arith
of_evaluation evaluation.NoMemory = NoMemory
