-- Why an operator has no answer, by what its parts refuse.
use Rattle.row_evaluation.specs.declared.rows.EvaluationFault.{EvaluationFault}
use Rattle.row_evaluation.specs.declared.rows.EvaluationFault.TheVariants as evaluation
use Rattle.row_evaluation.specs.declared.faults.OpFault.{OpFault}
use Rattle.row_evaluation.specs.declared.faults.OpFault.TheVariants.{Arith, NoMemory}

abbrev pub of_evaluation : EvaluationFault → OpFault
of_evaluation evaluation.Overflow = Arith
of_evaluation evaluation.NoMemory = NoMemory
