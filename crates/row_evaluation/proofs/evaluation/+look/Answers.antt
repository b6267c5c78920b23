use Rattle.std.proofs.Common.{◌∙◌, ap, sym}
use Rattle.sql_model.specs.BoundForms.{has_arithmetic}
use Rattle.row_evaluation.proofs.Parts.{compare_parts, and_parts, or_parts, at_error}
use Rattle.row_evaluation.proofs.evaluation.+look.Goals as goal

pub returns-in_err-right-in-Compare-clause-arithmetic :
    goal.returns-in_err-right-in-Compare-clause-arithmetic
returns-in_err-right-in-Compare-clause-arithmetic g t c =
    at_error _ _ (ap has_arithmetic c.in-Compare.is ∙ compare_parts _ _ _ (ap has_arithmetic (sym c.get-in-Compare-2.ensures) ∙ c.in_err-right-in-Compare.ensures.arithmetic))

pub returns-in_err-right-in-And-clause-arithmetic :
    goal.returns-in_err-right-in-And-clause-arithmetic
returns-in_err-right-in-And-clause-arithmetic g t c =
    at_error _ _ (ap has_arithmetic c.in-And.is ∙ and_parts _ _ (ap has_arithmetic (sym c.get-in-And-2.ensures) ∙ c.in_err-right-in-And.ensures.arithmetic))

pub returns-in_err-right-in-Or-clause-arithmetic :
    goal.returns-in_err-right-in-Or-clause-arithmetic
returns-in_err-right-in-Or-clause-arithmetic g t c =
    at_error _ _ (ap has_arithmetic c.in-Or.is ∙ or_parts _ _ (ap has_arithmetic (sym c.get-in-Or-2.ensures) ∙ c.in_err-right-in-Or.ensures.arithmetic))
