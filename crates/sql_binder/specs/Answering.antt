-- What an answer is projected or grouped to.
use Rattle.std.specs.Prelude.{◌≡◌}
use Rattle.sql_model.specs.BoundForms.{Answered}
use Rattle.sql_binder.specs.declared.forms.AnswerRow.{AnswerRow}

-- the parts of an answer are these
pub record IsAnswer (made : AnswerRow) (answer : Answered) : Type 0 where
  pub items : made.items.items ≡ answer.items
  pub keys : made.keys.items ≡ answer.keys
  pub aggs : made.aggs.items ≡ answer.aggs
  pub outputs : made.outputs.items ≡ answer.outputs
