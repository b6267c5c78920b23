-- What the code of a statement's effect answers.
use Rattle.std.specs.Prelude.{◌≡◌, ℕ, true, Result, Ok, Err}
use Rattle.sql_model.specs.declared.bound.Bound.{Bound}
use Rattle.sql_model.specs.declared.replies.Refusal.{Refusal}
use Rattle.sql_model.specs.declared.replies.Refusal.TheVariants.{Arith}
use Rattle.sql_model.specs.declared.statements.Statement.{Statement}
use Rattle.sql_model.specs.Binding.{IsBound}
use Rattle.sql_model.specs.BoundForms.{reads_or_changes}
use Rattle.sql_model.specs.Versions.{Tables}
use Rattle.sql_model.specs.Writing as writing
use Rattle.row_evaluation.specs.declared.rows.EvaluationFault.{EvaluationFault}
use Rattle.row_evaluation.specs.declared.rows.EvaluationFault.TheVariants as evaluation
use Rattle.sql_binder.specs.declared.faults.BindFault.{BindFault}
use Rattle.sql_binder.specs.declared.faults.BindFault.TheVariants as binding
use Rattle.lake_session.specs.declared.effects.Effect.{Effect}
use Rattle.lake_session.specs.declared.effects.EffectFault.{EffectFault}
use Rattle.lake_session.specs.declared.effects.EffectFault.TheVariants.{Refused, NoMemory}

-- a reply and a change
abbrev pub effect_seen : Effect → writing.Effect
effect_seen e = (e.reply, e.change)

-- the statement is bound over the version to a form that reads or changes rows, and this is what the form does there as
-- this part of a transaction
pub record IsEffectOf (x : Statement) (version : Tables) (part : ℕ) (effect : writing.Effect) : Type 0 where
  pub form : Bound
  pub bound : IsBound x (writing.schemas_of version) form
  pub reads : reads_or_changes form ≡ true
  pub does : writing.effect_of form version part ≡ Ok effect

-- the fact holds of the refusal that is answered
abbrev pub IfRefused : {X : Type 0} → Result X EffectFault → (Refusal → Type 0) → Type 0
IfRefused (Ok x) P = Unit {0}
IfRefused (Err NoMemory) P = Unit {0}
IfRefused (Err (Refused r)) P = P r

abbrev pub of_evaluation : EvaluationFault → EffectFault
of_evaluation evaluation.Overflow = Refused Arith
of_evaluation evaluation.NoMemory = NoMemory

abbrev pub of_binding : BindFault → EffectFault
of_binding (binding.Refused cause) = Refused cause
of_binding binding.NoMemory = NoMemory
