-- What is said of a refusal that was answered.
use Rattle.std.proofs.Common.{◌≡◌, Err, subst}
use Rattle.sql_model.specs.declared.replies.Refusal.{Refusal}
use Rattle.sql_binder.specs.declared.faults.BindFault.{BindFault}
use Rattle.sql_binder.specs.declared.faults.BindFault.TheVariants as binding
use Rattle.sql_binder.specs.Judging as judging
use Rattle.lake_session.specs.declared.effects.EffectFault.{EffectFault}
use Rattle.lake_session.specs.declared.effects.EffectFault.TheVariants as effect
use Rattle.lake_session.specs.Effects.{IfRefused}

pub bind_refused : (X : Type 0) (fault : BindFault) (cause : Refusal) (P : Refusal → Type 0) → fault ≡ binding.Refused cause → judging.IfRefused {X = X} (Err fault) P → P cause
bind_refused X fault cause P is said = let Q : BindFault → Type 0 = λ f. judging.IfRefused {X = X} (Err f) P in subst Q is said

pub effect_refused : (X : Type 0) (fault : EffectFault) (cause : Refusal) (P : Refusal → Type 0) → fault ≡ effect.Refused cause → IfRefused {X = X} (Err fault) P → P cause
effect_refused X fault cause P is said = let Q : EffectFault → Type 0 = λ f. IfRefused {X = X} (Err f) P in subst Q is said
