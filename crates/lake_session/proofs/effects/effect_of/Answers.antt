use Rattle.std.proofs.Common.{◌≡◌, Ok, Err, sym, ap, ◌∙◌}
use Rattle.std.specs.Prelude.{Result}
use Rattle.std.proofs.lemmas.Result.{IfOk-weaker}
use Rattle.sql_model.specs.declared.bound.Bound.{Bound}
use Rattle.sql_model.specs.declared.bound.Bound.TheVariants.{Update}
use Rattle.sql_model.specs.declared.replies.Refusal.{Refusal}
use Rattle.sql_model.specs.Writing as writing
use Rattle.lake_session.specs.declared.effects.EffectFault.{EffectFault}
use Rattle.lake_session.specs.declared.effects.EffectFault.TheVariants.{Refused, NoMemory}
use Rattle.lake_session.specs.Effects.{IfRefused}
use Rattle.lake_session.proofs.effects.effect_of.Goals as goal

-- what is said of a refusal implies more
refused_weaker : {X : Type 0} {P Q : Refusal → Type 0} (r : Result X EffectFault) → ((cause : Refusal) → P cause → Q cause) → IfRefused r P → IfRefused r Q
refused_weaker (Ok x) f p = tt
refused_weaker (Err NoMemory) f p = tt
refused_weaker (Err (Refused cause)) f p = f cause p

pub returns-in-Update-clause-effect : goal.returns-in-Update-clause-effect
returns-in-Update-clause-effect c =
    let effect : Bound → Result writing.Effect Refusal = λ form. writing.effect_of form c.args.lent.now c.args.part in
    let form : Update c.in-Update.table c.as_slice.result.now c.as_slice-in-Update.result.now c.as_slice-in-Update-2.result.now c.in-Update.column ≡ Update c.in-Update.table c.in-Update.guards c.in-Update.computed c.in-Update.items c.in-Update.column = λ i. Update c.in-Update.table (c.as_slice.ensures i) (c.as_slice-in-Update.ensures i) (c.as_slice-in-Update-2.ensures i) c.in-Update.column in
    IfOk-weaker c.updated.result _ _ (λ made holds. ap effect (c.in-Update.is ∙ sym form) ∙ holds c.in-Update.column) c.updated.ensures.effect

pub returns-in-Update-clause-refused : goal.returns-in-Update-clause-refused
returns-in-Update-clause-refused c =
    let effect : Bound → Result writing.Effect Refusal = λ form. writing.effect_of form c.args.lent.now c.args.part in
    let form : Update c.in-Update.table c.as_slice.result.now c.as_slice-in-Update.result.now c.as_slice-in-Update-2.result.now c.in-Update.column ≡ Update c.in-Update.table c.in-Update.guards c.in-Update.computed c.in-Update.items c.in-Update.column = λ i. Update c.in-Update.table (c.as_slice.ensures i) (c.as_slice-in-Update.ensures i) (c.as_slice-in-Update-2.ensures i) c.in-Update.column in
    refused_weaker c.updated.result (λ cause holds. ap effect (c.in-Update.is ∙ sym form) ∙ holds c.in-Update.column) c.updated.ensures.refused
