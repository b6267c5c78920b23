use Rattle.std.proofs.Common.{◌≡◌, ℕ, Ok, Err, sym, ap, ◌∙◌, subst}
use Rattle.std.proofs.lemmas.Result.{err_from_is_err_and, IfOk-weaker}
use Rattle.sql_model.specs.declared.bound.Bound.{Bound}
use Rattle.sql_model.specs.declared.replies.Refusal.{Refusal}
use Rattle.sql_model.specs.declared.statements.Statement.{Statement}
use Rattle.sql_model.specs.Binding.{bound, IsBound}
use Rattle.sql_model.specs.Scopes.{TableSchemas}
use Rattle.sql_model.specs.Versions.{Tables}
use Rattle.sql_model.specs.Writing.{effect_if_bound, effect_of, result_over, schemas_of}
use Rattle.sql_model.proofs.BoundKinds.{bound_reads}
use Rattle.plain_query.proofs.Ready.{bound_ready}
use Rattle.std.specs.Prelude.{Result}
use Rattle.sql_binder.specs.declared.faults.BindFault.{BindFault}
use Rattle.sql_binder.specs.declared.faults.BindFault.TheVariants as binding
use Rattle.sql_binder.specs.Judging as judging
use Rattle.lake_session.specs.declared.effects.Effect.{Effect}
use Rattle.lake_session.specs.declared.effects.EffectFault.{EffectFault}
use Rattle.lake_session.specs.declared.effects.EffectFault.TheVariants.{Refused, NoMemory}
use Rattle.lake_session.specs.Effects.{IfRefused, of_binding}
use Rattle.lake_session.proofs.effects.effect_of_statement.Goals as goal

-- what binding answers decides what the statement does
over_bound : (x : Statement) (schemas : TableSchemas) (version : Tables) (part : ℕ) (answer : Result Bound Refusal) → schemas ≡ schemas_of version → bound x schemas ≡ answer → result_over version part x ≡ effect_if_bound answer version part
over_bound x schemas version part answer same is = ap (λ (b : Result Bound Refusal). effect_if_bound b version part) (ap (bound x) (sym same) ∙ is)

-- a refusal is handed on

binding_refused : (x : Statement) (schemas : TableSchemas) (version : Tables) (part : ℕ) (fault : BindFault) → schemas ≡ schemas_of version →
    judging.IfRefused {X = Bound} (Err fault) (λ cause. bound x schemas ≡ Err cause) → IfRefused {X = Effect} (Err (of_binding fault)) (λ cause. result_over version part x ≡ Err cause)
binding_refused x schemas version part (binding.Refused cause) same is = over_bound x schemas version part (Err cause) same is
binding_refused x schemas version part binding.NoMemory same is = tt

effect_refused : (x : Statement) (schemas : TableSchemas) (version : Tables) (part : ℕ) (form : Bound) (result : Result Effect EffectFault) → schemas ≡ schemas_of version → bound x schemas ≡ Ok form →
    IfRefused result (λ cause. effect_of form version part ≡ Err cause) → IfRefused result (λ cause. result_over version part x ≡ Err cause)
effect_refused x schemas version part form (Ok made) same is_bound is = tt
effect_refused x schemas version part form (Err (Refused cause)) same is_bound is = over_bound x schemas version part (Ok form) same is_bound ∙ is
effect_refused x schemas version part form (Err NoMemory) same is_bound is = tt

pub returns-in_err-bound-clause-refused : goal.returns-in_err-bound-clause-refused
returns-in_err-bound-clause-refused c =
    let p = err_from_is_err_and c.from_residual-in_err-bound.result c.from_residual-in_err-bound.ensures.1 in
    rw (p.1, p.2)
    (binding_refused c.args.statement.now c.in_ok-schemas.schemas c.args.lent.now c.args.part c.in_err-bound.field-0.0 c.in_ok-schemas.ensures c.in_err-bound.ensures.refused)

pub effect_of-requires : goal.effect_of-requires
effect_of-requires c = bound_ready c.args.statement.now c.in_ok-schemas.schemas c.in_ok-bound.bound c.requires.form c.in_ok-bound.ensures.bound

pub returns-clause-form : goal.returns-clause-form
returns-clause-form c =
    let P : TableSchemas → Type 0 = λ schemas. IsBound c.args.statement.now schemas c.in_ok-bound.bound in
    IfOk-weaker c.effect_of.result _ _
    (λ made does. record {
      form = c.in_ok-bound.bound;
      bound = subst P c.in_ok-schemas.ensures c.in_ok-bound.ensures.bound;
      reads = bound_reads c.args.statement.now c.in_ok-schemas.schemas c.in_ok-bound.bound c.requires.rows c.in_ok-bound.ensures.bound;
      does = does;
    }) c.effect_of.ensures.effect

pub returns-clause-result : goal.returns-clause-result
returns-clause-result c =
    let over = over_bound c.args.statement.now c.in_ok-schemas.schemas c.args.lent.now c.args.part (Ok c.in_ok-bound.bound) c.in_ok-schemas.ensures c.in_ok-bound.ensures.bound in
    IfOk-weaker c.effect_of.result _ _ (λ made does. over ∙ does) c.effect_of.ensures.effect

pub returns-clause-refused : goal.returns-clause-refused
returns-clause-refused c =
    effect_refused c.args.statement.now c.in_ok-schemas.schemas c.args.lent.now c.args.part c.in_ok-bound.bound c.effect_of.result c.in_ok-schemas.ensures c.in_ok-bound.ensures.bound
    c.effect_of.ensures.refused
