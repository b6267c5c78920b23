use Rattle.std.proofs.Common.{◌≡◌, Err, sym, subst}
use Rattle.lake_model.specs.Allowed.{IsAllowedRefusal}
use Rattle.lake_model.specs.Refusals.{result_of}
use Rattle.lake_model.specs.State.{next_part, view}
use Rattle.lake_core.specs.Lakes.{state_of}
use Rattle.lake_session.specs.declared.effects.Effect.{Effect}
use Rattle.lake_session.proofs.Bindings.{allowed_plain, result_plain}
use Rattle.lake_session.proofs.Refused.{effect_refused}
use Rattle.lake_session.proofs.steps.run_inside.Goals as goal

pub refuse-requires-clause-allowed : goal.refuse-requires-clause-allowed
refuse-requires-clause-allowed g c κs within =
    let st = state_of c.args.lake.now in
    let session = c.args.who.session in
    let is = effect_refused Effect c.in-Err-Refused.field-0 c.in-Err-Refused.cause (λ cause. result_of st session c.args.statement.now ≡ Err cause) c.in-Err-Refused.field-0-is c.in-Err-Refused.ensures.refused in
    subst (λ cause. IsAllowedRefusal st session cause) (sym c.in-Err-Refused.cause-is)
    (allowed_plain st session c.in-Err-Refused.cause
    (result_plain (view st session).tables
    (next_part st session) c.args.statement.now c.in-Err-Refused.cause is))
