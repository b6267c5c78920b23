use Rattle.std.proofs.Common.{◌∙◌, ap}
use Rattle.std.specs.Option.{option_map}
use Rattle.lake_model.specs.State.{state, transaction}
use Rattle.lake_core.specs.Consistency.{chronicle_of}
use Rattle.lake_core.specs.Lakes.{Lake, state_of}
use Rattle.lake_core.specs.Opened.{opened}
use Rattle.lake_core.proofs.ConsistencyLemmas.{transaction_none, transaction_some}
use Rattle.lake_core.proofs.lakes.LakeState.transaction.Goals as goal

pub returns-in-Some : goal.returns-in-Some
returns-in-Some g c =
    let l = c.self.inside in
    let st = state (chronicle_of l.chronicle.entries) in
    transaction_some c.args.session st l.running.items _ _ c.in-Some.place c.index.result.now c.of.result c.as_slice.ensures.value c.place_of.ensures c.in-Some.is c.self.invariant.stands.open_ones c.index.ensures c.of.ensures
    ∙ ap (λ (lake : Lake). option_map opened (transaction (state_of lake) c.args.session)) c.self.view_is

pub returns-in-None : goal.returns-in-None
returns-in-None g c =
    let l = c.self.inside in
    let st = state (chronicle_of l.chronicle.entries) in
    transaction_none c.args.session st l.running.items _ _ c.as_slice.ensures.value c.place_of.ensures c.in-None.is c.self.invariant.stands.open_ones
    ∙ ap (λ (lake : Lake). option_map opened (transaction (state_of lake) c.args.session)) c.self.view_is
