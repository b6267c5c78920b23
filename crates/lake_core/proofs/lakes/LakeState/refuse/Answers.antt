use Rattle.std.proofs.Common.{◌+◌, ◌∙◌, ◌++◌, ◌∷◌, [], ap, sym, subst, arith, List, length}
use Rattle.lake_model.specs.declared.entries.Fact.TheVariants as fact
use Rattle.lake_model.specs.declared.entries.Entry.{Entry}
use Rattle.lake_model.specs.Allowed.{IsAllowedRefusal}
use Rattle.lake_model.specs.State.{state}
use Rattle.lake_core.specs.Consistency.{chronicle_of}
use Rattle.lake_core.specs.Lakes.{Lake, state_of}
use Rattle.lake_core.proofs.ConsistencyLemmas.{adds_at, entries_left, consistent_at, consistent_more, refused_stands}
use Rattle.lake_core.proofs.lakes.LakeState.refuse.Goals as goal

pub invariant_of-self-2 : goal.invariant_of-self-2
invariant_of-self-2 g c =
    let l = c.self.inside in
    let st = state (chronicle_of l.chronicle.entries) in
    let consistent = c.self.invariant in
    let P : Lake → Type 0 = λ lake. IsAllowedRefusal (state_of lake) c.args.who.session c.args.cause in
    let enough = entries_left c.args.who.session l.running.items c.stop.new.running.items (1 + length l.running.items) c.push.new.self.spare c.stop.ensures.rooms (omega arith)
    (omega (arith, c.push.ensures.room, c.in_ok-reserve.ensures.room, c.len.ensures, l.running.ok.0)) in
    consistent_at c.args.who (fact.Refused c.args.cause) l.chronicle.entries c.push.new.self.entries c.entry.result (c.push.ensures.entries ∙ ap (λ (es : List Entry). es ++ c.entry.result ∷ []) c.in_ok-reserve.ensures.same) c.entry.ensures _ _ _ _ _
    (consistent_more _ _ _ _ _ _ _ consistent.legal (subst P (sym c.self.view_is) c.requires.allowed)
    (refused_stands st _ c.args.who.session l.history l.running.items c.stop.new.running.items l.catalog l.chronicle.spare c.push.new.self.spare l.last_number consistent.stands (c.stop.ensures.stopped st consistent.stands.open_ones) c.stop.ensures.rooms enough))

pub returns-clause-entry : goal.returns-clause-entry
returns-clause-entry g c =
    let l = c.self.inside in
    adds_at c.args.who (fact.Refused c.args.cause) l.chronicle.entries c.push.new.self.entries c.entry.result (c.push.ensures.entries ∙ ap (λ (es : List Entry). es ++ c.entry.result ∷ []) c.in_ok-reserve.ensures.same) c.entry.ensures
    l.running.items c.stop.new.running.items c.stop.ensures.rooms.keeps (invariant_of-self-2 g c) c.args.self.now c.self.view_is
