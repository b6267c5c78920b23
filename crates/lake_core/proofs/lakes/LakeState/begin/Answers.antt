use Rattle.std.proofs.Common.{◌≡◌, ◌+◌, ◌∙◌, ◌++◌, ◌∷◌, [], ap, sym, refl, subst, arith, List, length, OnOk, IfOk}
use Rattle.lake_model.specs.declared.entries.Entry.{Entry}
use Rattle.lake_model.specs.declared.entries.Fact.{Fact}
use Rattle.lake_model.specs.declared.entries.Fact.TheVariants as fact
use Rattle.lake_model.specs.State.{is_inside, state}
use Rattle.lake_core.specs.declared.transactions.KeptTransaction.{KeptTransaction}
use Rattle.lake_core.specs.Facts as facts
use Rattle.lake_core.specs.Consistency.{IsConsistent, chronicle_of}
use Rattle.lake_core.specs.Lakes.{Adds, IsExplicit, Lake, state_of}
use Rattle.lake_core.specs.Rooms.{LeavesRooms}
use Rattle.lake_core.proofs.OpenLemmas.{begun_rooms}
use Rattle.lake_core.proofs.ConsistencyLemmas.{adds_at, adds_same, began_consistent, entries_left, found_inside, found_outside, consistent_at, inside_begins, outside_begins, none_outside}
use Rattle.lake_core.proofs.lakes.LakeState.begin.Goals as goal

pub refuse-requires-clause-allowed : goal.refuse-requires-clause-allowed
refuse-requires-clause-allowed g c κs within =
    let l = c.self.inside in
    let P : Lake → Type 0 = λ lake. IsExplicit (state_of lake) c.args.who.session in
    let inside = found_inside c.args.who.session (state (chronicle_of l.chronicle.entries)) l.running.items _ _ c.as_slice.ensures.value c.place_of.ensures (sym c.is_some.ensures ∙ c.if-is_some.true) c.self.invariant.stands.open_ones (subst P (sym c.self.view_is) c.requires.explicit) in
    ap (λ (lake : Lake). is_inside (state_of lake) c.args.who.session) (sym c.self.view_is) ∙ inside.1

pub returns-then-is_some-clause-entry : goal.returns-then-is_some-clause-entry
returns-then-is_some-clause-entry g c =
    let l = c.self.inside in
    let P : Lake → Type 0 = λ lake. IsExplicit (state_of lake) c.args.who.session in
    let inside = found_inside c.args.who.session (state (chronicle_of l.chronicle.entries)) l.running.items _ _ c.as_slice.ensures.value c.place_of.ensures (sym c.is_some.ensures ∙ c.if-is_some.true) c.self.invariant.stands.open_ones (subst P (sym c.self.view_is) c.requires.explicit) in
    let is = inside_begins (state (chronicle_of l.chronicle.entries)) c.args.who.session c.args.explicit inside.0 in
    let same = ap (λ (lake : Lake). facts.beginning (state_of lake) c.args.who.session c.args.explicit) (sym c.self.view_is) ∙ is in
    let Q : Fact → Type 0 = λ f. OnOk c.refuse.result (Adds c.args.self.now c.refuse.new.self c.args.who f) in
    subst Q (sym same) c.refuse.ensures.entry

pub returns-then-is_some-clause-reply : goal.returns-then-is_some-clause-reply
returns-then-is_some-clause-reply g c =
    let l = c.self.inside in
    let P : Lake → Type 0 = λ lake. IsExplicit (state_of lake) c.args.who.session in
    let inside = found_inside c.args.who.session (state (chronicle_of l.chronicle.entries)) l.running.items _ _ c.as_slice.ensures.value c.place_of.ensures (sym c.is_some.ensures ∙ c.if-is_some.true) c.self.invariant.stands.open_ones (subst P (sym c.self.view_is) c.requires.explicit) in
    let is = inside_begins (state (chronicle_of l.chronicle.entries)) c.args.who.session c.args.explicit inside.0 in
    let same = ap (λ (lake : Lake). facts.beginning (state_of lake) c.args.who.session c.args.explicit) (sym c.self.view_is) ∙ is in
    let Q : Fact → Type 0 = λ f. IfOk c.refuse.result (λ r. r ≡ facts.answer f) in
    subst Q (sym same) c.refuse.ensures.reply

pub invariant_of-self-2 : goal.invariant_of-self-2
invariant_of-self-2 g c =
    let l = c.self.inside in
    let rs = l.running.items in
    let consistent = c.self.invariant in
    let none = found_outside c.args.who.session rs _ _ c.as_slice.ensures.value c.place_of.ensures (sym c.is_some.ensures ∙ c.if-is_some.false) in
    let r = c.begun-transaction.result in
    let running = c.put_first.ensures ∙ ap (λ (os : List KeptTransaction). r ∷ os) c.in_ok-reserve-2.ensures.items in
    let leaves = begun_rooms c.args.who.session rs r consistent.stands.own_sessions none c.begun-transaction.ensures.begun.session c.begun-transaction.ensures.room in
    let enough = entries_left c.args.who.session rs (r ∷ rs) (1 + length rs) c.push.new.self.spare leaves (omega arith) (omega (arith, c.push.ensures.room, c.in_ok-reserve.ensures.room, c.len.ensures, l.running.ok.0)) in
    let P : List KeptTransaction → Type 0 = λ os. IsConsistent (chronicle_of c.push.new.self.entries) l.history os l.catalog c.push.new.self.spare (l.last_number + 1) in
    subst P (sym running) (consistent_at c.args.who (fact.Began c.args.explicit (l.last_number + 1) c.last-snapshot.result) l.chronicle.entries c.push.new.self.entries c.entry.result
    (c.push.ensures.entries ∙ ap (λ (es : List Entry). es ++ c.entry.result ∷ []) c.in_ok-reserve.ensures.same) c.entry.ensures _ _ _ _ _
    (began_consistent c.args.who c.args.explicit (chronicle_of l.chronicle.entries) l.history rs r l.catalog l.chronicle.spare c.push.new.self.spare l.last_number c.last-snapshot.result consistent none c.last-snapshot.ensures.last c.begun-transaction.ensures.begun leaves enough))

pub returns-clause-entry : goal.returns-clause-entry
returns-clause-entry g c =
    let l = c.self.inside in
    let rs = l.running.items in
    let consistent = c.self.invariant in
    let st = state (chronicle_of l.chronicle.entries) in
    let none = found_outside c.args.who.session rs _ _ c.as_slice.ensures.value c.place_of.ensures (sym c.is_some.ensures ∙ c.if-is_some.false) in
    let r = c.begun-transaction.result in
    let running = c.put_first.ensures ∙ ap (λ (os : List KeptTransaction). r ∷ os) c.in_ok-reserve-2.ensures.items in
    let leaves = begun_rooms c.args.who.session rs r consistent.stands.own_sessions none c.begun-transaction.ensures.begun.session c.begun-transaction.ensures.room in
    let P : List KeptTransaction → Type 0 = λ os. LeavesRooms c.args.who.session rs os in
    let adds = adds_at c.args.who (fact.Began c.args.explicit (l.last_number + 1) c.last-snapshot.result) l.chronicle.entries c.push.new.self.entries c.entry.result
    (c.push.ensures.entries ∙ ap (λ (es : List Entry). es ++ c.entry.result ∷ []) c.in_ok-reserve.ensures.same) c.entry.ensures rs c.put_first.new.running.items (subst P (sym running) leaves).keeps (invariant_of-self-2 g c) c.args.self.now c.self.view_is in
    let is = outside_begins st c.args.who.session c.args.explicit l.history l.last_number (l.last_number + 1) c.last-snapshot.result (none_outside c.args.who.session st rs consistent.stands.open_ones none) consistent.stands.numbered refl consistent.stands.history c.last-snapshot.ensures.last in
    let same = is ∙ ap (λ (lake : Lake). facts.beginning (state_of lake) c.args.who.session c.args.explicit) c.self.view_is in
    adds_same same adds

pub returns-clause-reply : goal.returns-clause-reply
returns-clause-reply g c =
    let l = c.self.inside in
    let rs = l.running.items in
    let consistent = c.self.invariant in
    let st = state (chronicle_of l.chronicle.entries) in
    let none = found_outside c.args.who.session rs _ _ c.as_slice.ensures.value c.place_of.ensures (sym c.is_some.ensures ∙ c.if-is_some.false) in
    let is = outside_begins st c.args.who.session c.args.explicit l.history l.last_number (l.last_number + 1) c.last-snapshot.result (none_outside c.args.who.session st rs consistent.stands.open_ones none) consistent.stands.numbered refl consistent.stands.history c.last-snapshot.ensures.last in
    let same = is ∙ ap (λ (lake : Lake). facts.beginning (state_of lake) c.args.who.session c.args.explicit) c.self.view_is in
    ap facts.answer same
