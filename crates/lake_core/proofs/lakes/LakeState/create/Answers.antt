use Rattle.std.proofs.Common.{◌≡◌, ◌∙◌, ap, sym, subst, List, ℕ}
use Rattle.std.specs.Prelude.{IfOk, OnOk}
use Rattle.lake_model.specs.declared.entries.Fact.{Fact}
use Rattle.lake_model.specs.declared.entries.Fact.TheVariants as fact
use Rattle.sql_model.specs.declared.replies.Refusal.TheVariants.{TableExists}
use Rattle.lake_model.specs.State.{newest, transaction}
use Rattle.sql_model.specs.Versions.{has_table}
use Rattle.lake_core.specs.Facts as facts
use Rattle.lake_core.specs.Lakes.{Adds, state_of}
use Rattle.lake_core.proofs.ConsistencyLemmas.{free_creates, inside_creates, is_none_from, seen_inside, seen_outside, seen_table, taken_creates}
use Rattle.lake_core.proofs.lakes.LakeState.create.Goals as goal

pub refuse-requires-clause-allowed : goal.refuse-requires-clause-allowed
refuse-requires-clause-allowed g c κs within =
    let l = c.self.inside in
    seen_inside c.args.who.session l.chronicle.entries l.history l.running.items _ l.catalog l.chronicle.spare l.last_number _ c.args.self.now c.self.invariant c.self.view_is
    c.as_slice.ensures.value c.place_of.ensures (sym c.is_some.ensures ∙ c.if-is_some.true) c.requires.explicit

pub returns-then-is_some-clause-entry : goal.returns-then-is_some-clause-entry
returns-then-is_some-clause-entry g c =
    let l = c.self.inside in
    let inside = seen_inside c.args.who.session l.chronicle.entries l.history l.running.items _ l.catalog l.chronicle.spare l.last_number _ c.args.self.now c.self.invariant c.self.view_is
    c.as_slice.ensures.value c.place_of.ensures (sym c.is_some.ensures ∙ c.if-is_some.true) c.requires.explicit in
    let is = inside_creates (state_of c.args.self.now) c.args.who.session c.args.table.now c.args.schema.now inside in
    let Q : Fact → Type 0 = λ f. OnOk c.refuse.result (Adds c.args.self.now c.refuse.new.self c.args.who f) in
    subst Q (sym is) c.refuse.ensures.entry

pub returns-then-is_some-clause-reply : goal.returns-then-is_some-clause-reply
returns-then-is_some-clause-reply g c =
    let l = c.self.inside in
    let inside = seen_inside c.args.who.session l.chronicle.entries l.history l.running.items _ l.catalog l.chronicle.spare l.last_number _ c.args.self.now c.self.invariant c.self.view_is
    c.as_slice.ensures.value c.place_of.ensures (sym c.is_some.ensures ∙ c.if-is_some.true) c.requires.explicit in
    let is = inside_creates (state_of c.args.self.now) c.args.who.session c.args.table.now c.args.schema.now inside in
    let Q : Fact → Type 0 = λ f. IfOk c.refuse.result (λ r. r ≡ facts.answer f) in
    subst Q (sym is) c.refuse.ensures.reply

pub refuse-requires-then-has_table-clause-allowed : goal.refuse-requires-then-has_table-clause-allowed
refuse-requires-then-has_table-clause-allowed g c κs within =
    let l = c.self.inside in
    let none = seen_outside c.args.who.session l.chronicle.entries l.history l.running.items _ l.catalog l.chronicle.spare l.last_number _ c.args.self.now c.self.invariant c.self.view_is
    c.as_slice.ensures.value c.place_of.ensures (sym c.is_some.ensures ∙ c.if-is_some.false) in
    let there = seen_table c.args.table.now l.chronicle.entries l.history l.running.items l.catalog l.chronicle.spare l.last_number _ c.args.self.now c.self.invariant c.self.view_is c.has_table.ensures in
    (ap (λ (n : List ℕ). has_table n (newest (state_of c.args.self.now)).tables) c.in_ok-copy.ensures ∙ there ∙ c.if-has_table.true, is_none_from (transaction (state_of c.args.self.now) c.args.who.session) none)

pub returns-then-has_table-clause-entry : goal.returns-then-has_table-clause-entry
returns-then-has_table-clause-entry g c =
    let l = c.self.inside in
    let none = seen_outside c.args.who.session l.chronicle.entries l.history l.running.items _ l.catalog l.chronicle.spare l.last_number _ c.args.self.now c.self.invariant c.self.view_is
    c.as_slice.ensures.value c.place_of.ensures (sym c.is_some.ensures ∙ c.if-is_some.false) in
    let there = seen_table c.args.table.now l.chronicle.entries l.history l.running.items l.catalog l.chronicle.spare l.last_number _ c.args.self.now c.self.invariant c.self.view_is c.has_table.ensures in
    let is = taken_creates (state_of c.args.self.now) c.args.who.session c.args.table.now c.args.schema.now none (there ∙ c.if-has_table.true) in
    let Q : Fact → Type 0 = λ f. OnOk c.refuse-then-has_table.result (Adds c.args.self.now c.refuse-then-has_table.new.self c.args.who f) in
    subst Q (ap (λ (n : List ℕ). fact.Refused (TableExists n)) c.in_ok-copy.ensures ∙ sym is) c.refuse-then-has_table.ensures.entry

pub returns-then-has_table-clause-reply : goal.returns-then-has_table-clause-reply
returns-then-has_table-clause-reply g c =
    let l = c.self.inside in
    let none = seen_outside c.args.who.session l.chronicle.entries l.history l.running.items _ l.catalog l.chronicle.spare l.last_number _ c.args.self.now c.self.invariant c.self.view_is
    c.as_slice.ensures.value c.place_of.ensures (sym c.is_some.ensures ∙ c.if-is_some.false) in
    let there = seen_table c.args.table.now l.chronicle.entries l.history l.running.items l.catalog l.chronicle.spare l.last_number _ c.args.self.now c.self.invariant c.self.view_is c.has_table.ensures in
    let is = taken_creates (state_of c.args.self.now) c.args.who.session c.args.table.now c.args.schema.now none (there ∙ c.if-has_table.true) in
    let Q : Fact → Type 0 = λ f. IfOk c.refuse-then-has_table.result (λ r. r ≡ facts.answer f) in
    subst Q (ap (λ (n : List ℕ). fact.Refused (TableExists n)) c.in_ok-copy.ensures ∙ sym is) c.refuse-then-has_table.ensures.reply

pub make-requires-clause-outside : goal.make-requires-clause-outside
make-requires-clause-outside g c κs within =
    let l = c.self.inside in
    is_none_from (transaction (state_of c.args.self.now) c.args.who.session)
    (seen_outside c.args.who.session l.chronicle.entries l.history l.running.items _ l.catalog l.chronicle.spare l.last_number _ c.args.self.now c.self.invariant c.self.view_is
    c.as_slice.ensures.value c.place_of.ensures (sym c.is_some.ensures ∙ c.if-is_some.false))

pub make-requires-clause-absent : goal.make-requires-clause-absent
make-requires-clause-absent g c κs within =
    let l = c.self.inside in
    seen_table c.args.table.now l.chronicle.entries l.history l.running.items l.catalog l.chronicle.spare l.last_number _ c.args.self.now c.self.invariant c.self.view_is c.has_table.ensures ∙ c.if-has_table.false

pub returns-clause-entry : goal.returns-clause-entry
returns-clause-entry g c =
    let l = c.self.inside in
    let none = seen_outside c.args.who.session l.chronicle.entries l.history l.running.items _ l.catalog l.chronicle.spare l.last_number _ c.args.self.now c.self.invariant c.self.view_is
    c.as_slice.ensures.value c.place_of.ensures (sym c.is_some.ensures ∙ c.if-is_some.false) in
    let absent = seen_table c.args.table.now l.chronicle.entries l.history l.running.items l.catalog l.chronicle.spare l.last_number _ c.args.self.now c.self.invariant c.self.view_is c.has_table.ensures in
    let is = free_creates (state_of c.args.self.now) c.args.who.session c.args.table.now c.args.schema.now none (absent ∙ c.if-has_table.false) in
    let Q : Fact → Type 0 = λ f. OnOk c.make.result (Adds c.args.self.now c.make.new.self c.args.who f) in
    subst Q (sym is) c.make.ensures.entry

pub returns-clause-reply : goal.returns-clause-reply
returns-clause-reply g c =
    let l = c.self.inside in
    let none = seen_outside c.args.who.session l.chronicle.entries l.history l.running.items _ l.catalog l.chronicle.spare l.last_number _ c.args.self.now c.self.invariant c.self.view_is
    c.as_slice.ensures.value c.place_of.ensures (sym c.is_some.ensures ∙ c.if-is_some.false) in
    let absent = seen_table c.args.table.now l.chronicle.entries l.history l.running.items l.catalog l.chronicle.spare l.last_number _ c.args.self.now c.self.invariant c.self.view_is c.has_table.ensures in
    let is = free_creates (state_of c.args.self.now) c.args.who.session c.args.table.now c.args.schema.now none (absent ∙ c.if-has_table.false) in
    let Q : Fact → Type 0 = λ f. IfOk c.make.result (λ r. r ≡ facts.answer f) in
    subst Q (sym is) c.make.ensures.reply
