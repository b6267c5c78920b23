use Rattle.std.proofs.Common.{◌+◌, ◌∙◌, ◌∷◌, sym, subst, List, false}
use Rattle.lake_model.specs.State.{after_stop}
use Rattle.lake_core.specs.declared.transactions.KeptTransaction.{KeptTransaction}
use Rattle.lake_core.specs.Rooms.{AreOpen, LeavesRooms}
use Rattle.lake_core.proofs.OpenLemmas.{found_at, found_nowhere, part_fits, part_rooms, same_rooms, stop_explicit, stop_none, stop_single, taken_rooms}
use Rattle.lake_core.proofs.transactions.stop.Goals as goal

pub returns-in_default-clause-stopped : goal.returns-in_default-clause-stopped
returns-in_default-clause-stopped c = λ st open_.
    stop_none c.args.session st c.args.running.now.items open_ (found_nowhere c.args.session c.args.running.now.items _ _ c.as_slice.ensures.value c.place_of.ensures c.in_default.is)

pub returns-in_default-clause-rooms : goal.returns-in_default-clause-rooms
returns-in_default-clause-rooms c =
    same_rooms c.args.session c.args.running.now.items c.requires.own (found_nowhere c.args.session c.args.running.now.items _ _ c.as_slice.ensures.value c.place_of.ensures c.in_default.is)

pub with_part-requires : goal.with_part-requires
with_part-requires c =
    let at = found_at c.args.session c.args.running.now.items _ _ c.in-Some.place c.as_slice.ensures.value c.place_of.ensures c.in-Some.is in
    let (st, open_, part) = c.requires.part in
    part_fits c.args.session st c.args.running.now.items c.in-Some.place _ open_ at c.take-stopped.ensures.taken part

pub returns-then-stopped-clause-stopped : goal.returns-then-stopped-clause-stopped
returns-then-stopped-clause-stopped c = λ st open_.
    let at = found_at c.args.session c.args.running.now.items _ _ c.in-Some.place c.as_slice.ensures.value c.place_of.ensures c.in-Some.is in
    let P : List KeptTransaction → Type 0 = λ rs. AreOpen (after_stop c.args.session false st).running rs in
    let now = c.put_first.ensures ∙ (λ i. c.with_part.ensures i ∷ c.take-stopped.ensures.others i) in
    subst P (sym now) (stop_explicit c.args.session st c.args.running.now.items c.in-Some.place c.take-stopped.result open_ c.requires.own at c.take-stopped.ensures.taken c.if-stopped.true)

pub returns-then-stopped-clause-rooms : goal.returns-then-stopped-clause-rooms
returns-then-stopped-clause-rooms c =
    let rs = c.args.running.now.items in
    let at = found_at c.args.session rs _ _ c.in-Some.place c.as_slice.ensures.value c.place_of.ensures c.in-Some.is in
    let P : List KeptTransaction → Type 0 = λ rs'. LeavesRooms c.args.session rs rs' in
    let now = c.put_first.ensures ∙ (λ i. c.with_part.ensures i ∷ c.take-stopped.ensures.others i) in
    subst P (sym now) (part_rooms c.args.session rs c.in-Some.place c.take-stopped.result (c.take-stopped.result.parts + 1) c.requires.own at c.take-stopped.ensures.taken)

pub returns-else-stopped-clause-stopped : goal.returns-else-stopped-clause-stopped
returns-else-stopped-clause-stopped c = λ st open_.
    let at = found_at c.args.session c.args.running.now.items _ _ c.in-Some.place c.as_slice.ensures.value c.place_of.ensures c.in-Some.is in
    let P : List KeptTransaction → Type 0 = λ rs. AreOpen (after_stop c.args.session false st).running rs in
    subst P (sym c.take-stopped.ensures.others) (stop_single c.args.session st c.args.running.now.items c.in-Some.place c.take-stopped.result open_ c.requires.own at c.take-stopped.ensures.taken c.if-stopped.false)

pub returns-else-stopped-clause-rooms : goal.returns-else-stopped-clause-rooms
returns-else-stopped-clause-rooms c =
    let at = found_at c.args.session c.args.running.now.items _ _ c.in-Some.place c.as_slice.ensures.value c.place_of.ensures c.in-Some.is in
    let P : List KeptTransaction → Type 0 = λ rs. LeavesRooms c.args.session c.args.running.now.items rs in
    subst P (sym c.take-stopped.ensures.others) (taken_rooms c.args.session c.args.running.now.items c.in-Some.place _ c.requires.own at c.take-stopped.ensures.taken)
