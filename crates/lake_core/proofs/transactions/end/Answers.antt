use Rattle.std.proofs.Common.{◌≤◌, ◌+◌, sym, subst, List}
use Rattle.lake_model.specs.State.{ended}
use Rattle.lake_core.specs.declared.transactions.KeptTransaction.{KeptTransaction}
use Rattle.lake_core.specs.Rooms.{AreOpen, LeavesRooms, entries_for, total}
use Rattle.lake_core.proofs.OpenLemmas.{entry_freed, found_at, found_nowhere, no_open, no_room, same_rooms, taken_rooms, without_open}
use Rattle.lake_core.proofs.transactions.end.Goals as goal

pub returns-in-Some-clause-ended : goal.returns-in-Some-clause-ended
returns-in-Some-clause-ended c = λ st open_.
    let at = found_at c.args.session c.args.running.now.items _ _ c.in-Some.place c.as_slice.ensures.value c.place_of.ensures c.in-Some.is in
    let P : List KeptTransaction → Type 0 = λ rs. AreOpen (ended c.args.session st).running rs in
    subst P (sym c.take-ended.ensures.others) (without_open c.args.session st.running c.args.running.now.items c.in-Some.place open_ c.requires at)

pub returns-in-Some-clause-rooms : goal.returns-in-Some-clause-rooms
returns-in-Some-clause-rooms c =
    let at = found_at c.args.session c.args.running.now.items _ _ c.in-Some.place c.as_slice.ensures.value c.place_of.ensures c.in-Some.is in
    let P : List KeptTransaction → Type 0 = λ rs. LeavesRooms c.args.session c.args.running.now.items rs in
    subst P (sym c.take-ended.ensures.others) (taken_rooms c.args.session c.args.running.now.items c.in-Some.place _ c.requires at c.take-ended.ensures.taken)

pub returns-in_default-clause-ended : goal.returns-in_default-clause-ended
returns-in_default-clause-ended c = λ st open_.
    no_open c.args.session st.running c.args.running.now.items open_ (found_nowhere c.args.session c.args.running.now.items _ _ c.as_slice.ensures.value c.place_of.ensures c.in_default.is)

pub returns-in_default-clause-rooms : goal.returns-in_default-clause-rooms
returns-in_default-clause-rooms c =
    same_rooms c.args.session c.args.running.now.items c.requires (found_nowhere c.args.session c.args.running.now.items _ _ c.as_slice.ensures.value c.place_of.ensures c.in_default.is)

pub returns-in-Some-clause-freed : goal.returns-in-Some-clause-freed
returns-in-Some-clause-freed c = λ reserved.
    let rs = c.args.running.now.items in
    let at = found_at c.args.session rs _ _ c.in-Some.place c.as_slice.ensures.value c.place_of.ensures c.in-Some.is in
    let P : List KeptTransaction → Type 0 = λ rs'. total entries_for rs' + 1 ≤ total entries_for rs in
    subst P (sym c.take-ended.ensures.others) (entry_freed c.args.session rs c.in-Some.place _ c.requires at c.take-ended.ensures.taken reserved)

pub returns-in_default-clause-freed : goal.returns-in_default-clause-freed
returns-in_default-clause-freed c = λ reserved.
    let none = no_room c.args.session c.args.running.now.items (found_nowhere c.args.session c.args.running.now.items _ _ c.as_slice.ensures.value c.place_of.ensures c.in_default.is) in
    absurd cc
