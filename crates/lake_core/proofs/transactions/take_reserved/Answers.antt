use Rattle.std.proofs.Common.{◌+◌, ◌∙◌, ap, sym, subst, List}
use Rattle.lake_model.specs.State.{ended}
use Rattle.lake_core.specs.declared.transactions.KeptTransaction.{KeptTransaction}
use Rattle.lake_core.specs.Rooms.{AreOpen, LeavesRooms, total}
use Rattle.lake_core.proofs.OpenLemmas.{found_at, open_at, reserved_found, room_there, taken_rooms, total_left, without_open}
use Rattle.lake_core.proofs.transactions.take_reserved.Goals as goal

pub unwrap-place-requires : goal.unwrap-place-requires
unwrap-place-requires c = reserved_found c.args.session c.args.running.now.items _ _ c.as_slice.ensures.value c.place_of.ensures c.requires.reserved

pub returns-clause-taken : goal.returns-clause-taken
returns-clause-taken c = λ st open_.
    let at = found_at c.args.session c.args.running.now.items _ _ c.unwrap-place.result c.as_slice.ensures.value c.place_of.ensures c.unwrap-place.ensures in
    open_at c.args.session st.running c.args.running.now.items c.unwrap-place.result c.take.result open_ at c.take.ensures.taken

pub returns-clause-ended : goal.returns-clause-ended
returns-clause-ended c = λ st open_.
    let at = found_at c.args.session c.args.running.now.items _ _ c.unwrap-place.result c.as_slice.ensures.value c.place_of.ensures c.unwrap-place.ensures in
    let P : List KeptTransaction → Type 0 = λ rs. AreOpen (ended c.args.session st).running rs in
    subst P (sym c.take.ensures.others) (without_open c.args.session st.running c.args.running.now.items c.unwrap-place.result open_ c.requires.own at)

pub returns-clause-rooms : goal.returns-clause-rooms
returns-clause-rooms c =
    let at = found_at c.args.session c.args.running.now.items _ _ c.unwrap-place.result c.as_slice.ensures.value c.place_of.ensures c.unwrap-place.ensures in
    let P : List KeptTransaction → Type 0 = λ rs. LeavesRooms c.args.session c.args.running.now.items rs in
    subst P (sym c.take.ensures.others) (taken_rooms c.args.session c.args.running.now.items c.unwrap-place.result c.take.result c.requires.own at c.take.ensures.taken)

pub returns-clause-reserved : goal.returns-clause-reserved
returns-clause-reserved c =
    let at = found_at c.args.session c.args.running.now.items _ _ c.unwrap-place.result c.as_slice.ensures.value c.place_of.ensures c.unwrap-place.ensures in
    room_there c.args.session c.args.running.now.items c.unwrap-place.result c.take.result c.requires.own at c.take.ensures.taken c.requires.reserved

pub returns-clause-weights : goal.returns-clause-weights
returns-clause-weights c = λ g.
    let at = found_at c.args.session c.args.running.now.items _ _ c.unwrap-place.result c.as_slice.ensures.value c.place_of.ensures c.unwrap-place.ensures in
    total_left g c.args.session c.args.running.now.items c.unwrap-place.result c.take.result at c.take.ensures.taken ∙ ap (λ (rs : List KeptTransaction). g c.take.result + total g rs) (sym c.take.ensures.others)
