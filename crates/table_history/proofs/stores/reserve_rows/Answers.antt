use Rattle.std.proofs.Common.{◌≡◌, ◌∙◌, ◌≤◌, ◌+◌, ◌-◌, ap, refl, arith, nat_le, true, List, ℕ}
use Rattle.table_history.specs.declared.kept.Kept.{Kept}
use Rattle.table_history.specs.Stores.{Stored, stored}
use Rattle.table_history.proofs.PlaceLemmas.{found_at, found_nowhere, first_within, more_room, room_nowhere, room_put, unseen}
use Rattle.table_history.proofs.stores.reserve_rows.Goals as goal

enough : (rows c l : ℕ) → l + rows ≤ c → nat_le rows (c - l) ≡ true
enough rows c l h = grind arith

pub returns-in_default-clause-room : goal.returns-in_default-clause-room
returns-in_default-clause-room c =
    room_nowhere c.args.table.now c.args.stores.now.items c.args.rows (found_nowhere c.args.table.now c.args.stores.now.items _ _ c.as_slice.ensures.value c.place_of.ensures c.in_default.is)

pub returns-in_err-reserve-clause-stores : goal.returns-in_err-reserve-clause-stores
returns-in_err-reserve-clause-stores c =
    let s = c.index_mut.result.now in
    let P : List Kept → Stored = λ rows. record { name = s.name; schema = s.schema; created = s.created; rows = rows } in
    unseen stored c.args.stores.now.items c.in-Some.place s _ (let at = found_at c.args.table.now c.args.stores.now.items _ _ c.in-Some.place c.as_slice.ensures.value c.place_of.ensures c.in-Some.is in first_within _ _ _ at) c.index_mut.ensures.value (ap P c.in_err-reserve.ensures.items)

pub returns-in_err-reserve-clause-keeps : goal.returns-in_err-reserve-clause-keeps
returns-in_err-reserve-clause-keeps c = λ name more room.
    let s = c.index_mut.result.now in
    more_room c.args.stores.now.items c.in-Some.place s _ (let at = found_at c.args.table.now c.args.stores.now.items _ _ c.in-Some.place c.as_slice.ensures.value c.place_of.ensures c.in-Some.is in first_within _ _ _ at) c.index_mut.ensures.value refl
    (omega (arith, c.in_err-reserve.ensures.capacity, c.in_err-reserve.ensures.len)) name more room

pub returns-clause-stores : goal.returns-clause-stores
returns-clause-stores c =
    let s = c.index_mut.result.now in
    let P : List Kept → Stored = λ rows. record { name = s.name; schema = s.schema; created = s.created; rows = rows } in
    unseen stored c.args.stores.now.items c.in-Some.place s _ (let at = found_at c.args.table.now c.args.stores.now.items _ _ c.in-Some.place c.as_slice.ensures.value c.place_of.ensures c.in-Some.is in first_within _ _ _ at) c.index_mut.ensures.value (ap P c.in_ok-reserve.ensures.items)

pub returns-clause-keeps : goal.returns-clause-keeps
returns-clause-keeps c = λ name more room.
    let s = c.index_mut.result.now in
    more_room c.args.stores.now.items c.in-Some.place s _ (let at = found_at c.args.table.now c.args.stores.now.items _ _ c.in-Some.place c.as_slice.ensures.value c.place_of.ensures c.in-Some.is in first_within _ _ _ at) c.index_mut.ensures.value refl
    (omega (arith, c.in_ok-reserve.ensures.capacity, c.in_ok-reserve.ensures.len)) name more room

pub returns-clause-room : goal.returns-clause-room
returns-clause-room c =
    let s = c.index_mut.result.now in
    let at = found_at c.args.table.now c.args.stores.now.items _ _ c.in-Some.place c.as_slice.ensures.value c.place_of.ensures c.in-Some.is in
    room_put c.args.table.now c.args.stores.now.items c.in-Some.place c.args.rows s _ at c.index_mut.ensures.value refl
    ∙ enough c.args.rows _ _ c.in_ok-reserve.ensures.ok
