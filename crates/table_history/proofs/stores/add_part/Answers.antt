use Rattle.std.proofs.Common.{◌∙◌, List, ap, refl, sym, map, arith, ◌++◌, length}
use Rattle.lake_values.specs.declared.values.Value.{Value}
use Rattle.table_history.specs.declared.kept.Kept.{Kept}
use Rattle.table_history.specs.Stores.{Stored, grown_store, kept_by, spare_at, stored}
use Rattle.table_history.proofs.PlaceLemmas.{found_at, found_nowhere, named_at, part_room, part_rooms, put_at, put_nowhere, room_weaker}
use Rattle.table_history.proofs.StoreLemmas.{other_stays, own_grows}
use Rattle.table_history.proofs.stores.add_part.Goals as goal

pub returns-in_default-clause-stores : goal.returns-in_default-clause-stores
returns-in_default-clause-stores c =
    put_nowhere (grown_store c.args.seq c.args.added) c.args.added.table (other_stays c.args.seq c.args.added) c.args.stores.now.items
    (found_nowhere c.args.added.table c.args.stores.now.items _ _ c.as_slice.ensures.value c.place_of.ensures c.in_default.is)

pub returns-in_default-clause-room : goal.returns-in_default-clause-room
returns-in_default-clause-room c = λ name rows room. room_weaker (map spare_at c.args.stores.now.items) name _ rows room

pub put_rows-requires : goal.put_rows-requires
put_rows-requires c =
    let s = c.index_mut-store.result.now in
    let table = c.args.added.table in
    let xs = c.args.stores.now.items in
    let at = found_at table xs _ _ c.in-Some.place c.as_slice.ensures.value c.place_of.ensures c.in-Some.is in
    let room = part_room table xs c.in-Some.place s (length c.args.added.rows) at c.index_mut-store.ensures.value s.rows.ok.1 (c.requires.room table) in
    omega (arith, room, c.into_rows-rows.result.ok.0, ap (λ (rows : List (List Value)). length rows) c.into_rows-rows.ensures)

pub returns-clause-stores : goal.returns-clause-stores
returns-clause-stores c =
    let at = found_at c.args.added.table c.args.stores.now.items _ _ c.in-Some.place c.as_slice.ensures.value c.place_of.ensures c.in-Some.is in
    let s = c.index_mut-store.result.now in
    let named = named_at c.args.added.table c.args.stores.now.items c.in-Some.place s at c.index_mut-store.ensures.value in
    put_at (grown_store c.args.seq c.args.added) c.args.added.table (other_stays c.args.seq c.args.added) c.args.stores.now.items c.in-Some.place s _ c.requires.own_names at c.index_mut-store.ensures.value
    (let P : List Kept → Stored = λ rows. record { name = s.name; schema = s.schema; created = s.created; rows = rows } in
    ap P (c.put_rows.ensures.rows ∙ ap (λ (rows : List (List Value)). s.rows.items ++ map (kept_by s.schema c.args.seq c.args.added.part) rows) c.into_rows-rows.ensures) ∙ sym (own_grows c.args.seq c.args.added (stored s) named))

pub returns-clause-room : goal.returns-clause-room
returns-clause-room c =
    let s = c.index_mut-store.result.now in
    let table = c.args.added.table in
    let xs = c.args.stores.now.items in
    let at = found_at table xs _ _ c.in-Some.place c.as_slice.ensures.value c.place_of.ensures c.in-Some.is in
    part_rooms table xs c.in-Some.place s _ (length c.args.added.rows) at c.index_mut-store.ensures.value refl c.put_rows.ensures.capacity
    (omega (arith, c.put_rows.ensures.len, c.into_rows-rows.result.ok.0, ap (λ (rows : List (List Value)). length rows) c.into_rows-rows.ensures))
