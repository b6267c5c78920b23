use Rattle.std.proofs.Common.{◌≡◌, ◌+◌, ◌∙◌, ◌≤◌, ◌++◌, ap, arith, sym, subst, List, ℕ, length, true}
use Rattle.std.proofs.lemmas.List.{append-nil}
use Rattle.sql_model.specs.declared.changes.MarkedRow.{MarkedRow}
use Rattle.std.specs.Prelude.{IsSome, get_or, vec_len}
use Rattle.lake_model.specs.State.{state, transaction}
use Rattle.table_history.specs.Histories.{has_spare_rows as has_rows, rows_for}
use Rattle.lake_core.specs.declared.transactions.KeptTransaction.{KeptTransaction}
use Rattle.lake_core.specs.Consistency.{IsConsistent, chronicle_of}
use Rattle.lake_core.specs.Lakes.{Lake, is_reserved, state_of}
use Rattle.lake_core.specs.Rooms.{IsRoomFor, catalog_rows_for, in_rooms, rows_needed, table_rows_for, total, with_room}
use Rattle.lake_core.proofs.ConsistencyLemmas.{fewer_rows}
use Rattle.lake_core.proofs.OpenLemmas.{found_at, mine_kept, open_kept, others_kept, own_room}
use Rattle.lake_core.proofs.ReserveLemmas.{at_some, made_rooms, more_rooms, open_found, reserved_consistent}
use Rattle.lake_core.proofs.lakes.LakeState.reserve.Goals as goal

pub unwrap-place-requires : goal.unwrap-place-requires
unwrap-place-requires g c =
    let l = c.self.inside in
    let P : Lake → Type 0 = λ lake. IsSome (transaction (state_of lake) c.args.session) in
    open_found c.args.session (state (chronicle_of l.chronicle.entries)) l.running.items _ _ c.as_slice.ensures.value c.place_of.ensures c.self.invariant.stands.open_ones (subst P (sym c.self.view_is) c.requires.running)

pub invariant_of-self : goal.invariant_of-self
invariant_of-self g c =
    let l = c.self.inside in
    let consistent = c.self.invariant in
    let made = c.room_for.ensures in
    let same = c.as_slice-2.ensures.value in
    let T : List KeptTransaction → Type 0 = λ rs. total catalog_rows_for rs ≤ c.room_for.new.catalog.spare in
    let T' : List KeptTransaction → Type 0 = λ rs. total catalog_rows_for rs ≤ l.catalog.spare in
    reserved_consistent l.chronicle.entries c.room_for.new.chronicle.entries l.history c.room_for.new.history l.running.items l.running.items l.catalog c.room_for.new.catalog l.chronicle.spare c.room_for.new.chronicle.spare l.last_number consistent
    made.entries made.first made.tables made.rows consistent.stands.open_ones consistent.stands.own_sessions
    (more_rooms l.running.items l.history c.room_for.new.history l.catalog c.room_for.new.catalog l.chronicle.spare c.room_for.new.chronicle.spare consistent.stands.rooms made.chronicle_keeps made.history_keeps (subst T same (made.catalog_keeps (subst T' (sym same) consistent.stands.rooms.catalog_rows))))

pub invariant_of-self-2 : goal.invariant_of-self-2
invariant_of-self-2 g c =
    let l = c.self.inside in
    let consistent = c.self.invariant in
    let made = c.in_ok-room.ensures in
    let rs = l.running.items in
    let place = c.unwrap-place.result in
    let room = c.in_ok-room.room in
    let same = c.as_slice-2.ensures.value in
    let at = found_at c.args.session rs _ _ place c.as_slice.ensures.value c.place_of.ensures c.unwrap-place.ensures in
    let here = at_some c.args.session rs place at in
    let there = here.1 ∙ ap (λ (os : List KeptTransaction). get_or os place here.0) (sym same) in
    let M : List MarkedRow → Type 0 = λ rows. IsRoomFor rows room in
    let E : List KeptTransaction → Type 0 = λ os. length os ≤ c.room_for.new.chronicle.spare in
    let R : List KeptTransaction → Type 0 = λ os. total catalog_rows_for os + vec_len room.rows ≤ c.room_for.new.catalog.spare in
    let T : List KeptTransaction → Type 0 = λ os. (name : List ℕ) → has_rows c.room_for.new.history.spares name (rows_needed os here.0.added.items c.nothing-more.result.added.items name) ≡ true in
    let T' : List KeptTransaction → Type 0 = λ os. (name : List ℕ) → has_rows l.history.spares name (total (table_rows_for name) os) ≡ true in
    let P : List KeptTransaction → Type 0 = λ os. IsConsistent (chronicle_of c.room_for.new.chronicle.entries) c.room_for.new.history os c.room_for.new.catalog c.room_for.new.chronicle.spare l.last_number in
    subst P (sym c.put_room.ensures) (reserved_consistent l.chronicle.entries c.room_for.new.chronicle.entries l.history c.room_for.new.history rs (with_room room rs place) l.catalog c.room_for.new.catalog l.chronicle.spare c.room_for.new.chronicle.spare l.last_number consistent
    made.entries made.first made.tables made.rows (open_kept room (state (chronicle_of l.chronicle.entries)).running rs place consistent.stands.open_ones) (own_room room rs place consistent.stands.own_sessions)
    (made_rooms rs place here.0 room l.history c.room_for.new.history l.catalog c.room_for.new.catalog l.chronicle.spare c.room_for.new.chronicle.spare consistent.stands.rooms here.1 (subst M (ap (λ (rows : List MarkedRow). here.0.removed.items ++ rows) c.nothing-more.ensures.removed ∙ append-nil here.0.removed.items) (made.made here.0 there)) (subst E same made.entries_room) (subst R same made.rows_room)
    (λ name. fewer_rows c.room_for.new.history.spares name (total (table_rows_for name) rs + rows_for name here.0.added.items) (rows_needed rs here.0.added.items c.nothing-more.result.added.items name)
    (omega arith) (subst T same (made.tables_room (subst T' (sym same) consistent.stands.rooms.table_rows) here.0 there) name))))

pub returns-clause-room : goal.returns-clause-room
returns-clause-room g c =
    let l = c.self.inside in
    let at = found_at c.args.session l.running.items _ _ c.unwrap-place.result c.as_slice.ensures.value c.place_of.ensures c.unwrap-place.ensures in
    ap (λ (os : List KeptTransaction). in_rooms c.args.session os) c.put_room.ensures ∙ mine_kept c.args.session c.in_ok-room.room l.running.items c.unwrap-place.result at

pub returns-clause-others : goal.returns-clause-others
returns-clause-others g c = λ other differ.
    let l = c.self.inside in
    let at = found_at c.args.session l.running.items _ _ c.unwrap-place.result c.as_slice.ensures.value c.place_of.ensures c.unwrap-place.ensures in
    ap (λ (os : List KeptTransaction). in_rooms other os) c.put_room.ensures ∙ others_kept c.args.session other c.in_ok-room.room l.running.items c.unwrap-place.result at differ
    ∙ ap (λ (lake : Lake). is_reserved lake other) c.self.view_is
