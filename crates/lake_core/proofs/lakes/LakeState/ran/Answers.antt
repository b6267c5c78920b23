use Rattle.std.proofs.Common.{◌≡◌, ◌+◌, ◌∙◌, ◌≤◌, ◌++◌, ◌∷◌, [], ap, arith, refl, sym, subst, List, ℕ, length, true}
use Rattle.std.specs.Prelude.{IsSome, get_or, is_some, vec_len}
use Rattle.std.specs.Option.{option_map_or}
use Rattle.std.specs.List.{remove}
use Rattle.lake_model.specs.declared.entries.Entry.{Entry}
use Rattle.lake_model.specs.declared.entries.Fact.TheVariants as fact
use Rattle.lake_model.specs.State.{parts_of, state, transaction}
use Rattle.lake_core.specs.declared.transactions.KeptTransaction.{KeptTransaction}
use Rattle.lake_core.specs.Consistency.{IsConsistent, chronicle_of}
use Rattle.lake_core.specs.Lakes.{HasPart, IsStatementEffect, Lake, state_of}
use Rattle.lake_core.specs.Rooms.{IsPartChange, KeepsRooms, catalog_rows_for, rows_needed, table_rows_for, total}
use Rattle.table_history.specs.Histories.{has_spare_rows as has_rows}
use Rattle.lake_core.proofs.PartChangeLemmas.{Goes, goes_reserved, goes_rooms, part_within, ran_allowed, ran_open, ran_stands}
use Rattle.lake_core.proofs.ConsistencyLemmas.{adds_at, consistent_at, consistent_more}
use Rattle.lake_core.proofs.OpenLemmas.{at_once, found_at, part_fits}
use Rattle.lake_core.proofs.ReserveLemmas.{more_rooms, open_found, reserved_consistent}
use Rattle.lake_core.proofs.lakes.LakeState.ran.Goals as goal

pub unwrap-place-requires : goal.unwrap-place-requires
unwrap-place-requires g c =
    let l = c.self.inside in
    let P : Lake → Type 0 = λ lake. IsSome (transaction (state_of lake) c.args.who.session) in
    open_found c.args.who.session (state (chronicle_of l.chronicle.entries)) l.running.items _ _ c.as_slice.ensures.value c.place_of.ensures c.self.invariant.stands.open_ones (subst P (sym c.self.view_is) c.requires.running)

pub invariant_of-self : goal.invariant_of-self
invariant_of-self g c =
    let l = c.self.inside in
    let consistent = c.self.invariant in
    let made = c.room_again.ensures in
    let same = c.as_slice-2.ensures.value in
    let T : List KeptTransaction → Type 0 = λ rs. total catalog_rows_for rs ≤ c.room_again.new.catalog.spare in
    let T' : List KeptTransaction → Type 0 = λ rs. total catalog_rows_for rs ≤ l.catalog.spare in
    reserved_consistent l.chronicle.entries c.room_again.new.chronicle.entries l.history c.room_again.new.history l.running.items l.running.items l.catalog c.room_again.new.catalog l.chronicle.spare c.room_again.new.chronicle.spare l.last_number consistent
    made.entries made.first made.tables made.rows consistent.stands.open_ones consistent.stands.own_sessions
    (more_rooms l.running.items l.history c.room_again.new.history l.catalog c.room_again.new.catalog l.chronicle.spare c.room_again.new.chronicle.spare consistent.stands.rooms made.chronicle_keeps made.history_keeps (subst T same (made.catalog_keeps (subst T' (sym same) consistent.stands.rooms.catalog_rows))))

pub after-requires-clause-parts : goal.after-requires-clause-parts
after-requires-clause-parts g c =
    let l = c.self.inside in
    let rs = l.running.items in
    let at = found_at c.args.who.session rs _ _ c.unwrap-place.result c.as_slice.ensures.value c.place_of.ensures c.unwrap-place.ensures in
    let P : Lake → Type 0 = λ lake. HasPart (state_of lake) c.args.who.session in
    let fits = part_fits c.args.who.session (state (chronicle_of l.chronicle.entries)) rs c.unwrap-place.result c.take-before.result c.self.invariant.stands.open_ones at c.take-before.ensures.taken (subst P (sym c.self.view_is) c.requires.part) in
    omega (arith, part_within c.in_ok-ran.ran.reply c.take-before.result.parts fits, c.parts_of.ensures)

goes : (g : _) (c : goal.After-put_first g) → Goes c.args.who.session c.self.inside.running.items c.unwrap-place.result c.take-before.result c.after.result c.args.change c.args.reply c.in_ok-ran.ran.more c.in_ok-room.room
goes g c =
    let session = c.args.who.session in
    let rs = c.self.inside.running.items in
    let place = c.unwrap-place.result in
    let before = c.take-before.result in
    let at = found_at session rs _ _ place c.as_slice.ensures.value c.place_of.ensures c.unwrap-place.ensures in
    let taken : before ≡ get_or rs place before = c.take-before.ensures.taken in
    let there = taken ∙ ap (λ (os : List KeptTransaction). get_or os place before) (sym c.as_slice-2.ensures.value) in
    let P : KeptTransaction → Type 0 = λ o. IsPartChange o c.args.change c.in_ok-ran.ran.more in
    let further = subst P (at_once session rs place c.index.result.now before at c.index.ensures taken) c.in_ok-ran.ensures.change in
    record {
      at = at;
      is = taken;
      further = further;
      pended = c.after.ensures.pended c.args.change further;
      parts = c.after.ensures.parts ∙ ap (λ (n : ℕ). before.parts + n) (c.parts_of.ensures ∙ ap parts_of c.in_ok-ran.ensures.reply);
      room_is = c.after.ensures.room;
      kept = c.in_ok-room.ensures.kept before there;
      made = c.in_ok-room.ensures.made before there;
    }

pub invariant_of-self-2 : goal.invariant_of-self-2
invariant_of-self-2 g c =
    let l = c.self.inside in
    let session = c.args.who.session in
    let rs = l.running.items in
    let place = c.unwrap-place.result in
    let before = c.take-before.result in
    let after = c.after.result in
    let st = state (chronicle_of l.chronicle.entries) in
    let consistent = c.self.invariant in
    let it = goes g c in
    let made = c.in_ok-room.ensures in
    let same = c.as_slice-2.ensures.value in
    let h = c.room_again.new.history in
    let catalog = c.room_again.new.catalog in
    let spare = c.room_again.new.chronicle.spare in
    let more = c.in_ok-ran.ran.more in
    let now = c.put_first.ensures ∙ ap (λ (os : List KeptTransaction). after ∷ os) c.take-before.ensures.others in
    let there = it.is ∙ ap (λ (os : List KeptTransaction). get_or os place before) (sym same) in
    let T : List KeptTransaction → Type 0 = λ os. total catalog_rows_for os ≤ catalog.spare in
    let T' : List KeptTransaction → Type 0 = λ os. total catalog_rows_for os ≤ l.catalog.spare in
    let rows' = subst T' (sym same) consistent.stands.rooms.catalog_rows in
    let kept = reserved_consistent l.chronicle.entries l.chronicle.entries l.history h rs rs l.catalog catalog l.chronicle.spare spare l.last_number consistent
    refl made.first made.tables made.rows consistent.stands.open_ones consistent.stands.own_sessions
    (more_rooms rs l.history h l.catalog catalog l.chronicle.spare spare consistent.stands.rooms made.chronicle_keeps made.history_keeps (subst T same (made.catalog_keeps rows'))) in
    let E : List KeptTransaction → Type 0 = λ os. 1 + length os ≤ spare in
    let R : List KeptTransaction → Type 0 = λ os. total catalog_rows_for os + option_map_or (λ room. vec_len room.rows) c.in_ok-room.room 0 ≤ catalog.spare in
    let N : List KeptTransaction → Type 0 = λ os. is_some before.room ≡ true → (name : List ℕ) → has_rows h.spares name (rows_needed os before.added.items more.added.items name) ≡ true in
    let N' : List KeptTransaction → Type 0 = λ os. (name : List ℕ) → has_rows l.history.spares name (total (table_rows_for name) os) ≡ true in
    let rooms = goes_reserved session rs place before after c.args.change c.args.reply more c.in_ok-room.room h catalog c.push.new.self.spare it consistent.stands.rooms.fit
    (omega (arith, subst E same made.entries_room, c.push.ensures.room)) (subst R same (made.rows_room rows')) (λ name. made.history_keeps name (total (table_rows_for name) rs) (consistent.stands.rooms.table_rows name))
    (subst N same (made.tables_room (subst N' (sym same) consistent.stands.rooms.table_rows) before there)) in
    let S : Lake → Type 0 = λ lake. IsSome (transaction (state_of lake) session) in
    let F : Lake → Type 0 = λ lake. IsStatementEffect (state_of lake) session (c.args.reply, c.args.change) in
    let allowed = ran_allowed session c.args.reply c.args.change st (subst S (sym c.self.view_is) c.requires.running) (subst F (sym c.self.view_is) c.requires.effect) in
    let P : List KeptTransaction → Type 0 = λ os. IsConsistent (chronicle_of c.push.new.self.entries) h os catalog c.push.new.self.spare l.last_number in
    subst P (sym now) (consistent_at c.args.who (fact.Ran c.args.reply c.args.change) l.chronicle.entries c.push.new.self.entries c.in_ok-ran.ran.did
    (c.push.ensures.entries ∙ ap (λ (es : List Entry). es ++ c.in_ok-ran.ran.did ∷ []) made.entries) c.in_ok-ran.ensures.entry _ _ _ _ _
    (consistent_more _ _ _ _ _ _ _ consistent.legal allowed
    (ran_stands st _ session c.args.reply c.args.change h rs (after ∷ remove rs place) catalog spare c.push.new.self.spare l.last_number kept.stands
    (ran_open session c.args.reply c.args.change st rs place before after consistent.stands.open_ones consistent.stands.own_sessions it.at it.is it.pended it.parts)
    (goes_rooms session rs place before after c.args.change c.args.reply more c.in_ok-room.room it consistent.stands.own_sessions).own rooms)))

pub returns-clause-entry : goal.returns-clause-entry
returns-clause-entry g c =
    let l = c.self.inside in
    let rs = l.running.items in
    let place = c.unwrap-place.result in
    let after = c.after.result in
    let now = c.put_first.ensures ∙ ap (λ (os : List KeptTransaction). after ∷ os) c.take-before.ensures.others in
    let K : List KeptTransaction → Type 0 = λ os. KeepsRooms c.args.who.session rs os in
    let keeps = goes_rooms c.args.who.session rs place c.take-before.result after c.args.change c.args.reply c.in_ok-ran.ran.more c.in_ok-room.room (goes g c) c.self.invariant.stands.own_sessions in
    adds_at c.args.who (fact.Ran c.args.reply c.args.change) l.chronicle.entries c.push.new.self.entries c.in_ok-ran.ran.did
    (c.push.ensures.entries ∙ ap (λ (es : List Entry). es ++ c.in_ok-ran.ran.did ∷ []) c.in_ok-room.ensures.entries) c.in_ok-ran.ensures.entry
    rs c.put_first.new.running.items (subst K (sym now) keeps) (invariant_of-self-2 g c) c.args.self.now c.self.view_is
