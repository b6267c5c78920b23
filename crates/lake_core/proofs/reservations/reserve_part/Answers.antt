use Rattle.std.proofs.Common.{◌≡◌, subst, sym, true}
use Rattle.sql_model.specs.declared.changes.Added.{Added}
use Rattle.table_history.specs.Histories.{has_spare_rows}
use Rattle.lake_core.specs.Rooms.{rows_needed}
use Rattle.lake_core.proofs.ReserveLemmas.{if_made, room_again, room_more, there_is}
use Rattle.lake_core.proofs.reservations.reserve_part.Goals as goal

pub returns-then-repeats-clause-room : goal.returns-then-repeats-clause-room
returns-then-repeats-clause-room c = λ rooms.
    let (part, is) = there_is c.args.named.now c.args.place c.requires.within in
    room_again (rows_needed c.args.running.now c.args.added.now c.args.more.now) c.args.named.now c.args.history.now c.args.place part is c.requires.within (c.repeats.ensures c.if-repeats.true part is) rooms

pub returns-clause-room : goal.returns-clause-room
returns-clause-room c = λ rooms.
    let need = rows_needed c.args.running.now c.args.added.now c.args.more.now in
    let part = c.index-named-place in
    let P : Added → Type 0 = λ a. has_spare_rows c.reserve_table.new.history.spares a.table (need a.table) ≡ true in
    if_made c.reserve_table.result
    (λ room. room_more need c.args.named.now c.args.history.now c.reserve_table.new.history c.args.place part.result part.is c.requires.within c.reserve_table.ensures.keeps (subst P (sym part.is) room) rooms)
    c.reserve_table.ensures.room
