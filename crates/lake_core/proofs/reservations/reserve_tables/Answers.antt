use Rattle.lake_core.proofs.ReserveLemmas.{if_made, room_all}
use Rattle.lake_core.proofs.reservations.reserve_tables.Goals as goal

pub returns-clause-room : goal.returns-clause-room
returns-clause-room c = λ rooms.
    if_made c.reserve_named-2.result
    (λ second. room_all c.args.running.now c.args.added.now c.args.more.now c.args.history.now c.reserve_named.new.history c.reserve_named-2.new.history c.reserve_named.ensures.keeps c.reserve_named-2.ensures.keeps
    c.in_ok-reserve_named.ensures.room second rooms)
    c.reserve_named-2.ensures.room
