use Rattle.lake_core.specs.Rooms.{rows_needed}
use Rattle.lake_core.proofs.ReserveLemmas.{room_named}
use Rattle.lake_core.proofs.reservations.reserve_named.Goals as goal

pub returns-clause-room : goal.returns-clause-room
returns-clause-room c = room_named (rows_needed c.args.running.now c.args.added.now c.args.more.now) c.args.named.now c.loop-place.history c.loop-place.place c.loop-place-test.false c.loop-place.invariant.room
