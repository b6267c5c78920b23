use Rattle.std.proofs.Common.{sym, subst, ◌∙◌}
use mathlib.Core.Option.{some-injective}
use Rattle.server_pool.specs.Rooms.{IsRoomFor}
use Rattle.server_pool.proofs.closing.room_of.Goals as goal

pub returns : goal.returns
returns g c =
    let (s, kept, _, _, at) = c.close-closed.ensures.values.2 in
    subst (IsRoomFor _)
    (some-injective _ _ (sym (at 0 kept.room kept.here) ∙ c.take-room.ensures.value)) kept.fits
