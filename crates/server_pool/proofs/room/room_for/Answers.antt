use Rattle.std.proofs.Common.{rules, arith, ap, None}
use Rattle.server_pool.specs.Pooled.{weigh}
use Rattle.server_pool.specs.Rooms.{or_none}
use Rattle.server_pool.proofs.Keeps.{weigh_snoc}
use Rattle.server_pool.proofs.room.room_for.Goals as goal

pub loop-preserved : goal.loop-preserved
loop-preserved g c = (
  search rules,
  search rules,
  λ h.
      let more = ap (weigh (or_none h)) c.push_reserved.ensures.items in
      let one = weigh_snoc (or_none h) c.loop.places.items None in
      let none = c.loop.invariant.2 h in omega arith,
)
