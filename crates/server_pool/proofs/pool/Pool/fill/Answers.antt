use Rattle.std.proofs.Common.{rules}
use Rattle.server_pool.proofs.Keeps.{adds, room_to_add}
use Rattle.server_pool.proofs.pool.Pool.fill.Goals as goal

pub push_as-requires-clause-rule : goal.push_as-requires-clause-rule
push_as-requires-clause-rule g c = (
  adds g.P.Port.faults g.P.Port.deletions _ _ _ _ (search rules) (search rules),
  room_to_add g.P.Port.faults g.P.Port.deletions _ _ (search rules),
)
