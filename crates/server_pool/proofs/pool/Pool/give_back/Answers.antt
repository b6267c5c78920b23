use Rattle.server_pool.proofs.Keeps.{gives, has_room}
use Rattle.server_pool.proofs.pool.Pool.give_back.Goals as goal

pub push_as-requires-clause-rule : goal.push_as-requires-clause-rule
push_as-requires-clause-rule g c = (
  gives _ _ _ _ _ _ c.args.pass.now.some_parts c.requires.held c.requires.fixed,
  has_room
      g.P.Port.faults g.P.Port.deletions _ _ _ c.args.pass.now.some_parts c.requires.held.0,
)
