use Rattle.server_pool.proofs.Keeps.{joins}
use Rattle.server_pool.proofs.pool.Pool.join.Goals as goal

pub absorb-requires-clause-rule : goal.absorb-requires-clause-rule
absorb-requires-clause-rule g c = joins _ _ _ _ _ _ c.args.pass.now.some_parts
