use Rattle.server_pool.proofs.Keeps.{splits}
use Rattle.server_pool.proofs.pool.Pool.split.Goals as goal

pub another-part-requires-clause-rule : goal.another-part-requires-clause-rule
another-part-requires-clause-rule g c = splits _ _ _ _ c.requires.parts
