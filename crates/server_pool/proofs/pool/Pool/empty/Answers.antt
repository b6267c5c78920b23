use Rattle.server_pool.proofs.Keeps.{begins}
use Rattle.server_pool.proofs.pool.Pool.empty.Goals as goal

pub ruled-requires-clause-rule : goal.ruled-requires-clause-rule
ruled-requires-clause-rule g c = begins g.P.Port.faults g.P.Port.deletions
