use Rattle.server_pool.proofs.Keeps.{takes, finds_empty}
use Rattle.server_pool.proofs.pool.Pool.check_out.Goals as goal

pub pop_as-requires-clause-rule : goal.pop_as-requires-clause-rule
pop_as-requires-clause-rule g c =
    (takes _ _ _ _ c.args.pass.now.some_parts, finds_empty g.P.Port.faults g.P.Port.deletions _ _)
