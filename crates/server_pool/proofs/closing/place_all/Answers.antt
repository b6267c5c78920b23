use Rattle.std.proofs.Common.{rules}
use Rattle.server_pool.proofs.Keeps.{takes, finds_empty}
use Rattle.server_pool.proofs.Places.{placed_after}
use Rattle.server_pool.proofs.closing.place_all.Goals as goal

pub pop_as-requires-clause-rule : goal.pop_as-requires-clause-rule
pop_as-requires-clause-rule g c = (
  takes _ _ _ _ c.loop-server.pass.some_parts,
  finds_empty g.P.Port.faults g.P.Port.deletions _
      _,
)

pub loop-server-preserved : goal.loop-server-preserved
loop-server-preserved g c =
    let took = c.in-Some.ensures.rule in record {
      pass = search rules;
      parts = search rules;
      placed = placed_after g.P.Port.faults g.P.Port.deletions _ _ _ _ c.in-Some.server
          c.loop-server.invariant.placed (took.0, took.1, took.2.0) (search rules);
      rise = search rules;
      lasts = search rules;
      starts = search rules;
    }
