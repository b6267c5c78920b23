use Rattle.std.proofs.Common.{◌≡◌, ◌++◌, [], length, map}
use Rattle.std.specs.Vec.Iter.{into_iter_items}
use Rattle.server_pool.specs.Pooled.{hand, start_of}
use Rattle.server_pool.specs.Passes.{IsFirstPassOf, knows}
use Rattle.server_pool.proofs.pool.Pool.fill.Given as goal

abbrev pub invariant-loop-port : goal.invariant-loop-port
invariant-loop-port g l =
    IsFirstPassOf l.self l.pass × (knows l.pass ≡ hand 17 [] 0 0 (knows l.pass).starts)
    × (l.number ≡ length (knows l.pass).starts)
    × ((knows l.pass).starts ++ map (start_of g.P.Port.faults g.P.Port.deletions)
    (into_iter_items l.port-iterator) ≡ map (start_of g.P.Port.faults g.P.Port.deletions)
    l.fn.ports.items)
