use Rattle.std.proofs.Common.{◌≡◌, ◌+◌, [], length, All}
use Rattle.std.specs.Vec.Iter.{into_iter_items}
use Rattle.server_pool.specs.Passes.{IsPassOf, held, parts}
use Rattle.sharing_tests.specs.Borrowers.{HoldsNone}
use Rattle.sharing_tests.proofs.pool_tests.lend_to_all.Given as goal

abbrev pub invariant-loop : goal.invariant-loop
invariant-loop g l =
    IsPassOf l.pool l.pass × (held l.pass ≡ []) × (parts l.pass + l.counter ≡ 17)
    × (length l.passes.items ≡ l.counter) × All (HoldsNone l.pool 1) l.passes.items

abbrev pub invariant-loop-other : goal.invariant-loop-other
invariant-loop-other g l =
    IsPassOf l.pool l.pass × (held l.pass ≡ [])
    × (parts l.pass + length (into_iter_items l.other-iterator) ≡ 17)
    × All (HoldsNone l.pool 1) (into_iter_items l.other-iterator)
