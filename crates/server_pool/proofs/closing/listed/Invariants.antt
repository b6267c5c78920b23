use Rattle.std.proofs.Common.{◌≡◌, ◌+◌, ◌≤◌, ◌++◌, map, Some, length, vec_len, vec_capacity}
use Rattle.std.specs.Vec.Iter.{into_iter_items}
use Rattle.server_pool.specs.Placed.{AreFull}
use Rattle.server_pool.proofs.closing.listed.Given as goal

abbrev pub invariant-loop-place : goal.invariant-loop-place
invariant-loop-place g l =
    AreFull (into_iter_items l.place-iterator)
    × (map Some l.ports.items ++ into_iter_items l.place-iterator ≡ l.fn.places.items)
    × (vec_len l.ports + length (into_iter_items l.place-iterator) ≤ vec_capacity l.ports)
