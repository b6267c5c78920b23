use Rattle.std.proofs.Common.{◌≡◌, ℕ, vec_len, vec_capacity}
use Rattle.server_pool.specs.Pooled.{weigh}
use Rattle.server_pool.specs.Rooms.{or_none}
use Rattle.server_pool.proofs.room.room_for.Given as goal

abbrev pub invariant-loop : goal.invariant-loop
invariant-loop g l =
    (vec_len l.places ≡ l.counter) × (vec_capacity l.places ≡ l.servers)
    × ((g : _ → ℕ) → weigh (or_none g) l.places.items ≡ 0)
