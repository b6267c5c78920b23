-- Threads that check servers out and give them back.
use Rattle.std.specs.Prelude.{◌≡◌, ℕ, []}
use Rattle.server_pool.specs.Passes.{IsPassOf, held, parts}
use Rattle.server_pool.specs.declared.pool.Pool.{Pool}
use Rattle.server_pool.specs.declared.pool.PoolPass.{PoolPass}

-- the pass is of the pool, has so many of its parts, and holds no server
abbrev pub HoldsNone : {P B C : Type 0} → Pool P B C → ℕ → PoolPass P → Type 0
HoldsNone pool n pass = IsPassOf pool pass × (parts pass ≡ n) × (held pass ≡ [])
