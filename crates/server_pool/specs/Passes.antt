-- What a clause says of a pool and of its passes.
use Rattle.std.specs.Prelude.{◌≡◌, ℕ, ◌<◌, List, length}
use Rattle.crossbeam_queue.specs.Passes as queue
use Rattle.server_pool.specs.declared.rule.Hand.{Hand}
use Rattle.server_pool.specs.declared.rule.Start.{Start}
use Rattle.server_pool.specs.declared.pool.Pool.{Pool}
use Rattle.server_pool.specs.declared.pool.PoolPass.{PoolPass}

module _ {P : Type 0} where
  -- what the pass knows
  abbrev pub knows : PoolPass P → Hand
  knows p = queue.view p.pass

  -- how many of the pool's 17 parts it has
  abbrev pub parts : PoolPass P → ℕ
  parts p = (knows p).parts

  -- the servers that it holds, each with the count that was noted for it
  abbrev pub held : PoolPass P → List (ℕ × ℕ)
  held p = (knows p).held

  -- by how much the counts of the servers rose that it gave back
  abbrev pub rise : PoolPass P → ℕ
  rise p = (knows p).rise

  -- it gave back a server whose count stood at its last value
  abbrev pub IsMarked : PoolPass P → Type 0
  IsMarked p = 0 < (knows p).lasts

  -- the ports as they were when the pool was made
  abbrev pub starts : PoolPass P → List Start
  starts p = (knows p).starts

module _ {P B C : Type 0} where
  abbrev pub server_count : Pool P B C → ℕ
  server_count q = q.servers

  -- a pass of the pool while its servers join it
  abbrev pub IsFirstPassOf : Pool P B C → PoolPass P → Type 0
  IsFirstPassOf q p = queue.IsPassOf q.queue p.pass

  -- the pass was made with this pool, or split from one that was
  abbrev pub IsPassOf : Pool P B C → PoolPass P → Type 0
  IsPassOf q p = queue.IsPassOf q.queue p.pass × (length (knows p).starts ≡ q.servers)
