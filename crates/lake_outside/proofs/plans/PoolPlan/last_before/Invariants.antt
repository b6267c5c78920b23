use Rattle.std.proofs.Common.{◌≡◌, take}
use Rattle.lake_outside.specs.Plans.{last_before}
use Rattle.lake_outside.proofs.plans.PoolPlan.last_before.Given as goal

abbrev pub invariant-loop-found : goal.invariant-loop-found
invariant-loop-found l = l.last ≡ last_before l.lose l.server l.at (take l.found-index l.found-items)
