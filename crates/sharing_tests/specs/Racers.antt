-- Threads that race for tasks.
use Rattle.std.specs.Prelude.{◌≡◌, ℕ, ◌<◌}
use Rattle.race_claim.specs.Seats.{IsSeatOf, task_count}
use Rattle.race_claim.specs.declared.claims.ClaimSeat.{ClaimSeat}
use Rattle.race_claim.specs.declared.claims.Claims.{Claims}

-- the seat is of these words, of which there are 1,000, and the attempt has a number
abbrev pub IsReady : Claims → ClaimSeat → ℕ → Type 0
IsReady claims seat attempt =
    IsSeatOf claims seat × (0 < attempt) × (task_count claims ≡ 1000)
