-- What a clause says of the words and of the seats.
use Rattle.std.specs.Prelude.{◌≡◌, ℕ, List, [], Contains}
use Rattle.race_claim.specs.declared.claims.Claims.{Claims}
use Rattle.race_claim.specs.declared.claims.ClaimSeat.{ClaimSeat}
use Rattle.race_claim.specs.declared.claims.Claimed.{Claimed}
use Rattle.race_claim.specs.declared.claims.Claimed.TheVariants.{Won, Lost}

-- the seat was made with these words, or split from one that was
abbrev pub IsSeatOf : Claims → ClaimSeat → Type 0
IsSeatOf c s = (s.seat.table_id ≡ c.table.shared.table_id) × (s.seat.me.1 ≡ [])

abbrev pub task_count : Claims → ℕ
task_count c = c.tasks

-- what the seat knows for good: tasks with the attempts that their words hold, the newest first
abbrev pub held_by : ClaimSeat → List (ℕ × ℕ)
held_by s = s.seat.me.0.held

-- the task whose word the seat looked at last, and what the word held; task 0 before the first look
abbrev pub last_look : ClaimSeat → ℕ × ℕ
last_look s = s.seat.me.0.last

-- no task is there with two attempts
abbrev pub HasOneHolderEach : List (ℕ × ℕ) → Type 0
HasOneHolderEach held = (task a b : ℕ) → Contains held (task, a) → Contains held (task, b) → a ≡ b

abbrev pub MatchClaimed : Claimed → Type 0 → (ℕ → Type 0) → Type 0
MatchClaimed Won p q = p
MatchClaimed (Lost to) p q = q to
