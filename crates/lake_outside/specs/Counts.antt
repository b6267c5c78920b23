-- Counts of what went wrong, kept in 64 bits.
use Rattle.std.specs.Prelude.{ℕ, ◌+◌, ◌-◌, ◌^◌, ◌≤◌, List, min, Contains}

-- the count rose; one that stands at its last value is taken as risen
abbrev pub Rises : ℕ → ℕ → Type 0
Rises old new = min (old + 1) (2 ^ 64 - 1) ≤ new

-- the count after one more: it stands still at its last value
abbrev pub raised : ℕ → ℕ
raised count = min (count + 1) (2 ^ 64 - 1)

-- which calls of an object fail, counted from 1, how many were made, and how many of them failed
pub record Calls : Type 0 where
  pub fails : List ℕ
  pub made : ℕ
  pub failed : ℕ

-- the next call fails
abbrev pub FailsNext : Calls → Type 0
FailsNext calls = Contains calls.fails (raised calls.made)

-- after a call that didn't fail
abbrev pub with_passed : Calls → Calls
with_passed calls = record calls { made = raised calls.made }

-- after a call that failed
abbrev pub with_failed : Calls → Calls
with_failed calls = record calls { made = raised calls.made; failed = raised calls.failed }
