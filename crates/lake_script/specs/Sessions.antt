-- The sessions of a script, and the ports that are lent to them.
use Rattle.std.specs.Prelude.{◌≡◌, ℕ, ◌+◌, false, List, [], ◌∷◌, ◌++◌, map, take, drop}
use Rattle.lake_session.specs.Sessions.{SessionSeen}

-- the sessions have the numbers from this one on, and none ran out of memory
abbrev pub AreSeated : {P : Type 0} → ℕ → List (SessionSeen P) → Type 0
AreSeated number [] = Unit {0}
AreSeated number (s ∷ ss) = (s.number ≡ number) × (s.spent ≡ false) × AreSeated (number + 1) ss

abbrev pub ports_of : {P : Type 0} → List (SessionSeen P) → List P
ports_of sessions = map (λ s. s.port) sessions

-- the ports with those that are lent back in their places, behind the first one
abbrev pub with_lent : {P : Type 0} → List P → List P → List P
with_lent ports lent = take 1 ports ++ lent ++ drop 1 ports
