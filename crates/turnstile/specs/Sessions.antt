-- Sessions and their rooms. A list of sessions says of each whether room is reserved for it.
use Rattle.std.specs.Prelude.{◌≡◌, ℕ, ◌≤◌, ◌⊎◌, ◌==◌, Bool, List, [], ◌∷◌, ◌++◌, map, filter, not}
use Rattle.std.specs.List.{AllByRecursion}
use mathlib.Core.Option.{some}
use lib.ListN.{get_elem?}
use Rattle.turnstile.specs.Lists.{Has}

abbrev pub sixteen : List ℕ
sixteen = 1 ∷ 2 ∷ 3 ∷ 4 ∷ 5 ∷ 6 ∷ 7 ∷ 8 ∷ 9 ∷ 10 ∷ 11 ∷ 12 ∷ 13 ∷ 14 ∷ 15 ∷ 16 ∷ []

abbrev pub IsSession : ℕ → Type 0
IsSession s = (1 ≤ s) × (s ≤ 16)

-- the session is one of these
abbrev pub IsOneOf : List (ℕ × Bool) → ℕ → Type 0
IsOneOf sessions s = (b : Bool) × Has (s, b) sessions

-- the session is none of these
abbrev pub IsNoneOf : List (ℕ × Bool) → ℕ → Type 0
IsNoneOf sessions s = (b : Bool) → Has (s, b) sessions → ⊥

-- those of this session
abbrev pub only : ℕ → List (ℕ × Bool) → List (ℕ × Bool)
only s = filter (λ p. p.0 == s)

-- those of other sessions
abbrev pub without : ℕ → List (ℕ × Bool) → List (ℕ × Bool)
without s = filter (λ p. not (p.0 == s))

module _ {T : Type 0} (has_room : T → ℕ → Bool) where
  -- each session with what the value says of its room
  abbrev pub rooms_in : T → List ℕ → List (ℕ × Bool)
  rooms_in x = map (λ s. (s, has_room x s))

  -- the same sessions, with what the value says of their rooms
  abbrev pub rooms_of : T → List (ℕ × Bool) → List (ℕ × Bool)
  rooms_of x = map (λ p. (p.0, has_room x p.0))

  -- the value says of their rooms what the list says
  abbrev pub HasRooms : List (ℕ × Bool) → T → Type 0
  HasRooms sessions x = (s : ℕ) (b : Bool) → Has (s, b) sessions → has_room x s ≡ b

module _ {E : Type 0} (session : E → ℕ) where
  -- no entry of a session of the list stands from place n on
  abbrev pub NoneBehind : List (ℕ × Bool) → ℕ → List E → Type 0
  NoneBehind sessions n log = (p : ℕ) (e : E) → n ≤ p → get_elem? log p ≡ some e
      → (b : Bool) → Has (session e, b) sessions → ⊥

  -- the entry of each place from n on is of a session
  abbrev pub AreKnown : ℕ → List E → Type 0
  AreKnown n log = (p : ℕ) (e : E) → n ≤ p → get_elem? log p ≡ some e → IsSession (session e)

  -- behind the old entries came those of other sessions
  abbrev pub Came : List (ℕ × Bool) → List E → List E → Type 0
  Came mine old new = (others : List E) × (new ≡ old ++ others)
      × AllByRecursion (λ e. IsNoneOf mine (session e) × IsSession (session e)) others

  -- behind the old entries came none or one, of a session of the list
  abbrev pub AddsAtMostOne : List (ℕ × Bool) → List E → List E → Type 0
  AddsAtMostOne mine old new = (new ≡ old)
      ⊎ ((e : E) × (new ≡ old ++ e ∷ []) × IsOneOf mine (session e))
