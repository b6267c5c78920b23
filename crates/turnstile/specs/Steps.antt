-- What each step tells the pass that takes it.
use Rattle.std.specs.Prelude.{◌≡◌, ◌≢◌, ℕ, ◌+◌, ◌<◌, ◌≤◌, ◌^◌, Bool, List, [], ◌∷◌, length, Option}
use Rattle.std.specs.Prelude.{Some}
use Rattle.atomic_table.specs.Table.{Me, Step}
use Rattle.turnstile.specs.declared.rule.View.{View}
use Rattle.turnstile.specs.Lists.{IsPrefix}
use Rattle.turnstile.specs.Sessions.{HasRooms, NoneBehind, AreKnown}
use Rattle.turnstile.specs.Views.{ticket, waiting, entered, told, rested}

-- from what a pass knew and held and what the step answered to what it knows and holds
abbrev pub Tells : Type 0 → Type 0 → Type 1
Tells T E = Step (Option T) → Me (Option T) (View T E) → ℕ → Me (Option T) (View T E)
    → Type 0

module _ {T E : Type 0} where
  -- a draw: the answer is the pass's ticket
  abbrev pub drew : Tells T E
  drew st m r m' = (m'.1 ≡ m.1) × (r < 2 ^ 62) × (m'.0 ≡ waiting m.0 r)

  -- the look after a meeting: the shorter list begins the longer, behind it stands no entry of
  -- the sessions of its pass, and every entry there is of a session
  abbrev pub tells : (E → ℕ) → Tells T E
  tells session st m r m' = (m'.0 ≡ m.0) × (m'.1 ≡ m.1)
      × (length m.0.noted ≤ length m.0.seen → IsPrefix m.0.noted m.0.seen)
      × NoneBehind session m.0.noted_sessions (length m.0.noted) m.0.seen
      × (0 < m.0.span → AreKnown session (length m.0.noted) m.0.seen)

  module _ (entries : T → List E) (session : E → ℕ) (has_room : T → ℕ → Bool) where
    -- what is true of the value that a turn finds; a pass with all turns has seen all of it
    abbrev pub Enters : View T E → T → Type 0
    Enters v x = IsPrefix v.seen (entries x)
        × NoneBehind session v.sessions (length v.seen) (entries x)
        × HasRooms has_room v.sessions x × (length (entries x) < 2 ^ 62)
        × (v.left + v.taken + 1 ≡ v.span → entries x ≡ v.seen)
        × (0 < v.span → AreKnown session (length v.seen) (entries x))

    -- a look at the ticket that is served: where it is the pass's, the pass holds the slot
    abbrev pub looked : Tells T E
    looked st m r m' = (r ≢ ticket m.0.stage → m' ≡ m)
        × (r ≡ ticket m.0.stage → (x : T) × (m'.1 ≡ (0, Some x) ∷ m.1)
        × (m'.0 ≡ entered entries m.0 r x) × Enters m.0 x)

    -- the value in the held slot is published
    abbrev pub published : Tells T E
    published st m r m' = (v : T) → m.1 ≡ (0, Some v) ∷ []
        → (m'.1 ≡ m.1) × (m'.0 ≡ told entries m.0 v)

    -- the slot is given back with this value, and the next ticket is served
    abbrev pub served : Tells T E
    served st m r m' = (v : T) → m.1 ≡ (0, Some v) ∷ []
        → (m'.1 ≡ []) × (m'.0 ≡ rested has_room m.0 v)
