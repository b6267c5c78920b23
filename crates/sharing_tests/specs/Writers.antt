-- Threads that write lines into a journal in turns.
use Rattle.std.specs.Prelude.{◌≡◌, ℕ, ◌+◌, ◌≤◌, ◌⊎◌, Bool, false, List, [], ◌∷◌, ◌++◌}
use Rattle.turnstile.specs.Passes.{IsIdle, IsPassOf, sessions, turns_left, turns_taken}
use Rattle.turnstile.specs.Sessions.{IsOneOf}
use Rattle.turnstile.specs.declared.table.Turnstile.{Turnstile}
use Rattle.turnstile.specs.declared.table.Pass.{Pass}

module _ {T E : Type 0} where
  -- the turns of a pass, left and taken
  abbrev pub all_turns : Pass T E → ℕ
  all_turns pass = turns_left pass + turns_taken pass

  -- a pass of the turnstile between two turns
  pub record IsResting (t : Turnstile T E) (p : Pass T E) : Type 0 where
    pub pass : IsPassOf t p
    pub idle : IsIdle p

  -- a writer's pass, with a thousand turns and its session
  pub record IsWriter (t : Turnstile T E) (p : Pass T E) (s : ℕ) : Type 0 where
    pub resting : IsResting t p
    pub turns : all_turns p ≡ 1000
    pub session : (n : ℕ) → n ≡ s → IsOneOf (sessions p) n

  -- one that has taken none of them
  pub record IsNewWriter (t : Turnstile T E) (p : Pass T E) (s : ℕ) : Type 0 where
    pub writer : IsWriter t p s
    pub left : turns_left p ≡ 1000

  -- the pass has each session from this number on
  pub record HasSessionsFrom (first : ℕ) (p : Pass T E) : Type 0 where
    pub each : (s : ℕ) → first ≤ s → s ≤ 16 → IsOneOf (sessions p) s

-- nothing more, or this
abbrev pub IsOrEndsIn : {A : Type 0} → List A → A → List A → Type 0
IsOrEndsIn old x new = (new ≡ old) ⊎ (new ≡ old ++ x ∷ [])

-- room is reserved for no session
abbrev pub no_room : {J : Type 0} → J → ℕ → Bool
no_room journal session = false
