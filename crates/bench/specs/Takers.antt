-- Threads that take turns at a turnstile.
use Rattle.std.specs.Prelude.{◌≡◌, ℕ, ◌≤◌, Bool, false}
use Rattle.turnstile.specs.Passes.{IsIdle, IsPassOf, sessions, turns_left}
use Rattle.turnstile.specs.Sessions.{IsOneOf}
use Rattle.turnstile.specs.declared.table.Turnstile.{Turnstile}
use Rattle.turnstile.specs.declared.table.Pass.{Pass}

module _ {T E : Type 0} where
  -- a pass of the turnstile between two turns, with so many left
  pub record IsTaker (t : Turnstile T E) (p : Pass T E) (turns : ℕ) : Type 0 where
    pub pass : IsPassOf t p
    pub idle : IsIdle p
    pub left : turns_left p ≡ turns

  -- the pass has each session from this number on
  pub record HasSessionsFrom (first : ℕ) (p : Pass T E) : Type 0 where
    pub each : (s : ℕ) → first ≤ s → s ≤ 16 → IsOneOf (sessions p) s

-- room is reserved for no session
abbrev pub no_room : {V : Type 0} → V → ℕ → Bool
no_room value session = false
