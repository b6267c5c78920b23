-- What a clause says of a turnstile and of its passes.
use Rattle.std.specs.Prelude.{◌≡◌, ℕ, ◌+◌, Bool, List, [], ◌∷◌, None}
use Rattle.turnstile.specs.declared.rule.Stage.TheVariants.{Idle, In}
use Rattle.turnstile.specs.declared.table.Turnstile.{Turnstile}
use Rattle.turnstile.specs.declared.table.Pass.{Pass}
use Rattle.turnstile.specs.Sessions.{IsNoneOf}
use Rattle.turnstile.specs.Views.{cut_left, cut_right}

module _ {T E : Type 0} where
  -- the value that the turnstile was made with
  abbrev pub opened_on : Turnstile T E → T
  opened_on t = t.table.shared.key.value.value

  -- the turns of all its passes, those left and those taken
  abbrev pub turns_of : Turnstile T E → ℕ
  turns_of t = t.table.shared.key.turns

  -- the pass was made with this turnstile, or split from one that was
  abbrev pub IsPassOf : Turnstile T E → Pass T E → Type 0
  IsPassOf t p = (p.seat.table_id ≡ t.table.shared.table_id) × (p.seat.me.0.span ≡ turns_of t + 1)

  -- the pass is in no turn
  abbrev pub IsIdle : Pass T E → Type 0
  IsIdle p = (p.seat.me.0.stage ≡ Idle) × (p.seat.me.1 ≡ [])

  -- the pass is in its turn, which found this value
  abbrev pub IsIn : T → Pass T E → Type 0
  IsIn x p = ((t : ℕ) × (p.seat.me.0.stage ≡ In t x)) × (p.seat.me.1 ≡ (0, None) ∷ [])

  -- the pass is in its turn
  abbrev pub IsInTurn : Pass T E → Type 0
  IsInTurn p = (x : T) × IsIn x p

  -- the entries that the pass has seen
  abbrev pub seen : Pass T E → List E
  seen p = p.seat.me.0.seen

  -- the entries that it made, or a pass that it met, each with its place in what was seen
  abbrev pub own : Pass T E → List (ℕ × E)
  own p = p.seat.me.0.own

  abbrev pub turns_left : Pass T E → ℕ
  turns_left p = p.seat.me.0.left

  abbrev pub turns_taken : Pass T E → ℕ
  turns_taken p = p.seat.me.0.taken

  -- its sessions, each with whether room is reserved for it
  abbrev pub sessions : Pass T E → List (ℕ × Bool)
  sessions p = p.seat.me.0.sessions

  -- all turns are the pass's, so no other pass has one
  abbrev pub HasAllTurns : Turnstile T E → Pass T E → Type 0
  HasAllTurns t p = turns_left p + turns_taken p ≡ turns_of t

  -- for each session that isn't the pass's, y has the room that the value of the turn had
  abbrev pub KeepsOtherRooms : (T → ℕ → Bool) → Pass T E → T → Type 0
  KeepsOtherRooms has_room p y = (x : T) → IsIn x p → (s : ℕ) → IsNoneOf (sessions p) s
      → has_room y s ≡ has_room x s

  -- so many turns and this session went from the old pass; the new one is what stayed
  abbrev pub IsCutLeft : ℕ → ℕ → Pass T E → Pass T E → Type 0
  IsCutLeft turns session old new = new.seat.me.0 ≡ cut_left turns session old.seat.me.0

  -- the new pass is what went
  abbrev pub IsCutRight : ℕ → ℕ → Pass T E → Pass T E → Type 0
  IsCutRight turns session old new = new.seat.me.0 ≡ cut_right turns session old.seat.me.0
