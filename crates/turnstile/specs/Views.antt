-- What a pass knows, and what it knows after a step.
use Rattle.std.specs.Prelude.{ℕ, ◌+◌, ◌-◌, Bool, List, [], ◌++◌, length, nat_le, if◌then◌else◌}
use Rattle.turnstile.specs.declared.rule.View.{View}
use Rattle.turnstile.specs.declared.rule.Stage.{Stage}
use Rattle.turnstile.specs.declared.rule.Stage.TheVariants.{Idle, Waits, In, Done}
use Rattle.turnstile.specs.Lists.{added, longer, shorter}
use Rattle.turnstile.specs.Sessions.{only, rooms_in, rooms_of, sixteen, without}

module _ {T : Type 0} where
  -- the ticket that the pass has
  abbrev pub ticket : Stage T → ℕ
  ticket Idle = 0
  ticket (Waits t) = t
  ticket (In t y) = t
  ticket (Done t y) = t

  -- 1 where it has a ticket
  abbrev pub busy : Stage T → ℕ
  busy Idle = 0
  busy (Waits t) = 1
  busy (In t y) = 1
  busy (Done t y) = 1

  -- 1 between a draw and a publish
  abbrev pub pending : Stage T → ℕ
  pending Idle = 0
  pending (Waits t) = 1
  pending (In t y) = 1
  pending (Done t y) = 0

  -- it has not the value
  abbrev pub Rests : Stage T → Type 0
  Rests Idle = Unit {0}
  Rests (Waits t) = Unit {0}
  Rests (In t y) = ⊥
  Rests (Done t y) = ⊥

  -- after the publish
  abbrev pub closed : Stage T → Stage T
  closed Idle = Idle
  closed (Waits t) = Waits t
  closed (In t y) = Done t y
  closed (Done t y) = Done t y

module _ {T E : Type 0} where
  -- after a draw
  abbrev pub waiting : View T E → ℕ → View T E
  waiting v t = record {
    stage = Waits t;
    seen = v.seen;
    noted = v.noted;
    noted_sessions = [];
    own = v.own;
    left = v.left - 1;
    taken = v.taken + 1;
    sessions = v.sessions;
    span = v.span;
  }

  -- after the look that found its ticket served
  abbrev pub entered : (T → List E) → View T E → ℕ → T → View T E
  entered entries v t x = record {
    stage = In t x;
    seen = entries x;
    noted = v.noted;
    noted_sessions = v.noted_sessions;
    own = v.own;
    left = v.left;
    taken = v.taken;
    sessions = v.sessions;
    span = v.span;
  }

  -- after the publish
  abbrev pub told : (T → List E) → View T E → T → View T E
  told entries v x = record {
    stage = closed v.stage;
    seen = entries x;
    noted = v.noted;
    noted_sessions = v.noted_sessions;
    own = v.own ++ added v.seen (entries x);
    left = v.left;
    taken = v.taken;
    sessions = v.sessions;
    span = v.span;
  }

  -- after the next ticket is served
  abbrev pub rested : (T → ℕ → Bool) → View T E → T → View T E
  rested has_room v x = record {
    stage = Idle;
    seen = v.seen;
    noted = v.noted;
    noted_sessions = v.noted_sessions;
    own = v.own;
    left = v.left;
    taken = v.taken;
    sessions = rooms_of has_room x v.sessions;
    span = v.span;
  }

  -- the pass that was split, and the new one
  abbrev pub cut_left : ℕ → ℕ → View T E → View T E
  cut_left turns session v = record {
    stage = v.stage;
    seen = v.seen;
    noted = v.noted;
    noted_sessions = [];
    own = v.own;
    left = v.left - turns;
    taken = v.taken;
    sessions = without session v.sessions;
    span = v.span;
  }

  abbrev pub cut_right : ℕ → ℕ → View T E → View T E
  cut_right turns session v = record {
    stage = Idle;
    seen = v.seen;
    noted = v.seen;
    noted_sessions = [];
    own = [];
    left = turns;
    taken = 0;
    sessions = only session v.sessions;
    span = v.span;
  }

  -- the pass that met another, and the other
  abbrev pub met : View T E → View T E → View T E
  met v w = record {
    stage = v.stage;
    seen = longer v.seen w.seen;
    noted = shorter v.seen w.seen;
    noted_sessions = if nat_le (length v.seen) (length w.seen) then v.sessions else w.sessions;
    own = v.own ++ w.own;
    left = v.left + w.left;
    taken = v.taken + w.taken;
    sessions = v.sessions ++ w.sessions;
    span = v.span;
  }

  abbrev pub spent : View T E
  spent = record {
    stage = Idle;
    seen = [];
    noted = [];
    noted_sessions = [];
    own = [];
    left = 0;
    taken = 0;
    sessions = [];
    span = 0;
  }

  -- the first pass
  abbrev pub first_view : (T → List E) → (T → ℕ → Bool) → T → ℕ → View T E
  first_view entries has_room opening turns = record {
    stage = Idle;
    seen = entries opening;
    noted = entries opening;
    noted_sessions = [];
    own = [];
    left = turns;
    taken = 0;
    sessions = rooms_in has_room opening sixteen;
    span = turns + 1;
  }
