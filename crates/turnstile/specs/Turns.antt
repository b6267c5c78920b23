-- The rule of the turnstile. Word 0 is the number of entries, word 1 the next ticket, and word 2
-- the ticket that is served. The slot has the value while the value is at home.
use Rattle.std.specs.Prelude.{◌≡◌, ℕ, ◌+◌, ◌<◌, ◌≤◌, ◌^◌, ◌⊎◌, Bool, List, [], ◌∷◌, length, Option}
use Rattle.std.specs.Prelude.{Some}
use mathlib.Core.Option.{some, none}
use lib.ListN.{get_elem?}
use Rattle.atomic_table.specs.Table.{State}
use Rattle.turnstile.specs.declared.rule.View.{View}
use Rattle.turnstile.specs.declared.rule.Stage.{Stage}
use Rattle.turnstile.specs.declared.rule.Stage.TheVariants.{Idle, Waits, In, Done}
use Rattle.turnstile.specs.Lists.{IsPrefix, Has, total}
use Rattle.turnstile.specs.Sessions.{HasRooms, NoneBehind, AreKnown, IsSession}
use Rattle.turnstile.specs.Views.{busy, pending, Rests}

module _ {T : Type 0} where
  -- the seat has the value out, which was y, with the ticket t
  abbrev pub HasOut : ℕ → T → Stage T → Type 0
  HasOut t y Idle = ⊥
  HasOut t y (Waits u) = ⊥
  HasOut t y (In u z) = (u ≡ t) × (z ≡ y)
  HasOut t y (Done u z) = (u ≡ t) × (z ≡ y)

module _ {T E : Type 0} where
  -- the ticket of seat i is the seat's and is out; in its turn the seat has seen all entries
  abbrev pub Stands : (serving next : ℕ) (log : List E) (holder : ℕ → ℕ) → ℕ → List E → Stage T
      → Type 0
  Stands serving next log holder i seen Idle = Unit {0}
  Stands serving next log holder i seen (Waits t) = (serving ≤ t) × (t < next) × (holder t ≡ i)
  Stands serving next log holder i seen (In t y) = (t ≡ serving) × (t < next) × (holder t ≡ i)
      × (seen ≡ log)
  Stands serving next log holder i seen (Done t y) = (t ≡ serving) × (t < next) × (holder t ≡ i)
      × (seen ≡ log)

  -- What seat i knows is true of the entries. The seat `owner s` has the session s, the seat
  -- `holder t` the ticket t, and the entry at p is an own one of the seat `author p`. The turnstile
  -- began with so many entries, and has so many turns.
  pub record Fits (session : E → ℕ) (start turns serving next : ℕ) (log : List E)
      (owner holder author : ℕ → ℕ) (i : ℕ) (v : View T E) : Type 0 where
    pub seen : IsPrefix v.seen log
    pub noted : IsPrefix v.noted log
    pub behind : NoneBehind session v.sessions (length v.seen) log
    pub owns : (s : ℕ) (b : Bool) → Has (s, b) v.sessions → (owner s ≡ i) × IsSession s
    pub noted_behind : NoneBehind session v.noted_sessions (length v.noted) log
    pub noted_owns : (s : ℕ) (b : Bool) → Has (s, b) v.noted_sessions
        → (owner s ≡ i) × (busy v.stage ≡ 0)
    pub noted_opens : 0 < v.span → start ≤ length v.noted
    pub made : (p : ℕ) (e : E) → Has (p, e) v.own
        → (start ≤ p) × (get_elem? log p ≡ some e) × (author p ≡ i) × (p < length v.seen)
    pub span_is : 0 < v.span → v.span ≡ turns + 1
    pub opens : 0 < v.span → start ≤ length v.seen
    pub whole : v.left + v.taken + 1 ≡ v.span → v.seen ≡ log
    pub some_turns : length v.own + pending v.stage ≤ v.taken
    pub ticketed : busy v.stage ≤ v.taken
    pub stands : Stands serving next log holder i v.seen v.stage

  -- the value is at home, with the entries of the log and the rooms that the views have
  pub record IsHome (entries : T → List E) (has_room : T → ℕ → Bool)
      (s : State (Option T) (View T E)) (log : List E) : Type 0 where
    pub value : T
    pub home : s.homes ≡ some (Some value) ∷ []
    pub entries_are : entries value ≡ log
    pub rooms : (i : ℕ) (v : View T E) → get_elem? s.views i ≡ some v
        → HasRooms has_room v.sessions value
    pub none_out : (i : ℕ) (v : View T E) → get_elem? s.views i ≡ some v → Rests v.stage

  -- the value is out with the seat whose ticket is served; the views have the rooms that it had
  pub record IsOut (has_room : T → ℕ → Bool) (s : State (Option T) (View T E)) (serving : ℕ)
      : Type 0 where
    pub home : s.homes ≡ none ∷ []
    pub seat : ℕ
    pub view : View T E
    pub was : T
    pub here : get_elem? s.views seat ≡ some view
    pub has : HasOut serving was view.stage
    pub rooms : (j : ℕ) (w : View T E) → get_elem? s.views j ≡ some w
        → HasRooms has_room w.sessions was

  module _ (entries : T → List E) (session : E → ℕ) (has_room : T → ℕ → Bool) where
    pub record Turning (opening : T) (turns : ℕ) (s : State (Option T) (View T E)) : Type 0 where
      pub next : ℕ
      pub serving : ℕ
      pub log : List E
      pub owner : ℕ → ℕ
      pub holder : ℕ → ℕ
      pub author : ℕ → ℕ
      pub order : serving ≤ next
      pub words : s.words ≡ length log ∷ next ∷ serving ∷ []
      pub few : length (entries opening) + turns ≤ 2 ^ 62
      pub begins : IsPrefix (entries opening) log
      pub known : AreKnown session (length (entries opening)) log
      pub all_turns : total (λ (v : View T E). v.left + v.taken) s.views ≡ turns
      pub drawn : total (λ (v : View T E). v.taken) s.views ≡ next
      pub written : length (entries opening) + total (λ (v : View T E). length v.own) s.views
          ≡ length log
      pub each : (i : ℕ) (v : View T E) → get_elem? s.views i ≡ some v
          → Fits session (length (entries opening)) turns serving next log owner holder author i v
      pub authors : (p : ℕ) → length (entries opening) ≤ p → p < length log
          → (v : View T E) × (e : E) × (get_elem? s.views (author p) ≡ some v) × Has (p, e) v.own
      pub place : IsHome entries has_room s log ⊎ IsOut has_room s serving
