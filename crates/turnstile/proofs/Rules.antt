-- What the rule tells of a state.
use Rattle.std.proofs.Common.{◌≡◌, ℕ, ◌+◌, ◌^◌, ◌<◌, ◌≤◌, ◌⊎◌, inl, inr, Bool, List, [], ◌∷◌}
use Rattle.std.proofs.Common.{length, get_or, set, sym, ap, ◌∙◌, subst, ⊎_elim, arith}
use Rattle.std.specs.Prelude.{Option}
use mathlib.Core.Logic.{dite}
use mathlib.Core.Option.{Option as Maybe, some, none}
use native.Mathlib.Decide.{ℕ_discrete}
use lib.ListN.{get_elem?}
use lib.Seq.{set-get_or}
use Rattle.atomic_table.specs.Table.{State, keeps, stepped}
use Rattle.atomic_table.proofs.Lists.{set_else, set_again}
use Rattle.turnstile.specs.declared.rule.View.{View}
use Rattle.turnstile.specs.declared.rule.Stage.TheVariants.{Waits, Done}
use Rattle.turnstile.specs.Lists.{total}
use Rattle.turnstile.specs.Sessions.{HasRooms}
use Rattle.turnstile.specs.Turns.{Stands, IsHome, IsOut, Turning}
use Rattle.turnstile.specs.Views.{Rests, pending}
use Rattle.turnstile.proofs.Sums.{total_at, total_both, total_below}
use Rattle.turnstile.proofs.Seats.{all_set, one_view, out_rests, out_holds}

module _ {T E : Type 0} {entries : T → List E} {session : E → ℕ} {has_room : T → ℕ → Bool}
    {opening : T} {turns : ℕ} where
  -- words and the number of one
  pub word_at : (s : State (Option T) (View T E))
      (r : Turning entries session has_room opening turns s) → get_or s.words 1 0 ≡ r.next
  word_at s r = ap (λ ws. get_or ws 1 0) r.words

  pub served_at : (s : State (Option T) (View T E))
      (r : Turning entries session has_room opening turns s) → get_or s.words 2 0 ≡ r.serving
  served_at s r = ap (λ ws. get_or ws 2 0) r.words

module _ {T E : Type 0} {turns : ℕ} where
  -- the turns that are left bound the tickets
  pub tickets_fit : (views : List (View T E)) (next id : ℕ) (v : View T E)
      → total (λ (u : View T E). u.left + u.taken) views ≡ turns → total (λ (u : View T E). u.taken)
      views ≡ next → get_elem? views id ≡ some v → next + v.left ≤ turns
  tickets_fit views next id v all drawn at =
      let both = total_both (λ (u : View T E). u.left) (λ (u : View T E). u.taken) views in
      let mine = total_at (λ (u : View T E). u.left) views id v at in omega arith

module _ {T E : Type 0} {entries : T → List E} {session : E → ℕ} {has_room : T → ℕ → Bool}
    {opening : T} {turns : ℕ} where
  -- the entries are fewer than 2^62 while a turn is under way
  pub entries_fit : (s : State (Option T) (View T E))
      (r : Turning entries session has_room opening turns s) (id : ℕ) (v : View T E)
      → get_elem? s.views id ≡ some v → pending v.stage ≡ 1 → length r.log < 2 ^ 62
  entries_fit s r id v at one =
      let few = r.few in
      let written = r.written in
      let drawn = r.drawn in
      let all_turns = r.all_turns in
      let both = total_both (λ (u : View T E). length u.own) (λ (u : View T E). pending u.stage)
      s.views in
      let mine = total_at (λ (u : View T E). pending u.stage) s.views id v at in
      let below = total_below (λ (u : View T E). length u.own + pending u.stage)
      (λ (u : View T E). u.taken) s.views (λ i u e. (r.each i u e).some_turns) in
      let taken = total_below (λ (u : View T E). u.taken) (λ (u : View T E). u.left + u.taken)
      s.views (λ i u e. omega arith) in
      omega arith

  -- nothing has moved
  pub unmoved : (s : State (Option T) (View T E)) → Turning entries session has_room opening turns s
      → (i id : ℕ) (cs : List (ℕ × Option T)) (v : View T E) → get_elem? s.views id ≡ some v
      → Turning entries session has_room opening turns
      (stepped s i (get_or s.words i 0) id cs v keeps)
  unmoved s r i id cs v at =
      let same : stepped s i (get_or s.words i 0) id cs v keeps ≡ s =
      λ k. record {
        words = set-get_or s.words i 0 k;
        homes = s.homes;
        views =
            set_again s.views id v at k;
      } in
      subst (Turning entries session has_room opening turns) (sym same) r

module _ {T E : Type 0} {entries : T → List E} {has_room : T → ℕ → Bool} where
  -- a seat without the value changes its view, and neither has it afterwards
  pub place_kept : (words words' : List ℕ) (homes : List (Maybe (Option T)))
      (views : List (View T E)) (log : List E) (serving id : ℕ) (v w : View T E)
      → get_elem? views id ≡ some v → w.sessions ≡ v.sessions → Rests v.stage → Rests w.stage
      → (IsHome entries has_room record { words = words; homes = homes; views = views } log
      ⊎ IsOut has_room record { words = words; homes = homes; views = views } serving)
      → (IsHome entries has_room record { words = words'; homes = homes; views = set views id w }
      log ⊎ IsOut has_room record { words = words'; homes = homes; views = set views id w }
      serving)
  place_kept words words' homes views log serving id v w at same rests rests' = ⊎_elim
      (λ h. inl record {
        value = h.value;
        home = h.home;
        entries_are = h.entries_are;
        rooms = all_set (λ j u. HasRooms has_room u.sessions h.value) views id w
            (subst (λ l. HasRooms has_room l h.value) (sym same) (h.rooms id v at))
            (λ j u _ e. h.rooms j u e);
        none_out = all_set (λ j u. Rests u.stage) views id w rests' (λ j u _ e. h.none_out j u e);
      })
      (λ h. inr record {
        home = h.home;
        seat = h.seat;
        view = h.view;
        was = h.was;
        here = dite (ℕ_discrete h.seat id)
            (λ e. let u : h.view ≡ v =
            one_view views id h.view v (subst (λ j. get_elem? views j ≡ some h.view) e h.here)
            at in
            absurd (out_rests serving h.was h.view.stage h.has
            (subst (λ (x : View T E). Rests x.stage) (sym u) rests)))
            (λ ne. set_else views id h.seat w ne ∙ h.here);
        has = h.has;
        rooms = all_set (λ j u. HasRooms has_room u.sessions h.was) views id w
            (subst (λ l. HasRooms has_room l h.was) (sym same) (h.rooms id v at))
            (λ j u _ e. h.rooms j u e);
      })

module _ {T E : Type 0} {entries : T → List E} {session : E → ℕ} {has_room : T → ℕ → Bool}
    {opening : T} {turns : ℕ} where
  -- where the seat's own ticket is served, the value is at home
  pub is_home : (s : State (Option T) (View T E))
      (r : Turning entries session has_room opening turns s) (id t : ℕ) (v : View T E)
      → get_elem? s.views id ≡ some v → v.stage ≡ Waits t → r.serving ≡ t
      → IsHome entries has_room s r.log
  is_home s r id t v at waits mine = ⊎_elim (λ h. h) (λ o.
      let theirs = out_holds r.serving r.next r.log r.holder o.seat o.view.seen o.was o.view.stage
      o.has (r.each o.seat o.view o.here).stands in
      let k : Stands {T = T} r.serving r.next r.log r.holder id v.seen (Waits t) =
      subst (Stands {T = T} r.serving r.next r.log r.holder id v.seen) waits
      (r.each id v at).stands in
      let e : o.seat ≡ id = sym theirs.0 ∙ (ap r.holder mine ∙ k.2) in
      let u : o.view ≡ v = one_view s.views id o.view v
      (subst (λ j. get_elem? s.views j ≡ some o.view) e o.here) at in
      absurd (out_rests r.serving o.was o.view.stage o.has
      (subst Rests (sym (ap (λ (x : View T E). x.stage) u ∙ waits)) tt))) r.place

  -- the value is out with the seat that is in its turn
  pub is_out : (s : State (Option T) (View T E))
      (r : Turning entries session has_room opening turns s) (id : ℕ) (v : View T E)
      → get_elem? s.views id ≡ some v → (Rests v.stage → ⊥) → r.holder r.serving ≡ id
      → (o : IsOut has_room s r.serving) × (o.seat ≡ id) × (o.view ≡ v)
  is_out s r id v at has mine = ⊎_elim (λ h. absurd (has (h.none_out id v at))) (λ o.
      let theirs = out_holds r.serving r.next r.log r.holder o.seat o.view.seen o.was o.view.stage
      o.has (r.each o.seat o.view o.here).stands in
      let e : o.seat ≡ id = sym theirs.0 ∙ mine in (
        o,
        e,
        one_view s.views id o.view v (subst (λ j. get_elem? s.views j ≡ some o.view) e o.here)
            at,
      )) r.place

  pub is_out_at : (s : State (Option T) (View T E))
      (r : Turning entries session has_room opening turns s) (id : ℕ) (v : View T E) (t : ℕ) (x : T)
      → get_elem? s.views id ≡ some v → v.stage ≡ Done t x → s.homes ≡ none ∷ []
  is_out_at s r id v t x at stage =
      let k : Stands r.serving r.next r.log r.holder id v.seen (Done t x) =
      subst (Stands r.serving r.next r.log r.holder id v.seen) stage (r.each id v at).stands in
      (is_out s r id v at (λ q. let z : Rests (Done t x) = subst Rests stage q in z)
      (ap r.holder (sym k.0) ∙ k.2)).0.home
