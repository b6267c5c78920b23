-- What a pass with all turns knows of the value that comes back.
use Rattle.std.proofs.Common.{◌≡◌, ◌≢◌, ℕ, ◌+◌, ◌<◌, Bool, List, length, sym, ap}
use Rattle.std.proofs.Common.{◌∙◌, subst, ⊎_elim, arith}
use Rattle.std.specs.Prelude.{Option, Some}
use mathlib.Core.Logic.{dite}
use mathlib.Core.Option.{some, some-injective}
use native.Mathlib.Decide.{ℕ_discrete}
use lib.ListN.{get_elem?}
use Rattle.atomic_table.specs.Table.{Final, Seen}
use Rattle.turnstile.specs.declared.rule.View.{View}
use Rattle.turnstile.specs.declared.rule.Stage.TheVariants.{Idle}
use Rattle.turnstile.specs.Lists.{AreAllFrom, StandFrom, IsPrefix, Has}
use Rattle.turnstile.specs.Turns.{IsHome, Turning}
use Rattle.turnstile.specs.Views.{Rests}
use Rattle.turnstile.proofs.Sums.{total_two, total_alone}
use Rattle.turnstile.proofs.Places.{past_end, has_some}
use Rattle.turnstile.proofs.Slots.{first_value}
use Rattle.turnstile.proofs.Seats.{one_view, out_rests, out_busy}

module _ {T E : Type 0} (entries : T → List E) (opening : T) where
  abbrev pub Ended : View T E → T → Type 0
  Ended v x = IsPrefix (entries opening) (entries x) × (entries x ≡ v.seen)
      × StandFrom (length (entries opening)) v.own (entries x)
      × AreAllFrom (length (entries opening)) v.own (entries x)
      × (length (entries opening) + length v.own ≡ length (entries x))

module _ {T E : Type 0} {entries : T → List E} {session : E → ℕ} {has_room : T → ℕ → Bool}
    {opening : T} {turns : ℕ} where
  -- a pass with all turns has all entries that came, and the value is at home
  pub ends : (id : ℕ) (v : View T E) (ws : List ℕ) (xs : List (Option T)) (got : Option T)
      → v.stage ≡ Idle → 0 < v.span → v.left + v.taken ≡ turns
      → Final (Seen (Turning entries session has_room opening turns) id v) ws xs
      → get_elem? xs 0 ≡ some got
      → (x : T) × (got ≡ Some x) × Ended entries opening v x
  ends id v ws xs got idle lives every f slot =
      let s = f.0 in
      let r = f.1.0 in
      let at = f.1.1 in
      let all = r.all_turns in
      let alone : (j : ℕ) (u : View T E) → j ≢ id → get_elem? s.views j ≡ some u → u.taken ≡ 0 =
      λ j u ne e.
      let two = total_two (λ (u : View T E). u.left + u.taken) s.views j id u v ne e at in
      omega arith in
      let only_mine = total_alone (λ (u : View T E). length u.own) s.views id v at
      (λ j u ne e. let z = alone j u ne e in let f = (r.each j u e).some_turns in omega arith)
      in
      let written = r.written in
      let home : IsHome entries has_room s r.log = ⊎_elim (λ h. h) (λ o.
      dite (ℕ_discrete o.seat id)
      (λ e. let u : o.view ≡ v =
      one_view s.views id o.view v (subst (λ j. get_elem? s.views j ≡ some o.view) e o.here) at
      in
      absurd (out_rests r.serving o.was o.view.stage o.has
      (subst Rests (sym (ap (λ (x : View T E). x.stage) u ∙ idle)) tt)))
      (λ ne. let b = out_busy r.serving o.was o.view.stage o.has in
      let z = alone o.seat o.view ne o.here in
      let t = (r.each o.seat o.view o.here).ticketed in
      absurd (omega arith))) r.place in
      let mine = r.each id v at in
      let x = home.value in
      let there : get_elem? xs 0 ≡ some (Some x) =
      f.4 0 (Some x) (ap (λ l. get_elem? l 0) home.home) in
      let back : r.log ≡ entries x = sym home.entries_are in (
        x,
        some-injective got (Some x) (sym slot ∙ there),
        (
          subst (IsPrefix (entries opening)) back r.begins,
          home.entries_are ∙ sym (mine.whole (let span = mine.span_is lives in omega arith)),
          (λ p e h. let m = mine.made p e h in (m.0, ap (λ l. get_elem? l p) (sym back) ∙ m.1)),
          (λ p e le h.
              let h' : get_elem? r.log p ≡ some e = ap (λ l. get_elem? l p) back ∙ h in
              let a = r.authors p le (past_end r.log p e h') in
              dite (ℕ_discrete (r.author p) id)
              (λ q.
              let u : a.0 ≡ v = one_view s.views id a.0 v
              (subst (λ j. get_elem? s.views j ≡ some a.0) q a.2) at in
              let had : Has (p, a.1) v.own = subst (λ (l : List (ℕ × E)). Has (p, a.1) l)
              (ap (λ (z : View T E). z.own) u) a.3 in
              let same : a.1 ≡ e = some-injective a.1 e (sym (mine.made p a.1 had).1 ∙ h') in
              subst (λ z. Has (p, z) v.own) same had)
              (λ ne. let z = alone (r.author p) a.0 ne a.2 in
              let n = (r.each (r.author p) a.0 a.2).some_turns in
              let m = has_some (p, a.1) a.0.own a.3 in
              absurd (omega arith))),
          (let long : length r.log ≡ length (entries x) = ap length back in omega arith),
        ),
      )

  pub ends_at : (id : ℕ) (v : View T E) (ws : List ℕ) (xs : List (Option T)) (got : Option T)
      (y : T) → v.stage ≡ Idle → 0 < v.span → v.left + v.taken ≡ turns
      → Final (Seen (Turning entries session has_room opening turns) id v) ws xs
      → get_elem? xs 0 ≡ some got → got ≡ Some y → Ended entries opening v y
  ends_at id v ws xs got y idle lives every f slot is =
      let a = ends id v ws xs got idle lives every f slot in
      let e : a.0 ≡ y = ap (first_value y) (sym a.1 ∙ is) in
      subst (Ended entries opening v) e a.2
