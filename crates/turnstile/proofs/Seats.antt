-- What the views of seats say, where one of them changes.
use Rattle.std.proofs.Common.{◌≡◌, ◌≢◌, ℕ, zero, suc, ◌+◌, ◌<◌, ◌≤◌, ◌⊎◌, inl, inr, eqb, List}
use Rattle.std.proofs.Common.{[], ◌∷◌, ◌++◌, length, set, sym, refl, ap, ◌∙◌, subst, ⊎_elim, arith}
use Rattle.std.proofs.Common.{eq-eqb, ne_eqb}
use mathlib.Core.Logic.{dite}
use mathlib.Core.Option.{some, some-injective, some-ne-none}
use native.Mathlib.Decide.{ℕ_discrete}
use lib.ListN.{get_elem?}
use prog.Atomic.{either}
use Rattle.atomic_table.proofs.Lists.{at_set, set_else, set_here}
use Rattle.turnstile.specs.declared.rule.View.{View}
use Rattle.turnstile.specs.declared.rule.Stage.{Stage}
use Rattle.turnstile.specs.declared.rule.Stage.TheVariants.{Idle, Waits, In, Done}
use Rattle.turnstile.specs.Lists.{Has}
use Rattle.turnstile.specs.Turns.{Fits, HasOut, Stands}
use Rattle.turnstile.specs.Views.{Rests, busy}

pub picks : (t n a b : ℕ) → t ≡ n → either (eqb t n) a b ≡ a
picks t n a b e = ap (λ z. either z a b) (eq-eqb t n e)

pub passes_by : (t n a b : ℕ) → t ≢ n → either (eqb t n) a b ≡ b
passes_by t n a b ne = ap (λ z. either z a b) (ne_eqb t n ne)

module _ {T E : Type 0} where
  -- a fact of each view, after one has changed
  pub all_set : (F : ℕ → View T E → Type 0) (views : List (View T E)) (id : ℕ) (w : View T E)
      → F id w → ((j : ℕ) (u : View T E) → j ≢ id → get_elem? views j ≡ some u → F j u)
      → (j : ℕ) (u : View T E) → get_elem? (set views id w) j ≡ some u → F j u
  all_set F views id w mine others j u e =
      ⊎_elim (λ (x : (j ≡ id) × (w ≡ u)). subst (λ (y : ℕ × View T E). F y.0 y.1)
      (λ i. (sym x.0 i, x.1 i)) mine)
      (λ (x : (j ≢ id) × (get_elem? views j ≡ some u)). others j u x.0 x.1)
      (at_set views id j w u e)

  -- the one view at a place
  pub one_view : (views : List (View T E)) (j : ℕ) (u v : View T E) → get_elem? views j ≡ some u
      → get_elem? views j ≡ some v → u ≡ v
  one_view views j u v a b = some-injective u v (sym a ∙ b)

  pub in_list : (views : List (View T E)) (i : ℕ) (v : View T E) → get_elem? views i ≡ some v
      → i < length views
  in_list [] i v e = absurd (some-ne-none v (sym e))
  in_list (x ∷ xs) zero v e = omega arith
  in_list (x ∷ xs) (suc i) v e = let h = in_list xs i v e in omega arith

  pub snoc_cases : (l : List (View T E)) (a b : View T E) (j : ℕ) → get_elem? (l ++ a ∷ []) j ≡ some
      b → (get_elem? l j ≡ some b) ⊎ ((j ≡ length l) × (a ≡ b))
  snoc_cases [] a b zero e = inr (refl, some-injective a b e)
  snoc_cases [] a b (suc j) e = absurd (some-ne-none b (sym e))
  snoc_cases (x ∷ xs) a b zero e = inl e
  snoc_cases (x ∷ xs) a b (suc j) e = ⊎_elim (λ h. inl h) (λ h. inr (ap suc h.0, h.1))
      (snoc_cases xs a b j e)

  -- who made an entry still has it, where no list of own entries changed
  pub authors_kept : (views : List (View T E)) (author : ℕ → ℕ) (from to id : ℕ) (v w : View T E)
      → get_elem? views id ≡ some v → w.own ≡ v.own
      → ((p : ℕ) → from ≤ p → p < to → (u : View T E) × (e : E)
      × (get_elem? views (author p) ≡ some u) × Has (p, e) u.own)
      → (p : ℕ) → from ≤ p → p < to → (u : View T E) × (e : E)
      × (get_elem? (set views id w) (author p) ≡ some u) × Has (p, e) u.own
  authors_kept views author from to id v w at same old p a b =
      let h = old p a b in
      dite (ℕ_discrete (author p) id)
      (λ here. (
        w,
        h.1,
        subst (λ j. get_elem? (set views id w) j ≡ some w) (sym here)
            (set_here views id w (in_list views id v at)),
        let u : h.0 ≡ v = one_view views id h.0 v
            (subst (λ j. get_elem? views j ≡ some h.0) here h.2) at in
            subst (λ (l : List (ℕ × E)). Has (p, h.1) l) (ap (λ (x : View T E). x.own) u ∙ sym same)
            h.3,
      ))
      (λ there. (h.0, h.1, set_else views id (author p) w there ∙ h.2, h.3))

  -- the stage of a seat stays right, where the next ticket and the seats of older tickets stay
  pub stands_more : (serving next next' : ℕ) (log : List E) (holder holder' : ℕ → ℕ) (i : ℕ)
      (seen : List E) → next ≤ next' → ((t : ℕ) → t < next → holder' t ≡ holder t) → (st : Stage T)
      → Stands serving next log holder i seen st → Stands serving next' log holder' i seen st
  stands_more serving next next' log holder holder' i seen le same Idle k = tt
  stands_more serving next next' log holder holder' i seen le same (Waits t) k =
      let b = k.1 in (k.0, omega arith, same t b ∙ k.2)
  stands_more serving next next' log holder holder' i seen le same (In t y) k =
      let b = k.1 in (k.0, omega arith, same t b ∙ k.2, k.3)
  stands_more serving next next' log holder holder' i seen le same (Done t y) k =
      let b = k.1 in (k.0, omega arith, same t b ∙ k.2, k.3)

  -- another seat than the one whose ticket is served has not the value, so the list of entries is
  -- none of its own
  pub stands_longer : (serving next : ℕ) (log log' : List E) (holder : ℕ → ℕ) (i id : ℕ)
      (seen : List E) → holder serving ≡ id → i ≢ id → (st : Stage T)
      → Stands serving next log holder i seen st → Stands serving next log' holder i seen st
  stands_longer serving next log log' holder i id seen is ne Idle k = tt
  stands_longer serving next log log' holder i id seen is ne (Waits t) k = k
  stands_longer serving next log log' holder i id seen is ne (In t y) k =
      absurd (ne (sym k.2 ∙ (ap holder k.0 ∙ is)))
  stands_longer serving next log log' holder i id seen is ne (Done t y) k =
      absurd (ne (sym k.2 ∙ (ap holder k.0 ∙ is)))

  -- the ticket of another seat is a later one
  pub stands_served : (serving next : ℕ) (log : List E) (holder : ℕ → ℕ) (i id : ℕ) (seen : List E)
      → holder serving ≡ id → i ≢ id → (st : Stage T)
      → Stands serving next log holder i seen st → Stands (serving + 1) next log holder i seen st
      × Rests st
  stands_served serving next log holder i id seen is ne Idle k = (tt, tt)
  stands_served serving next log holder i id seen is ne (Waits t) k = let le = k.0 in (
    (
      dite (ℕ_discrete t serving) (λ q. absurd (ne (sym k.2 ∙ (ap holder q ∙ is))))
          (λ q. omega arith),
      k.1,
      k.2,
    ),
    tt,
  )
  stands_served serving next log holder i id seen is ne (In t y) k =
      absurd (ne (sym k.2 ∙ (ap holder k.0 ∙ is)))
  stands_served serving next log holder i id seen is ne (Done t y) k =
      absurd (ne (sym k.2 ∙ (ap holder k.0 ∙ is)))

module _ {T : Type 0} where
  pub out_rests : (t : ℕ) (y : T) (st : Stage T) → HasOut t y st → Rests st → ⊥
  out_rests t y Idle h k = h
  out_rests t y (Waits u) h k = h
  out_rests t y (In u z) h k = k
  out_rests t y (Done u z) h k = k

module _ {T E : Type 0} where
  -- the seat that has the value has the ticket that is served
  pub out_holds : (serving next : ℕ) (log : List E) (holder : ℕ → ℕ) (j : ℕ) (seen : List E) (y : T)
      (st : Stage T) → HasOut serving y st
      → Stands serving next log holder j seen st → (holder serving ≡ j) × (seen ≡ log)
  out_holds serving next log holder j seen y Idle h k = absurd h
  out_holds serving next log holder j seen y (Waits u) h k = absurd h
  out_holds serving next log holder j seen y (In u z) h k = (ap holder (sym h.0) ∙ k.2, k.3)
  out_holds serving next log holder j seen y (Done u z) h k = (ap holder (sym h.0) ∙ k.2, k.3)

module _ {T : Type 0} where
  pub out_busy : (t : ℕ) (y : T) (st : Stage T) → HasOut t y st → busy st ≡ 1
  out_busy t y Idle h = absurd h
  out_busy t y (Waits u) h = absurd h
  out_busy t y (In u z) h = refl
  out_busy t y (Done u z) h = refl

  pub was_is : (serving t : ℕ) (x was : T) → HasOut serving was (Done t x) → x ≡ was
  was_is serving t x was h = h.1

module _ {T E : Type 0} {session : E → ℕ} {start turns : ℕ} where
  -- tickets were drawn or served, and the seat's own still stands right
  pub fits_moved : (serving next serving' next' : ℕ) (log : List E)
      (owner holder holder' author : ℕ → ℕ) (i : ℕ) (v : View T E)
      → Fits session start turns serving next log owner holder author i v
      → Stands serving' next' log holder' i v.seen v.stage
      → Fits session start turns serving' next' log owner holder' author i v
  fits_moved serving next serving' next' log owner holder holder' author i v f stands = record {
    seen = f.seen;
    noted = f.noted;
    behind = f.behind;
    owns = f.owns;
    noted_behind = f.noted_behind;
    noted_owns = f.noted_owns;
    noted_opens = f.noted_opens;
    span_is = f.span_is;
    opens = f.opens;
    whole = f.whole;
    made = f.made;
    some_turns = f.some_turns;
    ticketed = f.ticketed;
    stands = stands;
  }

  -- sessions and own entries changed hands, and none of the seat's
  pub fits_kept : (serving next : ℕ) (log : List E) (owner owner' holder author author' : ℕ → ℕ)
      (i : ℕ) (v : View T E) → ((s : ℕ) → owner s ≡ i → owner' s ≡ i)
      → ((p : ℕ) → author p ≡ i → author' p ≡ i)
      → Fits session start turns serving next log owner holder author i v
      → Fits session start turns serving next log owner' holder author' i v
  fits_kept serving next log owner owner' holder author author' i v owned made_by f = record {
    seen = f.seen;
    noted = f.noted;
    behind = f.behind;
    owns = λ s b h. let o = f.owns s b h in (owned s o.0, o.1);
    noted_behind = f.noted_behind;
    noted_owns = λ s b h. let o = f.noted_owns s b h in (owned s o.0, o.1);
    noted_opens = f.noted_opens;
    span_is = f.span_is;
    opens = f.opens;
    whole = f.whole;
    made = λ p e h. let m = f.made p e h in (m.0, m.1, made_by p m.2, m.3);
    some_turns = f.some_turns;
    ticketed = f.ticketed;
    stands = f.stands;
  }
