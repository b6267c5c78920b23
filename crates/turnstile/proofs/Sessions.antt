-- Which sessions a pass has, for its callers.
use Rattle.std.proofs.Common.{◌≡◌, ◌≢◌, ℕ, zero, suc, ◌+◌, ◌<◌, ◌≤◌, ◌==◌, Bool, true, false, List}
use Rattle.std.proofs.Common.{[], ◌∷◌, sym, refl, ap, ◌∙◌, subst, arith}
use Rattle.std.proofs.Common.{eq-eqb, ne_eqb, filter, not}
use Rattle.std.proofs.Common.{length, rules}
use Rattle.std.specs.Prelude.{if◌then◌else◌}
use mathlib.Core.Option.{some, some-injective, some-ne-none}
use lib.ListN.{get_elem?}
use Rattle.turnstile.specs.Lists.{Has}
use Rattle.turnstile.specs.Sessions.{IsOneOf, only, rooms_in, rooms_of, sixteen, without}

behind : (b : Bool) (p : ℕ × Bool) (l : List (ℕ × Bool)) (x : ℕ × Bool) → Has x l
    → Has x (if b then p ∷ l else l)
behind true p l x h = (suc h.0, h.1)
behind false p l x h = h

stays : (f : ℕ × Bool → Bool) (l : List (ℕ × Bool)) (x : ℕ × Bool) → f x ≡ true → Has x l
    → Has x (filter f l)
stays f [] x is h = absurd (some-ne-none x (sym h.1))
stays f (p ∷ l) x is (zero, e) =
    let same : p ≡ x = some-injective p x e in
    let kept : f p ≡ true = ap f same ∙ is in
    subst (λ (b : Bool). Has x (if b then p ∷ filter f l else filter f l)) (sym kept) (0, e)
stays f (p ∷ l) x is (suc i, e) = behind (f p) p (filter f l) x (stays f l x is (i, e))

-- a session stays where another one goes
pub others_stay : (l : List (ℕ × Bool)) (gone s : ℕ) → s ≢ gone → IsOneOf l s
    → IsOneOf (without gone l) s
others_stay l gone s ne h =
    (h.0, stays (λ p. not (p.0 == gone)) l (s, h.0) (ap not (ne_eqb s gone ne)) h.1)

-- the session that goes is the new pass's
pub only_goes : (l : List (ℕ × Bool)) (s : ℕ) → IsOneOf l s → IsOneOf (only s l) s
only_goes l s h = (h.0, stays (λ p. p.0 == s) l (s, h.0) (eq-eqb s s refl) h.1)

abbrev Counts : ℕ → List ℕ → Type 0
Counts n [] = Unit {0}
Counts n (x ∷ l) = (x ≡ n) × Counts (n + 1) l

counted : (n : ℕ) (l : List ℕ) → Counts n l → (i : ℕ) → i < length l → get_elem? l i ≡ some (n + i)
counted n [] c i low = absurd (omega arith)
counted n (x ∷ l) c zero low = ap (λ (z : ℕ). some z) (let is = c.0 in omega arith)
counted n (x ∷ l) c (suc i) low =
    counted (n + 1) l c.1 i (omega arith) ∙ ap (λ (z : ℕ). some z) (omega arith)

counts : Counts 1 sixteen
counts = search rules

module _ {T : Type 0} (has_room : T → ℕ → Bool) (x : T) where
  numbered_has : (l : List ℕ) (i s : ℕ) → get_elem? l i ≡ some s
      → IsOneOf (rooms_in has_room x l) s
  numbered_has [] i s e = absurd (some-ne-none s (sym e))
  numbered_has (k ∷ l) zero s e =
      let same : k ≡ s = some-injective k s e in
      (has_room x k, (0, ap (λ (z : ℕ). some (z, has_room x k)) same))
  numbered_has (k ∷ l) (suc i) s e =
      let h = numbered_has l i s e in (h.0, (suc h.1.0, h.1.1))

  -- the first pass has each of the sixteen sessions
  pub sixteen_has : (s : ℕ) → 1 ≤ s → s ≤ 16 → IsOneOf (rooms_in has_room x sixteen) s
  sixteen_has zero low high = absurd (omega arith)
  sixteen_has (suc i) low high = numbered_has sixteen i (suc i)
      (counted 1 sixteen counts i (omega arith) ∙ ap (λ (z : ℕ). some z) (omega arith))

  -- a turn's end keeps the sessions
  pub rooms_keep : (l : List (ℕ × Bool)) (s : ℕ) → IsOneOf l s → IsOneOf (rooms_of has_room x l) s
  rooms_keep [] s h = absurd (some-ne-none (s, h.0) (sym h.1.1))
  rooms_keep (p ∷ l) s (b, (zero, e)) =
      let same : p ≡ (s, b) = some-injective p (s, b) e in
      let number : p.0 ≡ s = ap (λ (z : ℕ × Bool). z.0) same in
      (has_room x p.0, (0, ap (λ (z : ℕ). some (z, has_room x p.0)) number))
  rooms_keep (p ∷ l) s (b, (suc i, e)) =
      let h = rooms_keep l s (b, (i, e)) in (h.0, (suc h.1.0, h.1.1))
