-- Places in lists, and prefixes.
use Rattle.std.proofs.Common.{◌≡◌, ℕ, zero, suc, ◌<◌, ◌≤◌, ◌⊎◌, inl, inr, Bool, List, []}
use Rattle.std.proofs.Common.{◌∷◌, ◌++◌, length, drop, get_or, sym, refl, ap, ◌∙◌, subst, ⊎_elim}
use Rattle.std.proofs.Common.{arith, append-nil, true, false, nat_le}
use Rattle.std.specs.Prelude.{if◌then◌else◌}
use mathlib.Core.Logic.{dite}
use mathlib.Core.Option.{some, some-ne-none}
use native.Mathlib.Decide.{dec_le}
use Rattle.std.proofs.lemmas.Bool.Decides.{nat_tests}
use lib.ListN.{get_elem?}
use Rattle.atomic_table.proofs.Lists.{at_longer}
use Rattle.turnstile.specs.Lists.{longer, shorter, IsPrefix, numbered, Has}

pub past_end : {A : Type 0} (l : List A) (p : ℕ) (e : A) → get_elem? l p ≡ some e → p < length l
past_end [] p e h = absurd (some-ne-none e (sym h))
past_end (x ∷ xs) zero e h = omega arith
past_end (x ∷ xs) (suc p) e h = let k = past_end xs p e h in omega arith

pub drop_all : {A : Type 0} (l : List A) → drop (length l) l ≡ []
drop_all [] = refl
drop_all (x ∷ xs) = drop_all xs

pub drop_seam : {A : Type 0} (l m : List A) → drop (length l) (l ++ m) ≡ m
drop_seam [] m = refl
drop_seam (x ∷ xs) m = drop_seam xs m

pub two_prefixes : {A : Type 0} (a b log : List A) → IsPrefix a log → IsPrefix b log
    → length a ≤ length b → IsPrefix a b
two_prefixes [] b log p q le = (b, refl)
two_prefixes (x ∷ a) [] log p q le = absurd (omega arith)
two_prefixes {A} (x ∷ a) (y ∷ b) log p q le =
    let r = two_prefixes a b (drop 1 log) (p.0, ap (drop 1) p.1) (q.0, ap (drop 1) q.1)
    (omega arith) in
    let head : y ≡ x = ap (λ (l : List A). get_or l 0 x) (sym q.1 ∙ p.1) in
    (r.0, λ i. head i ∷ r.1 i)

pub has_left : {A : Type 0} (x : A) (l m : List A) → Has x l → Has x (l ++ m)
has_left x l m h = (h.0, at_longer l m h.0 x h.1)

pub has_right : {A : Type 0} (x : A) (l m : List A) → Has x m → Has x (l ++ m)
has_right x [] m h = h
has_right x (y ∷ l) m h = let k = has_right x l m h in (suc k.0, k.1)

pub has_cases : {A : Type 0} (x : A) (l m : List A) (i : ℕ) → get_elem? (l ++ m) i ≡ some x
    → Has x l ⊎ Has x m
has_cases x [] m i e = inr (i, e)
has_cases x (y ∷ l) m zero e = inl (0, e)
has_cases x (y ∷ l) m (suc i) e = ⊎_elim (λ h. inl (suc h.0, h.1)) (λ h. inr h)
    (has_cases x l m i e)

pub has_some : {A : Type 0} (x : A) (l : List A) → Has x l → 0 < length l
has_some x [] h = absurd (some-ne-none x (sym h.1))
has_some x (y ∷ ys) h = omega arith

module _ {E : Type 0} where
  pub beyond : (l : List E) (p : ℕ) (e : E) → get_elem? l p ≡ some e → length l ≤ p → ⊥
  beyond [] p e h le = some-ne-none e (sym h)
  beyond (x ∷ xs) zero e h le = omega arith
  beyond (x ∷ xs) (suc p) e h le = beyond xs p e h (omega arith)

  pub in_longer : (sn log : List E) → IsPrefix sn log → (p : ℕ) (e : E) → get_elem? sn p ≡ some e
      → get_elem? log p ≡ some e
  in_longer sn log prefix p e there = ap (λ l. get_elem? l p) prefix.1 ∙ at_longer sn prefix.0 p e
      there

  pub nothing_new : (sn all : List E) (own : List (ℕ × E)) → sn ≡ all → own ++ numbered (length sn)
      (drop (length sn) all) ≡ own
  nothing_new sn all own e = ap (λ l. own ++ numbered (length sn) l)
      (ap (λ l. drop (length l) all) e ∙ drop_all all) ∙ append-nil own

  pub one_new : (sn all log : List E) (e : E) (own : List (ℕ × E)) → sn ≡ log → all ≡ log ++ e ∷ []
      → own ++ numbered (length sn) (drop (length sn) all) ≡ own ++ (length log, e) ∷ []
  one_new sn all log e own a b = ap (λ l. own ++ numbered (length l) (drop (length l) all)) a
      ∙ (ap (λ l. own ++ numbered (length log) (drop (length log) l)) b
      ∙ ap (λ l. own ++ numbered (length log) l) (drop_seam log (e ∷ [])))

  pub prefix_case : (b : Bool) (F : List E → Type 0) (x y : List E) → F x → F y
      → F (if b then x else y)
  prefix_case true F x y a c = a
  prefix_case false F x y a c = c

  pub pair_case : (b : Bool) (F : List E → List (ℕ × Bool) → Type 0) (x y : List E)
      (p q : List (ℕ × Bool)) → F x p → F y q → F (if b then x else y) (if b then p else q)
  pair_case true F x y p q a c = a
  pair_case false F x y p q a c = c

  pub longer_length : (a b : List E) → (length a ≤ length (longer a b))
      × (length b ≤ length (longer a b)) × (length (shorter a b) ≤ length (longer a b))
  longer_length a b = dite (dec_le (length a) (length b))
      (λ le. let c : nat_le (length a) (length b) ≡ true = grind (arith, nat_tests) in
      let F : Bool → Type 0 = λ z. (length a ≤ length (if z then b else a))
      × (length b ≤ length (if z then b else a))
      × (length (if z then a else b) ≤ length (if z then b else a)) in
      subst F (sym c) (le, omega arith, le))
      (λ ne. let c : nat_le (length a) (length b) ≡ false = grind (arith, nat_tests) in
      let F : Bool → Type 0 = λ z. (length a ≤ length (if z then b else a))
      × (length b ≤ length (if z then b else a))
      × (length (if z then a else b) ≤ length (if z then b else a)) in
      subst F (sym c) (omega arith, omega arith, omega arith))

  pub short_fits : (a b : List E) → length (shorter a b) ≤ length (longer a b)
  short_fits a b = (longer_length a b).2
