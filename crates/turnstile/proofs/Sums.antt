-- Sums over lists read by `get_elem?`, and prefixes.
use Rattle.std.proofs.Common.{◌≡◌, ◌≢◌, ℕ, zero, suc, ◌+◌, ◌≤◌, List, [], ◌∷◌, ◌++◌, length}
use Rattle.std.proofs.Common.{set, sym, refl, ap, ◌∙◌, arith, append_assoc}
use Rattle.std.proofs.Common.{length-append, append-nil}
use Rattle.std.specs.List.{AllByRecursion}
use mathlib.Core.Option.{some, some-injective, some-ne-none}
use lib.ListN.{get_elem?}
use Rattle.turnstile.specs.Lists.{IsPrefix, total}

module _ {A : Type 0} where
  pub total_set : (f : A → ℕ) (l : List A) (i : ℕ) (v w : A) → get_elem? l i ≡ some v
      → total f (set l i w) + f v ≡ total f l + f w
  total_set f [] i v w e = absurd (some-ne-none v (sym e))
  total_set f (x ∷ xs) zero v w e =
      let same : f x ≡ f v = ap f (some-injective x v e) in omega arith
  total_set f (x ∷ xs) (suc i) v w e = let h = total_set f xs i v w e in omega arith

  pub total_at : (f : A → ℕ) (l : List A) (i : ℕ) (v : A) → get_elem? l i ≡ some v → f v ≤ total f l
  total_at f [] i v e = absurd (some-ne-none v (sym e))
  total_at f (x ∷ xs) zero v e = let same : f x ≡ f v = ap f (some-injective x v e) in omega arith
  total_at f (x ∷ xs) (suc i) v e = let h = total_at f xs i v e in omega arith

  pub total_two : (f : A → ℕ) (l : List A) (i j : ℕ) (v w : A) → i ≢ j → get_elem? l i ≡ some v
      → get_elem? l j ≡ some w → f v + f w ≤ total f l
  total_two f [] i j v w n e e' = absurd (some-ne-none v (sym e))
  total_two f (x ∷ xs) zero zero v w n e e' = absurd (n refl)
  total_two f (x ∷ xs) zero (suc j) v w n e e' =
      let same : f x ≡ f v = ap f (some-injective x v e) in
      let h = total_at f xs j w e' in
      omega arith
  total_two f (x ∷ xs) (suc i) zero v w n e e' =
      let same : f x ≡ f w = ap f (some-injective x w e') in
      let h = total_at f xs i v e in
      omega arith
  total_two f (x ∷ xs) (suc i) (suc j) v w n e e' =
      let h = total_two f xs i j v w (λ q. n (ap suc q)) e e' in omega arith

  pub total_three : (f : A → ℕ) (l : List A) (i j k : ℕ) (u v w : A) → i ≢ j → i ≢ k → j ≢ k
      → get_elem? l i ≡ some u → get_elem? l j ≡ some v → get_elem? l k ≡ some w
      → f u + f v + f w ≤ total f l
  total_three f [] i j k u v w ij ik jk e e' e'' = absurd (some-ne-none u (sym e))
  total_three f (x ∷ xs) zero zero k u v w ij ik jk e e' e'' = absurd (ij refl)
  total_three f (x ∷ xs) zero (suc j) zero u v w ij ik jk e e' e'' = absurd (ik refl)
  total_three f (x ∷ xs) zero (suc j) (suc k) u v w ij ik jk e e' e'' =
      let same : f x ≡ f u = ap f (some-injective x u e) in
      let h = total_two f xs j k v w (λ q. jk (ap suc q)) e' e'' in
      omega arith
  total_three f (x ∷ xs) (suc i) zero zero u v w ij ik jk e e' e'' = absurd (jk refl)
  total_three f (x ∷ xs) (suc i) zero (suc k) u v w ij ik jk e e' e'' =
      let same : f x ≡ f v = ap f (some-injective x v e') in
      let h = total_two f xs i k u w (λ q. ik (ap suc q)) e e'' in
      omega arith
  total_three f (x ∷ xs) (suc i) (suc j) zero u v w ij ik jk e e' e'' =
      let same : f x ≡ f w = ap f (some-injective x w e'') in
      let h = total_two f xs i j u v (λ q. ij (ap suc q)) e e' in
      omega arith
  total_three f (x ∷ xs) (suc i) (suc j) (suc k) u v w ij ik jk e e' e'' =
      let h = total_three f xs i j k u v w (λ q. ij (ap suc q)) (λ q. ik (ap suc q))
      (λ q. jk (ap suc q)) e e' e'' in
      omega arith

  -- where all others give 0
  pub total_none : (f : A → ℕ) (l : List A) → ((i : ℕ) (w : A) → get_elem? l i ≡ some w → f w ≡ 0)
      → total f l ≡ 0
  total_none f [] h = refl
  total_none f (x ∷ xs) h =
      let first = h zero x refl in
      let rest = total_none f xs (λ i w e. h (suc i) w e) in omega arith

  pub total_alone : (f : A → ℕ) (l : List A) (i : ℕ) (v : A) → get_elem? l i ≡ some v
      → ((j : ℕ) (w : A) → j ≢ i → get_elem? l j ≡ some w → f w ≡ 0) → total f l ≡ f v
  total_alone f [] i v e h = absurd (some-ne-none v (sym e))
  total_alone f (x ∷ xs) zero v e h =
      let same : f x ≡ f v = ap f (some-injective x v e) in
      let rest = total_none f xs (λ j w e'. h (suc j) w (omega arith) e') in omega arith
  total_alone f (x ∷ xs) (suc i) v e h =
      let first = h zero x (omega arith) refl in
      let rest = total_alone f xs i v e (λ j w ne e'. h (suc j) w (λ q. ne (omega arith)) e') in
      omega arith

  nothing_left : (l : List A) → length l ≡ 0 → l ≡ []
  nothing_left [] z = refl
  nothing_left (x ∷ l) z = absurd (omega arith)

  -- a prefix that is as long is the whole
  pub whole_prefix : (xs log : List A) → IsPrefix xs log → length log ≤ length xs → xs ≡ log
  whole_prefix xs log p le =
      let long : length log ≡ length xs + length p.0 = ap length p.1 ∙ length-append xs p.0 in
      sym (p.1 ∙ ap (λ (l : List A). xs ++ l) (nothing_left p.0 (omega arith)) ∙ append-nil xs)

  pub at_behind : (xs ys : List A) (p : ℕ) → get_elem? (xs ++ ys) (length xs + p) ≡ get_elem? ys p
  at_behind [] ys p = ap (get_elem? ys) (omega arith)
  at_behind (x ∷ xs) ys p =
      ap (get_elem? (x ∷ (xs ++ ys))) (let e : length (x ∷ xs) + p ≡ suc (length xs + p) =
      omega arith in e) ∙ at_behind xs ys p

  pub all_by_place : (P : A → Type 0) (ys : List A)
      → ((p : ℕ) (y : A) → get_elem? ys p ≡ some y → P y) → AllByRecursion P ys
  all_by_place P [] h = tt
  all_by_place P (y ∷ ys) h = (h 0 y refl, all_by_place P ys (λ p z e. h (suc p) z e))

  pub total_both : (f g : A → ℕ) (l : List A) → total (λ x. f x + g x) l ≡ total f l + total g l
  total_both f g [] = refl
  total_both f g (x ∷ xs) = let h = total_both f g xs in omega arith

  pub total_below : (f g : A → ℕ) (l : List A)
      → ((i : ℕ) (v : A) → get_elem? l i ≡ some v → f v ≤ g v) → total f l ≤ total g l
  total_below f g [] h = omega arith
  total_below f g (x ∷ xs) h =
      let a = h zero x refl in let b = total_below f g xs (λ i v e. h (suc i) v e) in omega arith

  pub total_snoc : (f : A → ℕ) (l : List A) (x : A) → total f (l ++ x ∷ []) ≡ total f l + f x
  total_snoc f [] x = omega arith
  total_snoc f (y ∷ ys) x = let h = total_snoc f ys x in omega arith

  pub prefix_all : (xs : List A) → IsPrefix xs xs
  prefix_all xs = ([], sym (append-nil xs))

  pub prefix_more : (xs ys : List A) (x : A) → IsPrefix xs ys → IsPrefix xs (ys ++ x ∷ [])
  prefix_more xs ys x p = (p.0 ++ x ∷ [], ap (λ l. l ++ x ∷ []) p.1 ∙ append_assoc xs p.0 (x ∷ []))

  pub prefix_length : (xs ys : List A) → IsPrefix xs ys → length xs ≤ length ys
  prefix_length xs ys p =
      let e : length ys ≡ length xs + length p.0 = ap length p.1 ∙ length-append xs p.0 in
      omega arith
