-- Which lists have a member that passes a test.
use Rattle.std.proofs.Common.{◌≡◌, ℕ, zero, suc, ◌+◌, ◌<◌, ◌≤◌, Bool, true, false, cond, not, ◌&&◌}
use Rattle.std.proofs.Common.{◌||◌, List, [], ◌∷◌, ◌++◌, map, filter, drop, length, unwrap_or, refl}
use Rattle.std.proofs.Common.{ap, ◌∙◌, inl, inr, ◌⊎◌, ⊎_elim, arith}
use Rattle.std.specs.Prelude.{slice_get}
use Rattle.std.specs.List.{AllByRecursion, list_any, list_all}
use Rattle.sql_model.specs.Listing.{numbers}

pub or_left : (a b : Bool) → a ≡ true → (a || b) ≡ true
or_left true b e = refl
or_left false b e = absurd cc

pub or_right : (a b : Bool) → b ≡ true → (a || b) ≡ true
or_right true b e = refl
or_right false b e = e

pub or_either : (a b : Bool) → (a || b) ≡ true → (a ≡ true) ⊎ (b ≡ true)
or_either true b e = inl refl
or_either false b e = inr e

pub and_both : (a b : Bool) → (a && b) ≡ true → (a ≡ true) × (b ≡ true)
and_both true b e = (refl, e)
and_both false b e = absurd cc

pub and_made : (a b : Bool) → a ≡ true → b ≡ true → (a && b) ≡ true
and_made true b e f = f
and_made false b e f = absurd cc

-- what is implied fails where what implies it does
pub not_weaker : (a b : Bool) → (a ≡ true → b ≡ true) → not b ≡ true → not a ≡ true
not_weaker true b f e =
    absurd (let so : b ≡ true = f refl in elim b as (λ b. b ≡ true → not b ≡ true → ⊥)
    [ true ↦ λ s n. absurd cc | false ↦ λ s n. absurd cc ] so e)
not_weaker false b f e = refl

pub not_true : (a : Bool) → (a ≡ true → ⊥) → a ≡ false
not_true true f = absurd (f refl)
not_true false f = refl

pub any_weaker : {X : Type 0} (p q : X → Bool) (xs : List X) → ((x : X) → p x ≡ true → q x ≡ true) →
    list_any p xs ≡ true → list_any q xs ≡ true
any_weaker p q [] f h = absurd cc
any_weaker p q (x ∷ xs) f h =
    ⊎_elim (λ first. or_left (q x) (list_any q xs) (f x first))
    (λ rest. or_right (q x) (list_any q xs) (any_weaker p q xs f rest))
    (or_either (p x) (list_any p xs) h)

-- a member that passes, of those of which something is known
pub any_known : {X : Type 0} (P : X → Type 0) (p : X → Bool) (C : Type 0) (xs : List X) →
    AllByRecursion P xs → ((x : X) → P x → p x ≡ true → C) → list_any p xs ≡ true → C
any_known P p C [] all f h = absurd cc
any_known P p C (x ∷ xs) all f h =
    ⊎_elim (λ first. f x all.0 first) (λ rest. any_known P p C xs all.1 f rest)
    (or_either (p x) (list_any p xs) h)

pub any_front : {X : Type 0} (p : X → Bool) (xs ys : List X) → list_any p xs ≡ true → list_any p
    (xs ++ ys) ≡ true
any_front p [] ys h = absurd cc
any_front p (x ∷ xs) ys h =
    ⊎_elim (λ first. or_left (p x) (list_any p (xs ++ ys)) first)
    (λ rest. or_right (p x) (list_any p (xs ++ ys)) (any_front p xs ys rest))
    (or_either (p x) (list_any p xs) h)

pub any_parts : {X : Type 0} (p : X → Bool) (xs ys : List X) → list_any p (xs ++ ys) ≡ true →
    (list_any p xs ≡ true) ⊎ (list_any p ys ≡ true)
any_parts p [] ys h = inr h
any_parts p (x ∷ xs) ys h =
    ⊎_elim (λ first. inl (or_left (p x) (list_any p xs) first))
    (λ rest. ⊎_elim (λ front. inl (or_right (p x) (list_any p xs) front)) (λ back. inr back)
    (any_parts p xs ys rest))
    (or_either (p x) (list_any p (xs ++ ys)) h)

pub any_filter : {X : Type 0} (p q : X → Bool) (xs : List X) → list_any p (filter q xs) ≡ true →
    list_any p xs ≡ true
any_filter p q [] h = h
any_filter p q (x ∷ xs) h =
    elim (q x) as (λ b. list_any p (cond b (x ∷ filter q xs) (filter q xs)) ≡ true →
    (p x || list_any p xs) ≡ true) [
      | true ↦ λ h. ⊎_elim (λ first. or_left (p x) (list_any p xs) first)
          (λ rest. or_right (p x) (list_any p xs) (any_filter p q xs rest))
          (or_either (p x) (list_any p (filter q xs)) h)
      | false ↦ λ h. or_right (p x) (list_any p xs) (any_filter p q xs h)
    ] h

pub any_map : {X Y : Type 0} (p : Y → Bool) (f : X → Y) (xs : List X) → list_any p (map f xs) ≡
    list_any (λ x. p (f x)) xs
any_map p f [] = refl
any_map p f (x ∷ xs) = ap (λ (b : Bool). p (f x) || b) (any_map p f xs)

pub all_test : {X : Type 0} (P : X → Type 0) (p : X → Bool) (xs : List X) → AllByRecursion P xs →
    ((x : X) → P x → p x ≡ true) → list_all p xs ≡ true
all_test P p [] all f = refl
all_test P p (x ∷ xs) all f = and_made (p x) (list_all p xs) (f x all.0) (all_test P p xs all.1 f)

pub all_known : {X : Type 0} (p : X → Bool) (xs : List X) → list_all p xs ≡ true → AllByRecursion
    (λ x. p x ≡ true) xs
all_known p [] h = tt
all_known p (x ∷ xs) h =
    let both = and_both (p x) (list_all p xs) h in (both.0, all_known p xs both.1)

-- members from a place on

pub some_from : {X : Type 0} (p : X → Bool) (d : X) (xs : List X) (m n : ℕ) → p d ≡ false → m ≤ n →
    p (unwrap_or (slice_get xs n) d) ≡ true → list_any p (drop m xs) ≡ true
some_from p d [] m n none le h = absurd cc
some_from p d (x ∷ xs) zero zero none le h = or_left (p x) (list_any p xs) h
some_from p d (x ∷ xs) (suc m) zero none le h = absurd (omega arith)
some_from p d (x ∷ xs) zero (suc n) none le h =
    or_right (p x) (list_any p xs) (some_from p d xs 0 n none (omega arith) h)
some_from p d (x ∷ xs) (suc m) (suc n) none le h = some_from p d xs m n none (omega arith) h

pub from_some : {X : Type 0} (p : X → Bool) (d : X) (xs : List X) (m : ℕ) → list_any p (drop m xs) ≡
    true → (n : ℕ) × (m ≤ n) × (n < length xs) × (p (unwrap_or (slice_get xs n) d) ≡ true)
from_some p d [] zero h = absurd cc
from_some p d [] (suc m) h = absurd cc
from_some p d (x ∷ xs) zero h =
    ⊎_elim (λ first. (0, omega arith, omega arith, first))
    (λ rest. let found = from_some p d xs 0 rest in
    (suc found.0, omega arith, omega (arith, found.2), found.3))
    (or_either (p x) (list_any p xs) h)
from_some p d (x ∷ xs) (suc m) h =
    let found = from_some p d xs m h in
    (suc found.0, omega (arith, found.1), omega (arith, found.2), found.3)

pub any_drop : {X : Type 0} (p : X → Bool) (xs : List X) (m n : ℕ) → m ≤ n → list_any p (drop n xs)
    ≡ true → list_any p (drop m xs) ≡ true
any_drop p [] zero zero le h = h
any_drop p [] zero (suc n) le h = h
any_drop p [] (suc m) zero le h = absurd cc
any_drop p [] (suc m) (suc n) le h = absurd cc
any_drop p (x ∷ xs) zero zero le h = h
any_drop p (x ∷ xs) zero (suc n) le h =
    or_right (p x) (list_any p xs) (any_drop p xs 0 n (omega arith) h)
any_drop p (x ∷ xs) (suc m) zero le h = absurd (omega arith)
any_drop p (x ∷ xs) (suc m) (suc n) le h = any_drop p xs m n (omega arith) h

pub any_drop_more : {X : Type 0} (p : X → Bool) (xs : List X) (x : X) (n : ℕ) → list_any p
    (drop n (xs ++ x ∷ [])) ≡ true → (list_any p (drop n xs) ≡ true) ⊎ (p x ≡ true)
any_drop_more p [] x zero h =
    ⊎_elim (λ first. inr first) (λ rest. absurd cc) (or_either (p x) false h)
any_drop_more p [] x (suc zero) h = absurd cc
any_drop_more p [] x (suc (suc n)) h = absurd cc
any_drop_more p (y ∷ ys) x zero h =
    ⊎_elim (λ first. inl (or_left (p y) (list_any p ys) first))
    (λ rest. ⊎_elim (λ front. inl (or_right (p y) (list_any p ys) front)) (λ last. inr last)
    (any_drop_more p ys x 0 rest))
    (or_either (p y) (list_any p (ys ++ x ∷ [])) h)
any_drop_more p (y ∷ ys) x (suc n) h = any_drop_more p ys x n h

-- numbers of a range

pub numbers_any : (p : ℕ → Bool) (from count : ℕ) → list_any p (numbers from count) ≡ true → (n : ℕ)
    × (from ≤ n) × (n < from + count) × (p n ≡ true)
numbers_any p from zero h = absurd cc
numbers_any p from (suc count) h =
    ⊎_elim (λ first. (from, omega arith, omega arith, first))
    (λ rest. let found = numbers_any p (from + 1) count rest in
    (found.0, omega (arith, found.1), omega (arith, found.2), found.3))
    (or_either (p from) (list_any p (numbers (from + 1) count)) h)

pub numbers_some : (p : ℕ → Bool) (from count n : ℕ) → from ≤ n → n < from + count → p n ≡ true →
    list_any p (numbers from count) ≡ true
numbers_some p from zero n low high h = absurd (omega arith)
numbers_some p from (suc count) n low high h =
    ⊎_elim (λ (first : from ≡ n). or_left (p from) (list_any p (numbers (from + 1) count))
    (ap p first ∙ h))
    (λ (less : from < n). or_right (p from) (list_any p (numbers (from + 1) count))
    (numbers_some p (from + 1) count n (omega arith) (omega arith) h))
    (first_or_later from n low)
  where
    first_or_later : (m n : ℕ) → m ≤ n → (m ≡ n) ⊎ (m < n)
    first_or_later m n le = grind arith

pub any_behind : {X : Type 0} (p : X → Bool) (xs ys : List X) → list_any p ys ≡ true → list_any p
    (xs ++ ys) ≡ true
any_behind p [] ys e = e
any_behind p (x ∷ xs) ys e = or_right (p x) (list_any p (xs ++ ys)) (any_behind p xs ys e)
