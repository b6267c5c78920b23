-- Positions that ascend, by cases on the list.
use Rattle.std.proofs.Common.{◌≡◌, ℕ, zero, suc, ◌+◌, ◌<◌, ◌≤◌, Bool, true, false, ◌||◌, eqb, List, [], ◌∷◌, ◌++◌, length, get_or, take, drop, nat_le, Option, Some, None, Result, Ok, Err, refl, sym, ap, subst, ◌∙◌, append_assoc, arith, inl, inr}
use Rattle.std.specs.Prelude.{is_ok, MatchResult, IfOk, IfErr, ◌==◌}
use Rattle.std.specs.List.{insert, filter}
use Rattle.std.specs.List.Sorted.{IsStrictlyIncreasing, IsBinarySearchResult}
use Rattle.std.specs.Ordering.{nat_cmp}
use Rattle.std.proofs.lemmas.Bool.{ltb-true, lt-ltb, eq-eqb, ne_eqb, cases_eq, cases_lt}
use Rattle.std.proofs.lemmas.List.{take-append-drop}
use Rattle.std.proofs.lemmas.List.Kept.{AllPairs-from_increasing}
use Rattle.std.proofs.lemmas.List.Folds.{list_any-append, list_any_at}
use Rattle.std.proofs.lemmas.List.Sorted.{searched}
use Rattle.deletion_vector.specs.Positions.{has}
use Rattle.deletion_vector.specs.Spelling.{is_above}

abbrev pub Ascends : Option ℕ → List ℕ → Type 0
Ascends before [] = Unit {0}
Ascends before (x ∷ xs) = (is_above before x ≡ true) × Ascends (Some x) xs

-- the same, by places

from_places : (before : ℕ) (xs : List ℕ) → IsStrictlyIncreasing (before ∷ xs) → Ascends (Some before) xs
from_places before [] up = tt
from_places before (x ∷ xs) up = (
  lt-ltb _ _ (up 0 (omega arith)),
  from_places x xs (λ k lt. let e : suc k + 1 ≡ suc (k + 1) = omega arith in
      subst (λ (n : ℕ). get_or (x ∷ xs) k 0 < get_or (before ∷ x ∷ xs) n 0) e (up (suc k) (omega arith))),
)

pub Ascends-from_increasing : (xs : List ℕ) → IsStrictlyIncreasing xs → Ascends None xs
Ascends-from_increasing [] up = tt
Ascends-from_increasing (x ∷ xs) up = (refl, from_places x xs up)

to_places : (before : ℕ) (xs : List ℕ) (k : ℕ) → Ascends (Some before) xs → k + 1 < length (before ∷ xs) → get_or (before ∷ xs) k 0 < get_or (before ∷ xs) (k + 1) 0
to_places before [] k up lt = absurd (omega arith)
to_places before (x ∷ xs) zero up lt = ltb-true _ _ up.0
to_places before (x ∷ xs) (suc k) up lt =
    let e : suc (k + 1) ≡ suc k + 1 = omega arith in
    subst (λ (n : ℕ). get_or (x ∷ xs) k 0 < get_or (before ∷ x ∷ xs) n 0) e (to_places x xs k up.1 (omega arith))

pub IsStrictlyIncreasing-from_ascends : (xs : List ℕ) → Ascends None xs → IsStrictlyIncreasing xs
IsStrictlyIncreasing-from_ascends [] up = λ k lt. absurd (omega arith)
IsStrictlyIncreasing-from_ascends (x ∷ xs) up = λ k lt. to_places x xs k up.1 lt

-- ---- two ascending lists with one front

pub Ascends-between : (before : Option ℕ) (front : List ℕ) (x : ℕ) (xs : List ℕ) (y : ℕ) (ys : List ℕ) → Ascends before (front ++ x ∷ xs) → Ascends before (front ++ y ∷ ys) → x < y
    → Ascends before ((front ++ x ∷ []) ++ y ∷ ys)
Ascends-between before [] x xs y ys up above lt = (up.0, (lt-ltb _ _ lt, above.1))
Ascends-between before (b ∷ front) x xs y ys up above lt = (up.0, Ascends-between (Some b) front x xs y ys up.1 above.1 lt)

pub Ascends-moved : (before : Option ℕ) (front : List ℕ) (x : ℕ) (xs : List ℕ) → Ascends before (front ++ x ∷ xs) → Ascends before ((front ++ x ∷ []) ++ xs)
Ascends-moved before front x xs up = subst (λ (l : List ℕ). Ascends before l) (sym (append_assoc front (x ∷ []) xs)) up

-- ---- what lists have

pub has-append : (p : ℕ) (xs ys : List ℕ) → has p (xs ++ ys) ≡ (has p xs || has p ys)
has-append p xs ys = list_any-append (λ x. x == p) xs ys

left_first : (b e l r : Bool) → ((b || (e || false)) || (l || r)) ≡ (b || ((e || l) || r))
left_first true e l r = refl
left_first false true l r = refl
left_first false false l r = refl

right_first : (b e l r : Bool) → ((b || (e || false)) || (l || r)) ≡ (b || (l || (e || r)))
right_first true e l r = refl
right_first false true true r = refl
right_first false true false r = refl
right_first false false l r = refl

both_first : (b e l r : Bool) → ((b || (e || false)) || (l || r)) ≡ (b || ((e || l) || (e || r)))
both_first true e l r = refl
both_first false true l r = refl
both_first false false l r = refl

pub union_left : (p : ℕ) (both : List ℕ) (x : ℕ) (xs ys : List ℕ) → (has p (both ++ x ∷ []) || (has p xs || has p ys)) ≡ (has p both || (has p (x ∷ xs) || has p ys))
union_left p both x xs ys = rw (has-append p both (x ∷ [])) (left_first (has p both) (x == p) (has p xs) (has p ys))

pub union_right : (p : ℕ) (both : List ℕ) (y : ℕ) (xs ys : List ℕ) → (has p (both ++ y ∷ []) || (has p xs || has p ys)) ≡ (has p both || (has p xs || has p (y ∷ ys)))
union_right p both y xs ys = rw (has-append p both (y ∷ [])) (right_first (has p both) (y == p) (has p xs) (has p ys))

pub union_both : (p : ℕ) (both : List ℕ) (x : ℕ) (xs ys : List ℕ) → (has p (both ++ x ∷ []) || (has p xs || has p ys)) ≡ (has p both || (has p (x ∷ xs) || has p (x ∷ ys)))
union_both p both x xs ys = rw (has-append p both (x ∷ [])) (both_first (has p both) (x == p) (has p xs) (has p ys))

added_last : (a b e : Bool) → (a || (e || b)) ≡ ((a || b) || e)
added_last true b e = refl
added_last false true true = refl
added_last false true false = refl
added_last false false true = refl
added_last false false false = refl

pub has-insert : (p : ℕ) (xs : List ℕ) (i x : ℕ) → has p (insert xs i x) ≡ (has p xs || x == p)
has-insert p xs i x =
    has-append p (take i xs) (x ∷ drop i xs)
    ∙ added_last (has p (take i xs)) (has p (drop i xs)) (x == p)
    ∙ ap (λ (b : Bool). b || x == p) (sym (has-append p (take i xs) (drop i xs)) ∙ ap (has p) (take-append-drop i xs))

-- ---- a search

pub non_decreasing : (xs : List ℕ) → IsStrictlyIncreasing xs → (i j : ℕ) → i ≤ j → j < length xs → get_or xs i 0 ≤ get_or xs j 0
non_decreasing xs up i j le lt =
    elim (cases_eq i j) [
      | inl e ↦ rw e (omega arith)
      | inr ne ↦ let less = AllPairs-from_increasing xs up i j 0 (omega (arith, ne)) lt in omega (arith, less)
    ]

none_is : (p : ℕ) (xs : List ℕ) → ((k : ℕ) → k < length xs → get_or xs k 0 ≡ p → ⊥) → has p xs ≡ false
none_is p [] h = refl
none_is p (x ∷ xs) h = let first : eqb x p ≡ false = ne_eqb _ _ (h 0 (omega arith)) in rw (first, none_is p xs (λ k lt. h (suc k) (omega arith))) refl

found_place : (p : ℕ) (xs : List ℕ) (r : Result ℕ ℕ) → MatchResult r (λ i. (i < length xs) × (get_or xs i 0 ≡ p)) (λ i. (i ≤ length xs) × ((k : ℕ) → k < i → get_or xs k 0 < p) × ((k : ℕ) → i ≤ k → k < length xs → p < get_or xs k 0))
    → (is_ok r ≡ has p xs) × IfErr r (λ i. (i ≤ length xs) × ((k : ℕ) → k < i → get_or xs k 0 < p) × ((k : ℕ) → i ≤ k → k < length xs → p < get_or xs k 0))
found_place p xs (Ok i) h = (sym (list_any_at (λ x. x == p) xs i 0 h.0 (eq-eqb _ _ h.1)), tt)
found_place p xs (Err i) h = (
  sym (none_is p xs (λ k lt e.
      elim (cases_lt k i) [
        | inl below ↦ let less = h.1 k below in omega (arith, less, e)
        | inr above ↦ let less = h.2 k above lt in omega (arith, less, e)
      ])),
  h,
)

pub placed : (p : ℕ) (xs : List ℕ) (r : Result ℕ ℕ) → IsStrictlyIncreasing xs → IsBinarySearchResult (λ y. nat_cmp y p) xs r
    → (is_ok r ≡ has p xs) × IfErr r (λ i. (i ≤ length xs) × ((k : ℕ) → k < i → get_or xs k 0 < p) × ((k : ℕ) → i ≤ k → k < length xs → p < get_or xs k 0))
placed p xs r up is = found_place p xs r (searched xs p r is (non_decreasing xs up))

pub absent : (p : ℕ) (xs : List ℕ) (r : Result ℕ ℕ) → IfErr r (λ i. (i ≤ length xs) × ((k : ℕ) → k < i → get_or xs k 0 < p) × ((k : ℕ) → i ≤ k → k < length xs → p < get_or xs k 0))
    → IfErr r (λ i. (k : ℕ) → k < i → get_or xs k 0 < p) × IfErr r (λ i. (k : ℕ) → i ≤ k → k < length xs → p < get_or xs k 0)
absent p xs (Ok i) h = (tt, tt)
absent p xs (Err i) h = (h.1, h.2)

pub present : (p : ℕ) (xs : List ℕ) (r : Result ℕ ℕ) → IsStrictlyIncreasing xs → IsBinarySearchResult (λ y. nat_cmp y p) xs r → IfOk r (λ i. get_or xs i 0 ≡ p)
present p xs r up is = at_found p xs r (searched xs p r is (non_decreasing xs up))
  where
    at_found : (p : ℕ) (xs : List ℕ) (r : Result ℕ ℕ) → MatchResult r (λ i. (i < length xs) × (get_or xs i 0 ≡ p)) (λ i. (i ≤ length xs) × ((k : ℕ) → k < i → get_or xs k 0 < p) × ((k : ℕ) → i ≤ k → k < length xs → p < get_or xs k 0)) → IfOk r (λ i. get_or xs i 0 ≡ p)
    at_found p xs (Ok i) h = h.1
    at_found p xs (Err i) h = tt

pub inside : (p : ℕ) (xs : List ℕ) (r : Result ℕ ℕ) → IsStrictlyIncreasing xs → IsBinarySearchResult (λ y. nat_cmp y p) xs r → IfOk r (λ i. i < length xs)
inside p xs r up is = at_found p xs r (searched xs p r is (non_decreasing xs up))
  where
    at_found : (p : ℕ) (xs : List ℕ) (r : Result ℕ ℕ) → MatchResult r (λ i. (i < length xs) × (get_or xs i 0 ≡ p)) (λ i. (i ≤ length xs) × ((k : ℕ) → k < i → get_or xs k 0 < p) × ((k : ℕ) → i ≤ k → k < length xs → p < get_or xs k 0)) → IfOk r (λ i. i < length xs)
    at_found p xs (Ok i) h = h.0
    at_found p xs (Err i) h = tt

-- ---- the positions from a bound on

above_passes : (bound x : ℕ) → bound ≤ x → nat_le bound x ≡ true
above_passes bound x h = grind (arith, h)

below_fails : (bound x : ℕ) → x < bound → nat_le bound x ≡ false
below_fails bound x h = grind (arith, h)

-- A place in a list of positions: those before it are below the bound, and the others aren't.
pub record IsPlace (bound : ℕ) (xs : List ℕ) (i : ℕ) : Type 0 where
  pub within : i ≤ length xs
  pub below : (k : ℕ) → k < i → get_or xs k 0 < bound
  pub above : (k : ℕ) → i ≤ k → k < length xs → bound ≤ get_or xs k 0

pub drop-from_place : (bound : ℕ) (xs : List ℕ) (i : ℕ) → IsPlace bound xs i → drop i xs ≡ filter (λ x. nat_le bound x) xs
drop-from_place bound [] zero place = refl
drop-from_place bound [] (suc i) place = refl
drop-from_place bound (x ∷ xs) zero place =
    let passes = above_passes bound x (place.above 0 (omega arith) (omega arith)) in
    let others = drop-from_place bound xs zero (record { within = omega arith; below = λ k lt. absurd (omega arith); above = λ k le lt. place.above (suc k) (omega arith) (omega arith) }) in
    rw passes (ap (λ (l : List ℕ). x ∷ l) others)
drop-from_place bound (x ∷ xs) (suc i) place =
    let fails = below_fails bound x (place.below 0 (omega arith)) in
    let within = place.within in
    let others = drop-from_place bound xs i (record { within = omega (arith, within); below = λ k lt. place.below (suc k) (omega arith); above = λ k le lt. place.above (suc k) (omega arith) (omega arith) }) in
    rw fails others

pub IsPlace-found : (bound : ℕ) (xs : List ℕ) (i : ℕ) → IsStrictlyIncreasing xs → i < length xs → get_or xs i 0 ≡ bound → IsPlace bound xs i
IsPlace-found bound xs i up lt is = record {
  within = omega arith;
  below = λ k less. let below = AllPairs-from_increasing xs up k i 0 less lt in omega (arith, below, is);
  above = λ k le within. let above = non_decreasing xs up i k le within in omega (arith, above, is);
}

pub IsPlace-absent : (bound : ℕ) (xs : List ℕ) (i : ℕ) → i ≤ length xs → ((k : ℕ) → k < i → get_or xs k 0 < bound) → ((k : ℕ) → i ≤ k → k < length xs → bound < get_or xs k 0) → IsPlace bound xs i
IsPlace-absent bound xs i within below above = record { within = within; below = below; above = λ k le lt. let less = above k le lt in omega (arith, less) }
