-- Lists: prefixes, places and sums.
use Rattle.std.specs.Prelude.{◌≡◌, ℕ, ◌+◌, ◌≤◌, List, [], ◌∷◌, ◌++◌, length, drop, nat_le}
use Rattle.std.specs.Prelude.{if◌then◌else◌}
use mathlib.Core.Option.{some}
use lib.ListN.{get_elem?}

module _ {A : Type 0} where
  abbrev pub IsPrefix : List A → List A → Type 0
  IsPrefix xs ys = (rest : List A) × (ys ≡ xs ++ rest)

  -- each element with its place, from n on
  abbrev pub numbered : ℕ → List A → List (ℕ × A)
  numbered n [] = []
  numbered n (x ∷ xs) = (n, x) ∷ numbered (n + 1) xs

  -- f of each, added up
  abbrev pub total : (A → ℕ) → List A → ℕ
  total f [] = 0
  total f (x ∷ xs) = f x + total f xs

  abbrev pub Has : A → List A → Type 0
  Has x xs = (i : ℕ) × (get_elem? xs i ≡ some x)

  abbrev pub longer : List A → List A → List A
  longer a b = if nat_le (length a) (length b) then b else a

  abbrev pub shorter : List A → List A → List A
  shorter a b = if nat_le (length a) (length b) then a else b

  -- what stands behind the old list, each element with its place
  abbrev pub added : List A → List A → List (ℕ × A)
  added old new = numbered (length old) (drop (length old) new)

module _ {A : Type 0} where
  -- each pair's element stands at the pair's place, which is n or a later one
  abbrev pub StandFrom : ℕ → List (ℕ × A) → List A → Type 0
  StandFrom n pairs xs = (p : ℕ) (x : A) → Has (p, x) pairs
      → (n ≤ p) × (get_elem? xs p ≡ some x)

  -- what stands at n and later places is among the pairs, with its place
  abbrev pub AreAllFrom : ℕ → List (ℕ × A) → List A → Type 0
  AreAllFrom n pairs xs = (p : ℕ) (x : A) → n ≤ p → get_elem? xs p ≡ some x → Has (p, x) pairs
