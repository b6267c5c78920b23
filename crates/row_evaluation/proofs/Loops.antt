-- A test of all members, at a loop that has come to one of them.
use Rattle.std.proofs.Common.{◌≡◌, ℕ, ◌+◌, ◌<◌, Bool, true, false, List, length, get_or, drop, refl, sym, ap, ◌∙◌}
use Rattle.std.specs.Prelude.{◌&&◌}
use Rattle.std.specs.List.{list_all}
use Rattle.std.proofs.lemmas.List.{at_drop_more}

module _ {X : Type 0} (p : X → Bool) (xs : List X) (i : ℕ) (x : X) (within : i < length xs) (is : x ≡ get_or xs i x) where
  here_and_behind : list_all p (drop i xs) ≡ p x && list_all p (drop (i + 1) xs)
  here_and_behind = at_drop_more (list_all p) xs i x within ∙ ap (λ (y : X). p y && list_all p (drop (i + 1) xs)) (sym is)

  -- where the member passes, the others decide
  pub all_past : p x ≡ true → list_all p (drop (i + 1) xs) ≡ list_all p (drop i xs)
  all_past passes = sym (here_and_behind ∙ ap (λ (b : Bool). b && list_all p (drop (i + 1) xs)) passes)

  first_true : (a b : Bool) → a && b ≡ true → a ≡ true
  first_true true b both = refl
  first_true false b both = both

  -- where all pass, the member does
  pub all_here : list_all p (drop i xs) ≡ true → p x ≡ true
  all_here all = first_true (p x) (list_all p (drop (i + 1) xs)) (sym here_and_behind ∙ all)
