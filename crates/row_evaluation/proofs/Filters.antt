-- Filtered lists.
use Rattle.std.proofs.Common.{◌≡◌, Bool, true, false, cond, List, [], ◌∷◌, map, filter, refl, ap, ◌∙◌}
use Rattle.std.specs.List.{AllByRecursion}

module _ {X : Type 0} where
  pub filter_keep : (p : X → Bool) (x : X) (xs : List X) → p x ≡ true → filter p (x ∷ xs) ≡ x ∷ filter p xs
  filter_keep p x xs e = ap (λ b. cond b (x ∷ filter p xs) (filter p xs)) e

  pub filter_skip : (p : X → Bool) (x : X) (xs : List X) → p x ≡ false → filter p (x ∷ xs) ≡ filter p xs
  filter_skip p x xs e = ap (λ b. cond b (x ∷ filter p xs) (filter p xs)) e

  pub filter_all : (p : X → Bool) (xs : List X) → AllByRecursion (λ x. p x ≡ true) xs → filter p xs ≡ xs
  filter_all p [] all = refl
  filter_all p (x ∷ xs) all = filter_keep p x xs all.0 ∙ ap (λ ys. x ∷ ys) (filter_all p xs all.1)

  pub filter_none : (p : X → Bool) (xs : List X) → AllByRecursion (λ x. p x ≡ false) xs → filter p xs ≡ []
  filter_none p [] all = refl
  filter_none p (x ∷ xs) all = filter_skip p x xs all.0 ∙ filter_none p xs all.1

  -- two filters, in either order
  pub filters_commute : (p q : X → Bool) (xs : List X) → filter p (filter q xs) ≡ filter q (filter p xs)
  filters_commute p q [] = refl
  filters_commute p q (x ∷ xs) =
      elim (p x) as (λ a. p x ≡ a → filter p (filter q (x ∷ xs)) ≡ filter q (cond a (x ∷ filter p xs) (filter p xs))) [
        | true ↦ λ e.
            elim (q x) as (λ b. filter p (cond b (x ∷ filter q xs) (filter q xs)) ≡ cond b (x ∷ filter q (filter p xs)) (filter q (filter p xs))) [
              | true ↦ filter_keep p x (filter q xs) e ∙ ap (λ ys. x ∷ ys) (filters_commute p q xs)
              | false ↦ filters_commute p q xs
            ]
        | false ↦ λ e.
            elim (q x) as (λ b. filter p (cond b (x ∷ filter q xs) (filter q xs)) ≡ filter q (filter p xs)) [
              | true ↦ filter_skip p x (filter q xs) e ∙ filters_commute p q xs
              | false ↦ filters_commute p q xs
            ]
      ] refl

  -- what q passes p passes too, so p first takes nothing from it
  pub filter_within : (p q : X → Bool) → ((x : X) → q x ≡ true → p x ≡ true) → (xs : List X) → filter q (filter p xs) ≡ filter q xs
  filter_within p q within [] = refl
  filter_within p q within (x ∷ xs) =
      elim (q x) as (λ b. q x ≡ b → filter q (filter p (x ∷ xs)) ≡ cond b (x ∷ filter q xs) (filter q xs)) [
        | true ↦ λ e. ap (filter q) (filter_keep p x xs (within x e)) ∙ filter_keep q x (filter p xs) e ∙ ap (λ ys. x ∷ ys) (filter_within p q within xs)
        | false ↦ λ e.
            elim (p x) as (λ a. filter q (cond a (x ∷ filter p xs) (filter p xs)) ≡ filter q xs) [
              | true ↦ filter_skip q x (filter p xs) e ∙ filter_within p q within xs
              | false ↦ filter_within p q within xs
            ]
      ] refl

  -- functions that agree where p passes
  pub map_where : {Y : Type 0} (p : X → Bool) (f g : X → Y) → ((x : X) → p x ≡ true → f x ≡ g x) → (xs : List X) → map f (filter p xs) ≡ map g (filter p xs)
  map_where p f g agree [] = refl
  map_where p f g agree (x ∷ xs) =
      elim (p x) as (λ b. p x ≡ b → map f (cond b (x ∷ filter p xs) (filter p xs)) ≡ map g (cond b (x ∷ filter p xs) (filter p xs))) [
        | true ↦ λ e. λ i. agree x e i ∷ map_where p f g agree xs i
        | false ↦ λ e. map_where p f g agree xs
      ] refl

  pub filter_of_map : {Y : Type 0} (p : Y → Bool) (f : X → Y) (xs : List X) → filter p (map f xs) ≡ map f (filter (λ x. p (f x)) xs)
  filter_of_map p f [] = refl
  filter_of_map p f (x ∷ xs) =
      elim (p (f x)) as (λ b. cond b (f x ∷ filter p (map f xs)) (filter p (map f xs)) ≡ map f (cond b (x ∷ filter (λ x. p (f x)) xs) (filter (λ x. p (f x)) xs))) [
        | true ↦ ap (λ ys. f x ∷ ys) (filter_of_map p f xs)
        | false ↦ filter_of_map p f xs
      ]
