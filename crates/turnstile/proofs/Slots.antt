-- The one slot that a pass holds.
use Rattle.std.proofs.Common.{◌≡◌, ℕ, List, [], ◌∷◌, sym, ap, ◌∙◌}
use Rattle.std.specs.Prelude.{Option, Some, None}
use Rattle.atomic_table.specs.Table.{rest}

pub slot_set : {A B : Type 0} (m m' : A × List (ℕ × B)) (k : ℕ) (x y : B)
    → m' ≡ (m.0, (k, y) ∷ rest m.1) → m.1 ≡ (k, x) ∷ [] → m' ≡ (m.0, (k, y) ∷ [])
slot_set {A} {B} m m' k x y e h = e ∙ ap (λ l. let q : A × List (ℕ × B) = (m.0, (k, y) ∷ rest l) in
    q) h

pub slot_first : {A : Type 0} (l m : List (ℕ × A)) (k : ℕ) (x : A) → l ≡ (k, x) ∷ m → (y : A)
    × (l ≡ (k, y) ∷ rest l)
slot_first l m k x e = (x, e ∙ ap (λ t. (k, x) ∷ t) (ap rest (sym e)))

module _ {T : Type 0} where
  abbrev pub value_in : T → List (ℕ × Option T) → T
  value_in d [] = d
  value_in d ((k, Some x) ∷ l) = x
  value_in d ((k, None) ∷ l) = d

  pub slot_value : (x y : T) (a : List (ℕ × Option T)) → a ≡ (0, Some x) ∷ [] → a ≡ (0, Some y) ∷ []
      → x ≡ y
  slot_value x y a e e' = ap (value_in x) (sym e ∙ e')

  abbrev pub first_slot : Option T → List (ℕ × Option T) → Option T
  first_slot d [] = d
  first_slot d (x ∷ l) = x.1

  abbrev pub first_value : T → Option T → T
  first_value d None = d
  first_value d (Some x) = x
