-- The printed values of a row, the first of them apart.
use Rattle.std.proofs.Common.{◌≡◌, ℕ, List, [], ◌∷◌, ◌++◌, map, ap, sym}
use Rattle.std.proofs.lemmas.List.{append-nil}
use Rattle.std.specs.List.{flat_map, join_with_byte}
use Rattle.lake_values.specs.declared.values.Value.{Value}
use Rattle.lake_values.specs.Print.{value_text, later_value_text}

pub join_first : (x : Value) (xs : List Value) → join_with_byte 44 (map value_text (x ∷ xs)) ≡ value_text x ++ flat_map later_value_text xs
join_first x [] = sym (append-nil (value_text x))
join_first x (y ∷ xs) = ap (λ (text : List ℕ). value_text x ++ (44 ∷ text)) (join_first y xs)
