-- An expression is a group column where it has a place among the keys.
use Rattle.std.proofs.Common.{◌≡◌, ℕ, ◌+◌, Bool, true, false, ◌||◌, List, [], ◌∷◌, Option, None, Some, cond, nat_eq, is_some, refl}
use Rattle.std.specs.List.{list_any, position_from}
use Rattle.std.specs.Option.{option_map_or, option_and_then}
use Rattle.sql_model.specs.declared.expressions.Expr.{Expr}
use Rattle.sql_model.specs.declared.expressions.Ref.{Ref}
use Rattle.sql_model.specs.declared.scopes.Heading.{Heading}
use Rattle.sql_model.specs.Binding.{is_key_column}
use Rattle.sql_model.specs.Mentions.{referred}
use Rattle.sql_model.specs.Scopes.{column_of}
use Rattle.sql_binder.specs.Keys.{place_of_key}

found : (p : ℕ → Bool) (k : ℕ) (xs : List ℕ) → is_some (position_from p k xs) ≡ list_any p xs
found p k [] = refl
found p k (x ∷ xs) =
    elim (p x) as (λ b. is_some (cond b (Some k) (position_from p (k + 1) xs)) ≡ (b || list_any p xs)) [
      | true ↦ refl
      | false ↦ found p (k + 1) xs
    ]

key_of : (scope : List Heading) (keys : List ℕ) (o : Option Ref) → is_some (option_and_then (λ r. position_from (nat_eq (column_of scope r)) 0 keys) o) ≡ option_map_or (λ r. list_any (nat_eq (column_of scope r)) keys) o false
key_of scope keys None = refl
key_of scope keys (Some r) = found (nat_eq (column_of scope r)) 0 keys

pub key_found : (scope : List Heading) (keys : List ℕ) (e : Expr) → is_some (place_of_key scope keys e) ≡ is_key_column scope keys e
key_found scope keys e = key_of scope keys (referred e)
