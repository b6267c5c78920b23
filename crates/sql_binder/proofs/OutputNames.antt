-- The names of the outputs of `*` are those of the columns.
use Rattle.std.proofs.Common.{◌≡◌, ℕ, ◌+◌, Bool, true, List, [], ◌∷◌, ◌||◌, map, Some, cond, refl, sym, ap, ◌∙◌}
use Rattle.std.specs.List.{list_any}
use Rattle.std.specs.Prelude.{None}
use Rattle.sql_model.specs.declared.scopes.Heading.{Heading}
use Rattle.sql_model.specs.declared.statements.Select.{Select}
use Rattle.sql_model.specs.Mentions.{output_name, output_names}
use Rattle.sql_model.specs.Scopes.{found_at, found_from, has_name, fits, named, output_named}
use Rattle.lake_values.specs.Texts.{same_text}

any_called : (name : List ℕ) (scope : List Heading) → list_any (fits None name) scope ≡ list_any (has_name name) (map (λ h. Some h.name) scope)
any_called name [] = refl
any_called name (h ∷ hs) = ap (λ (b : Bool). same_text name h.name || b) (any_called name hs)

column_called : (k : ℕ) (name : List ℕ) (scope : List Heading) → found_from k (fits None name) scope ≡ found_from k (has_name name) (map (λ h. Some h.name) scope)
column_called k name [] = refl
column_called k name (h ∷ hs) = λ i. cond (same_text name h.name) (found_at k (any_called name hs i)) (column_called (k + 1) name hs i)

pub star_named : (scope : List Heading) (q : Select) (name : List ℕ) → q.star ≡ true → named scope None name ≡ output_named (output_names scope q) name
star_named scope q name e =
    column_called 0 name scope ∙ ap (λ (b : Bool). found_from 0 (has_name name) (cond b (map (λ h. Some h.name) scope) (map output_name q.items))) (sym e)
