-- Columns of a CREATE that isn't ambiguous have distinct names.
use Rattle.std.proofs.Common.{◌≡◌, ◌≢◌, ℕ, Bool, true, false, ◌||◌, List, [], ◌∷◌, map, Option, None, refl, sym, ◌∙◌, ap}
use Rattle.std.specs.List.{AllByRecursion, list_any}
use Rattle.std.specs.Option.{option_or}
use Rattle.std.specs.Cmp.Lexicographic.{nat_list_eq_equiv}
use Rattle.std.proofs.lemmas.List.Elements.{All-from_recursion}
use Rattle.std.proofs.lemmas.Bool.{false≢true}
use Rattle.lake_values.specs.Schemas.{AllDistinct}
use Rattle.lake_values.specs.declared.schemas.Column.{Column}
use Rattle.sql_model.specs.declared.replies.Refusal.{Refusal}
use Rattle.lake_values.specs.Texts.{same_text}
use Rattle.sql_model.specs.Mentions.{first, ambiguous_name, in_columns, refused_if}

differ : (x y : List ℕ) → same_text x y ≡ false → y ≢ x
differ x y h e = false≢true (sym h ∙ ap (same_text x) e ∙ nat_list_eq_equiv.refl x)

or_false : (a b : Bool) → (a || b) ≡ false → (a ≡ false) × (b ≡ false)
or_false false b h = (refl, h)
or_false true b h = cc

none_same : (x : List ℕ) (ys : List (List ℕ)) → list_any (same_text x) ys ≡ false → AllByRecursion (λ y. y ≢ x) ys
none_same x [] h = tt
none_same x (y ∷ ys) h =
    let p = or_false (same_text x y) (list_any (same_text x) ys) h in
    (differ x y p.0, none_same x ys p.1)

not_refused : (b : Bool) (r : Refusal) (o : Option Refusal) → option_or (refused_if b r) o ≡ None → (b ≡ false) × (o ≡ None)
not_refused false r o h = (refl, h)
not_refused true r o h = cc

pub distinct_columns : (cs : List Column) → first ambiguous_name (in_columns cs) ≡ None → AllDistinct (map (λ c. c.name) cs)
distinct_columns [] h = tt
distinct_columns (c ∷ cs) h =
    let p = not_refused (list_any (same_text c.name) (map (λ d. d.name) cs)) _ (first ambiguous_name (in_columns cs)) h in
    (All-from_recursion _ _ (none_same c.name (map (λ d. d.name) cs) p.0), distinct_columns cs p.1)
