-- Room for the rows that two parts of a commit add to one table.
use Rattle.std.proofs.Common.{◌≡◌, ◌+◌, ◌∙◌, ℕ, List, [], ◌∷◌, length, nat_le, ap, refl, subst, true, false, arith, if◌then◌else◌}
use Rattle.sql_model.specs.declared.changes.Added.{Added}
use Rattle.lake_values.specs.Texts.{same_text}
use Rattle.table_history.specs.Histories.{has_spare_rows, rows_for}
use Rattle.lake_values.proofs.SameTexts.{same_text_is}

no_rows : (spares : List (List ℕ × ℕ)) (name : List ℕ) → has_spare_rows spares name 0 ≡ true
no_rows [] name = refl
no_rows (s ∷ ss) name = elim (same_text s.0 name) as (λ b. (if b then nat_le 0 s.1 else has_spare_rows ss name 0) ≡ true) [
  | true ↦ none s.1
  | false ↦ no_rows ss name
]
  where
    none : (n : ℕ) → nat_le 0 n ≡ true
    none n = grind arith

pub two_parts : (spares : List (List ℕ × ℕ)) (table : List ℕ) (a b : Added) → a.table ≡ table → b.table ≡ table → has_spare_rows spares table (length a.rows + length b.rows) ≡ true →
    (name : List ℕ) → has_spare_rows spares name (rows_for name (a ∷ b ∷ [])) ≡ true
two_parts spares table a b a_is b_is room name = rw (a_is, b_is) (
    elim (same_text table name) as (λ x. same_text table name ≡ x → has_spare_rows spares name (if x then length a.rows + (if x then length b.rows + 0 else 0) else (if x then length b.rows + 0 else 0)) ≡ true) [
      | true ↦ λ e. subst (λ (n : List ℕ). has_spare_rows spares n (length a.rows + (length b.rows + 0)) ≡ true) (same_text_is table name e) (ap (λ (n : ℕ). has_spare_rows spares table (length a.rows + n)) (plus_none (length b.rows)) ∙ room)
      | false ↦ λ e. no_rows spares name
    ] refl)
  where
    plus_none : (n : ℕ) → n + 0 ≡ n
    plus_none n = omega arith
