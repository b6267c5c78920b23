-- The values of an aggregate's argument, joined from the first row on.
use Rattle.std.proofs.Common.{◌≡◌, ℕ, ◌+◌, ◌<◌, Bool, true, false, ◌&&◌, not, cond, filter, List, ◌∷◌, length, get_or, drop, map, refl, sym, ap, ◌∙◌, arith}
use Rattle.std.proofs.lemmas.List.{at_drop_more}
use Rattle.lake_values.specs.declared.values.Value.{Value}
use Rattle.lake_values.specs.declared.values.Value.TheVariants.{Null, Int, Text}
use Rattle.sql_model.specs.declared.bound.BoundExpr.{BoundExpr}
use Rattle.sql_model.specs.Evaluation.{eval, fits, is_null}
use Rattle.sql_model.specs.Groups.{joined_by, summary, values_on, argument_fits}
use Rattle.sql_model.proofs.Summaries.{Swaps, lesser_swaps, greater_swaps}
use Rattle.row_evaluation.specs.declared.aggregates.Extreme.{Extreme}
use Rattle.row_evaluation.specs.declared.aggregates.Extreme.TheVariants.{Least, Greatest}
use Rattle.row_evaluation.specs.Aggregates.{counted, kept_by}

module _ (op : Value → Value → Value) (swaps : Swaps (joined_by op)) where
  joined_null : (v : Value) → joined_by op v Null ≡ v
  joined_null Null = refl
  joined_null (Int n) = refl
  joined_null (Text t) = refl

  joined_comm : (v w : Value) → joined_by op v w ≡ joined_by op w v
  joined_comm v w = ap (joined_by op v) (sym (joined_null w)) ∙ swaps v w Null ∙ ap (joined_by op w) (joined_null v)

  pub joined_assoc : (u v w : Value) → joined_by op (joined_by op u v) w ≡ joined_by op u (joined_by op v w)
  joined_assoc u v w = joined_comm (joined_by op u v) w ∙ swaps w u v ∙ ap (joined_by op u) (joined_comm w v)

pub kept_swaps : (extreme : Extreme) → Swaps (joined_by (kept_by extreme))
kept_swaps Least = lesser_swaps
kept_swaps Greatest = greater_swaps

counted_first : (v : Value) (vs : List Value) → counted (v ∷ vs) ≡ cond (is_null v) 0 1 + counted vs
counted_first v vs =
    let present : List Value = filter (λ v. not (is_null v)) vs in
    elim (is_null v) as (λ b. length (cond (not b) (v ∷ present) present) ≡ cond b 0 1 + length present) [ true ↦ omega arith | false ↦ omega arith ]

-- at a loop over the rows that has come to one of them
module _ {X : Type 0} (cells : X → List Value) (e : BoundExpr) (rows : List X) (i : ℕ) (row : X) (within : i < length rows) (is : row ≡ get_or rows i row) where
  -- where the argument fits on the row, the other rows decide
  pub fits_past : fits e (cells row) ≡ true → argument_fits (map cells (drop (i + 1) rows)) e ≡ argument_fits (map cells (drop i rows)) e
  fits_past fit =
      let behind : Bool = argument_fits (map cells (drop (i + 1) rows)) e in
      let here : argument_fits (map cells (drop i rows)) e ≡ fits e (cells (get_or rows i row)) && behind = at_drop_more (λ rs. argument_fits (map cells rs) e) rows i row within in
      sym (here ∙ ap (λ r. fits e (cells r) && behind) (sym is) ∙ ap (λ b. b && behind) fit)

  -- one more is counted where the value isn't NULL
  pub counted_past : (value : Value) (skips : Bool) → value ≡ eval e (cells row) → skips ≡ is_null value → cond skips 0 1 + counted (values_on e (map cells (drop (i + 1) rows))) ≡ counted (values_on e (map cells (drop i rows)))
  counted_past value skips seen skip =
      let behind : List Value = values_on e (map cells (drop (i + 1) rows)) in
      let here : counted (values_on e (map cells (drop i rows))) ≡ counted (eval e (cells (get_or rows i row)) ∷ behind) = at_drop_more (λ rs. counted (values_on e (map cells rs))) rows i row within in
      ap (λ b. cond b 0 1 + counted behind) skip
      ∙ sym (here ∙ ap (λ v. counted (v ∷ behind)) (sym (seen ∙ ap (λ r. eval e (cells r)) is)) ∙ counted_first value behind)

  -- a value that was joined no longer stands in the rest
  pub joined_past : (op : Value → Value → Value) → Swaps (joined_by op) → (total value joined : Value) → value ≡ eval e (cells row) → joined ≡ joined_by op total value
      → joined_by op joined (summary op (values_on e (map cells (drop (i + 1) rows)))) ≡ joined_by op total (summary op (values_on e (map cells (drop i rows))))
  joined_past op swaps total value joined seen join =
      let behind : Value = summary op (values_on e (map cells (drop (i + 1) rows))) in
      let here : summary op (values_on e (map cells (drop i rows))) ≡ joined_by op (eval e (cells (get_or rows i row))) behind = at_drop_more (λ rs. summary op (values_on e (map cells rs))) rows i row within in
      ap (λ v. joined_by op v behind) join ∙ joined_assoc op swaps total value behind
      ∙ ap (λ v. joined_by op total (joined_by op v behind)) (seen ∙ ap (λ r. eval e (cells r)) is)
      ∙ ap (joined_by op total) (sym here)
