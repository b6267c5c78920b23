-- Aggregates over a group of the columns from a place on.
use Rattle.std.proofs.Common.{◌≡◌, ℕ, ℤ, ◌+ℤ◌, ◌+◌, ◌<◌, zero, suc, append_assoc, get_or, ◌++◌, Bool, true, false, ◌&&◌, List, [], ◌∷◌, length, map, drop, refl, sym, ap, ◌∙◌, arith}
use Rattle.std.specs.List.{range_with_len}
use Rattle.std.proofs.lemmas.List.{at_drop_more, get_or-drop, drop-drop}
use Rattle.std.proofs.lemmas.Option.{unwrap_or-slice_get}
use Rattle.lake_values.specs.Order.{number_of}
use Rattle.lake_values.specs.declared.values.Value.{Value}
use Rattle.lake_values.specs.declared.values.Value.TheVariants.{Null}
use Rattle.sql_model.specs.declared.bound.BoundAgg.{BoundAgg}
use Rattle.sql_model.specs.declared.bound.BoundExpr.{fold-roll-BoundExpr}
use Rattle.sql_model.specs.declared.bound.BoundExpr.TheVariants as expression
use Rattle.sql_model.specs.Evaluation.{Look, look, look_step, of_value, eval}
use Rattle.lake_values.specs.Rows.{value_at}
use Rattle.sql_model.specs.Groups.{argument_fits, values_on, summary, sum_of_both}
use Rattle.op_aggregate.specs.Fits.{final_fits, group_fits}
use Rattle.op_aggregate.specs.Partials.{column, columns_kept, kept_width, total, final, finals}
use Rattle.op_aggregate.proofs.Distinct.{Row}
use Rattle.op_aggregate.proofs.Kept.{Rows, map_of_map, map_agrees, number-joined}

look_column : (r : Row) (place : ℕ) → look r (expression.Column place) ≡ of_value (value_at r place) true
look_column r place = ap (look r) (sym (expression.rolls-Column place)) ∙ fold-roll-BoundExpr Look (look_step r) _

pub column_fits : (place : ℕ) (rows : Rows) → argument_fits rows (expression.Column place) ≡ true
column_fits place [] = refl
column_fits place (r ∷ rows) = ap (λ (l : Look). l.fits && argument_fits rows (expression.Column place)) (look_column r place) ∙ column_fits place rows

column_values : (place : ℕ) (rows : Rows) → values_on (expression.Column place) rows ≡ column place rows
column_values place rows = map_agrees (λ r. eval (expression.Column place) r) (λ r. value_at r place) (λ r. ap (λ (l : Look). l.value) (look_column r place)) rows

pub total_is : (vs : List Value) → number_of (summary sum_of_both vs) ≡ total vs
total_is [] = refl
total_is (v ∷ vs) = number-joined v (summary sum_of_both vs) ∙ ap (λ (n : ℤ). number_of v +ℤ n) (total_is vs)

value_behind : (r : Row) (place k : ℕ) → value_at (drop place r) k ≡ value_at r (place + k)
value_behind r place k = unwrap_or-slice_get (drop place r) k Null ∙ get_or-drop place r k Null ∙ sym (unwrap_or-slice_get r (place + k) Null)

pub column_behind : (place k : ℕ) (rows : Rows) → column k (map (drop place) rows) ≡ column (place + k) rows
column_behind place k rows = map_of_map (λ r. value_at r k) (drop place) rows ∙ map_agrees (λ r. value_at (drop place r) k) (λ r. value_at r (place + k)) (λ r. value_behind r place k) rows

pub first_column : (place : ℕ) (rows : Rows) → column 0 (map (drop place) rows) ≡ column place rows
first_column place rows = column_behind place 0 rows ∙ ap (λ (n : ℕ). column n rows) (omega arith)

pub columns_behind : (place k : ℕ) (rows : Rows) → map (drop k) (map (drop place) rows) ≡ map (drop (place + k)) rows
columns_behind place k rows = map_of_map (drop k) (drop place) rows ∙ map_agrees (λ r. drop k (drop place r)) (drop (place + k)) (λ r. drop-drop k place r) rows

-- a summary of a column, as it was read from a place on
pub summary_behind : (op : Value → Value → Value) (place k column_at : ℕ) (rows : Rows) → column_at ≡ place + k → summary op (values_on (expression.Column column_at) rows) ≡ summary op (column k (map (drop place) rows))
summary_behind op place k column_at rows at = ap (summary op) (column_values column_at rows ∙ ap (λ (n : ℕ). column n rows) at ∙ sym (column_behind place k rows))

-- ---- at a loop over the aggregates that has come to one of them

module _ (aggs : List BoundAgg) (i : ℕ) (agg : BoundAgg) (within : i < length aggs) (is : agg ≡ get_or aggs i agg) where
  pub width_here : kept_width (drop i aggs) ≡ columns_kept agg + kept_width (drop (i + 1) aggs)
  width_here = at_drop_more kept_width aggs i agg within ∙ ap (λ (a : BoundAgg). columns_kept a + kept_width (drop (i + 1) aggs)) (sym is)

  -- and goes on as many columns further as are kept of it
  module _ (place : ℕ) (rows : Rows) (step : ℕ) (step-is : step ≡ columns_kept agg) where
    next_columns : map (drop (columns_kept agg)) (map (drop place) rows) ≡ map (drop (place + step)) rows
    next_columns = columns_behind place (columns_kept agg) rows ∙ ap (λ (n : ℕ). map (drop (place + n)) rows) (sym step-is)

    abbrev left : Rows
    left = map (drop place) rows

    finals_here : finals (drop i aggs) left ≡ final agg left ∷ finals (drop (i + 1) aggs) (map (drop (place + step)) rows)
    finals_here =
        at_drop_more (λ (list : List BoundAgg). finals list left) aggs i agg within
        ∙ ap (λ (a : BoundAgg). final a left ∷ finals (drop (i + 1) aggs) (map (drop (columns_kept a)) left)) (sym is)
        ∙ ap (λ (rs : Rows). final agg left ∷ finals (drop (i + 1) aggs) rs) next_columns

    pub final_made : (whole values more : Row) (v : Value) → v ≡ final agg left → more ≡ values ++ v ∷ [] → values ++ finals (drop i aggs) left ≡ whole → more ++ finals (drop (i + 1) aggs) (map (drop (place + step)) rows) ≡ whole
    final_made whole values more v v-is more-is before =
        let behind : Row = finals (drop (i + 1) aggs) (map (drop (place + step)) rows) in
        ap (λ (vs : Row). vs ++ behind) more-is
        ∙ append_assoc values (v ∷ []) behind
        ∙ ap (λ (w : Value). values ++ w ∷ behind) v-is
        ∙ ap (λ (vs : Row). values ++ vs) (sym finals_here)
        ∙ before

    fits_here : group_fits (drop i aggs) left ≡ final_fits agg left && group_fits (drop (i + 1) aggs) (map (drop (place + step)) rows)
    fits_here =
        at_drop_more (λ (list : List BoundAgg). group_fits list left) aggs i agg within
        ∙ ap (λ (a : BoundAgg). final_fits a left && group_fits (drop (i + 1) aggs) (map (drop (columns_kept a)) left)) (sym is)
        ∙ ap (λ (rs : Rows). final_fits agg left && group_fits (drop (i + 1) aggs) rs) next_columns

    pub final_past : (whole : Bool) → group_fits (drop i aggs) left ≡ whole → final_fits agg left ≡ true → group_fits (drop (i + 1) aggs) (map (drop (place + step)) rows) ≡ whole
    final_past whole before fit = sym (fits_here ∙ ap (λ (b : Bool). b && group_fits (drop (i + 1) aggs) (map (drop (place + step)) rows)) fit) ∙ before

    pub final_fails : (whole : Bool) → group_fits (drop i aggs) left ≡ whole → final_fits agg left ≡ false → whole ≡ false
    final_fails whole before unfit = sym before ∙ fits_here ∙ ap (λ (b : Bool). b && group_fits (drop (i + 1) aggs) (map (drop (place + step)) rows)) unfit

-- ---- columns one behind the other

range_more : (a n : ℕ) → range_with_len a (suc n) ≡ range_with_len a n ++ (a + n) ∷ []
range_more a zero = ap (λ (k : ℕ). k ∷ []) (omega arith)
range_more a (suc n) = ap (λ (l : List ℕ). a ∷ l) (range_more (a + 1) n ∙ ap (λ (k : ℕ). range_with_len (a + 1) n ++ k ∷ []) (omega arith))

pub range_next : (n : ℕ) → range_with_len 0 (n + 1) ≡ range_with_len 0 n ++ n ∷ []
range_next n =
    let next : n + 1 ≡ suc n = omega arith in
    let here : 0 + n ≡ n = omega arith in
    ap (range_with_len 0) next ∙ range_more 0 n ∙ ap (λ (k : ℕ). range_with_len 0 n ++ k ∷ []) here
