-- What the query of the worked example answers.
use Rattle.std.proofs.Common.{◌≡◌, ℕ, true, false, List, [], ◌∷◌, ◌&&◌, Ok, None, map, take, refl, sym, ap, ◌∙◌}
use Rattle.std.specs.Prelude.{codes}
use Rattle.std.specs.List.{list_all}
use Rattle.lake_values.specs.declared.values.Value.{Value}
use Rattle.sql_model.specs.declared.bound.Bound.TheVariants as bound
use Rattle.sql_model.specs.declared.bound.BoundExpr.{fold-roll-BoundExpr}
use Rattle.sql_model.specs.declared.bound.BoundExpr.TheVariants.{Column, rolls-Column}
use Rattle.sql_model.specs.declared.bound.Query.{Query}
use Rattle.sql_model.specs.declared.replies.Reply.TheVariants.{Rows}
use Rattle.sql_model.specs.declared.statements.Statement.TheVariants.{Select}
use Rattle.sql_model.specs.Binding.{IsBound}
use Rattle.sql_model.specs.BoundForms.{own_guards, guards_left, own_pairs, answered_by}
use Rattle.sql_model.specs.Mentions.{in_order}
use Rattle.sql_model.specs.Changes.{no_change}
use Rattle.sql_model.specs.Evaluation.{Look, look, look_step, of_value}
use Rattle.lake_values.specs.Rows.{value_at}
use Rattle.sql_model.specs.Listing.{ordered}
use Rattle.sql_model.specs.Query.{checked, order_cmp, plain}
use Rattle.lake_model.specs.State.{state, view}
use Rattle.sql_model.specs.Versions.{Tables, rows_of}
use Rattle.sql_model.specs.Writing.{effect_if_bound, queried, result_over, schemas_of}
use Rattle.lake_model.specs.Examples.{row}
use Rattle.lake_script.specs.Examples.{entries, query_of}

-- a column is the value in it
look_column : (r : List Value) (c : ℕ) → look r (Column c) ≡ of_value (value_at r c) true
look_column r c = ap (look r) (sym (rolls-Column c)) ∙ fold-roll-BoundExpr Look (look_step r) _

-- the version that the query sees
abbrev pub seen : Tables
seen = (view (state (take 5 entries)) 1).tables

abbrev bound_query : Query
bound_query = record {
  tables = codes "t" ∷ [];
  widths = 1 ∷ [];
  pairs = [];
  guards = [] ∷ [];
  computed = [];
  items = Column 0 ∷ [];
  keys = [];
  aggs = [];
  outputs = 0 ∷ [];
  order = [];
  limit = None;
}

is_bound : IsBound (Select (query_of (codes "t"))) (schemas_of seen) (bound.Select bound_query)
unfolding own_guards guards_left own_pairs answered_by in_order
is_bound = refl

looked : ◌≡◌ {A = List Value → Look} (λ r. look r (Column 0)) (λ r. of_value (value_at r 0) true)
looked = λ i r. look_column r 0 i

answers : plain bound_query (rows_of seen) ≡ Ok (row 1 ∷ row 1 ∷ row 2 ∷ [])
answers =
    let rows : List (List Value) = row 1 ∷ row 1 ∷ row 2 ∷ [] in
    ap (λ (f : List Value → Look). checked false (list_all (λ (r : List Value). (f r).fits && true) rows) (ordered (order_cmp []) (map (λ (r : List Value). value_at r 0 ∷ []) (map (λ (r : List Value). (f r).value ∷ []) rows)))) looked

pub query_result : result_over seen 1 (Select (query_of (codes "t"))) ≡ Ok (Rows (row 1 ∷ row 1 ∷ row 2 ∷ []), no_change)
query_result = ap (λ b. effect_if_bound b seen 1) is_bound ∙ ap queried answers
