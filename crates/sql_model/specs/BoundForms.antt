-- The bound form of a statement: names become places, and conditions stand where they are tested.
use Rattle.std.specs.Prelude.{ℕ, ◌+◌, ◌-◌, Bool, true, false, ◌&&◌, ◌||◌, not, List, [], ◌∷◌, ◌++◌, Option, None, Some, map, filter, length, nat_eq, nat_le, nat_lt, unwrap_or, if◌then◌else◌}
use Rattle.std.specs.List.{list_any, filter_map, position_from}
use Rattle.std.specs.Option.{option_map_or}
use Rattle.sql_model.specs.declared.bound.Bound.{Bound}
use Rattle.sql_model.specs.declared.bound.Bound.TheVariants.{Select, Insert, Update, Delete, Named}
use Rattle.sql_model.specs.declared.bound.BoundAgg.{BoundAgg}
use Rattle.sql_model.specs.declared.bound.BoundAgg.TheVariants as bound_agg
use Rattle.sql_model.specs.declared.bound.BoundExpr.{BoundExpr, fold-BoundExpr}
use Rattle.sql_model.specs.declared.bound.BoundExpr.TheOpen.{BoundExpr-F}
use Rattle.sql_model.specs.declared.bound.BoundExpr.TheVariants as b
use Rattle.sql_model.specs.declared.bound.Key.{Key}
use Rattle.sql_model.specs.declared.bound.Query.{Query}
use Rattle.sql_model.specs.declared.expressions.Agg.{Agg}
use Rattle.sql_model.specs.declared.expressions.Agg.TheVariants.{CountAll, Count, Sum, Min, Max}
use Rattle.sql_model.specs.declared.expressions.CmpOp.TheVariants.{Eq}
use Rattle.sql_model.specs.declared.expressions.Expr.{Expr, fold-Expr}
use Rattle.sql_model.specs.declared.expressions.Expr.TheOpen.{Expr-F}
use Rattle.sql_model.specs.declared.expressions.Item.{Item}
use Rattle.sql_model.specs.declared.expressions.Item.TheVariants as item
use Rattle.sql_model.specs.declared.expressions.Ref.{Ref}
use Rattle.sql_model.specs.declared.scopes.Heading.{Heading}
use Rattle.sql_model.specs.declared.statements.OrderBy.{OrderBy}
use Rattle.sql_model.specs.declared.statements.OrderBy.TheVariants.{Name, Number}
use Rattle.sql_model.specs.declared.statements.OrderKey.{OrderKey}
use Rattle.sql_model.specs.declared.statements.Select.{Select as Written}
use Rattle.sql_model.specs.declared.statements.Set.{Set}
use Rattle.sql_model.specs.declared.statements.SourceRef.{SourceRef}
use Rattle.sql_model.specs.declared.statements.Statement.{Statement}
use Rattle.sql_model.specs.declared.statements.Statement.TheVariants as statement
use Rattle.lake_values.specs.Texts.{same_text}
use Rattle.sql_model.specs.Scopes.{TableSchemas, schema_named, source_headings, scope_of, table_scope, output_named, place_of, column_of}
use Rattle.sql_model.specs.Mentions.{referred, output_names}

-- An expression with its references as places, and the conjuncts of a condition: the AND tree at its root is
-- taken apart on both sides.
pub record Placed : Type 0 where
  pub whole : BoundExpr
  pub conjuncts : List BoundExpr

abbrev pub alone : BoundExpr → Placed
alone e = record { whole = e; conjuncts = e ∷ [] }

-- one level of an expression, over its operands
abbrev pub place_step : List Heading → Expr-F Placed → Placed
place_step scope (Expr-F.Column r) = alone (b.Column (column_of scope r))
place_step scope (Expr-F.Literal v) = alone (b.Literal v)
place_step scope (Expr-F.Arith op x y) = alone (b.Arith op x.whole y.whole)
place_step scope (Expr-F.Compare op x y) = alone (b.Compare op x.whole y.whole)
place_step scope (Expr-F.IsNull x) = alone (b.IsNull x.whole)
place_step scope (Expr-F.Not x) = alone (b.Not x.whole)
place_step scope (Expr-F.And x y) = record { whole = b.And x.whole y.whole; conjuncts = x.conjuncts ++ y.conjuncts }
place_step scope (Expr-F.Or x y) = alone (b.Or x.whole y.whole)

abbrev pub placed : List Heading → Expr → Placed
placed scope = fold-Expr Placed (place_step scope)

abbrev pub bound_expr : List Heading → Expr → BoundExpr
bound_expr scope e = (placed scope e).whole

-- the conjuncts of a WHERE
abbrev pub conjuncts : List Heading → Option Expr → List BoundExpr
conjuncts scope None = []
conjuncts scope (Some e) = (placed scope e).conjuncts

-- one level of an expression, over whether its operands have + - *
abbrev pub arithmetic_step : BoundExpr-F Bool → Bool
arithmetic_step (BoundExpr-F.Column c) = false
arithmetic_step (BoundExpr-F.Literal v) = false
arithmetic_step (BoundExpr-F.Arith op x y) = true
arithmetic_step (BoundExpr-F.Compare op x y) = x || y
arithmetic_step (BoundExpr-F.IsNull x) = x
arithmetic_step (BoundExpr-F.Not x) = x
arithmetic_step (BoundExpr-F.And x y) = x || y
arithmetic_step (BoundExpr-F.Or x y) = x || y

-- + - * stands in the expression
abbrev pub has_arithmetic : BoundExpr → Bool
has_arithmetic = fold-BoundExpr Bool arithmetic_step

-- one level of an expression, over whether its operands have their columns
abbrev pub within_step : ℕ → BoundExpr-F Bool → Bool
within_step width (BoundExpr-F.Column c) = nat_lt c width
within_step width (BoundExpr-F.Literal v) = true
within_step width (BoundExpr-F.Arith op x y) = x && y
within_step width (BoundExpr-F.Compare op x y) = x && y
within_step width (BoundExpr-F.IsNull x) = x
within_step width (BoundExpr-F.Not x) = x
within_step width (BoundExpr-F.And x y) = x && y
within_step width (BoundExpr-F.Or x y) = x && y

-- a row of so many columns has all that the expression needs
abbrev pub is_within : ℕ → BoundExpr → Bool
is_within width = fold-BoundExpr Bool (within_step width)

abbrev pub is_beyond : ℕ → BoundExpr → Bool
is_beyond width e = not (is_within width e)

-- the conjuncts without + - *
abbrev pub guards_of : List Heading → Option Expr → List BoundExpr
guards_of scope condition = filter (λ c. not (has_arithmetic c)) (conjuncts scope condition)

-- the conjuncts with them
abbrev pub computed_of : List Heading → Option Expr → List BoundExpr
computed_of scope condition = filter has_arithmetic (conjuncts scope condition)

-- Equalities of an ON over the joined row, where the new table's columns begin at a place. One between the two
-- sides is a pair, with the new table's place in its own row. Whether each side of it stands before that place:
abbrev pub pair_by : Bool → Bool → ℕ → ℕ → ℕ → Option (ℕ × ℕ)
pair_by true false start x y = Some (x, y - start)
pair_by false true start x y = Some (y, x - start)
pair_by p q start x y = None

abbrev pub pair_of : List Heading → ℕ → Ref × Ref → Option (ℕ × ℕ)
pair_of scope start p =
    let x = column_of scope p.0 in
    let y = column_of scope p.1 in
    pair_by (nat_lt x start) (nat_lt y start) start x y

abbrev pub equality : ℕ → ℕ → BoundExpr
equality x y = b.Compare Eq (b.Column x) (b.Column y)

-- one within a side is a guard
abbrev pub guard_by : Bool → Bool → ℕ → ℕ → Option BoundExpr
guard_by true false x y = None
guard_by false true x y = None
guard_by p q x y = Some (equality x y)

abbrev pub guard_of : List Heading → ℕ → Ref × Ref → Option BoundExpr
guard_of scope start p =
    let x = column_of scope p.0 in
    let y = column_of scope p.1 in
    guard_by (nat_lt x start) (nat_lt y start) x y

-- the pairs of a JOIN; `before` are the columns of the tables before
unfoldable pub own_pairs : TableSchemas → List Heading → SourceRef → List (Ref × Ref) → List (ℕ × ℕ)
own_pairs schemas before source on = filter_map (pair_of (before ++ source_headings schemas source) (length before)) on

-- the pairs of each JOIN
abbrev pub join_pairs : TableSchemas → List Heading → List SourceRef → List (List (Ref × Ref)) → List (List (ℕ × ℕ))
join_pairs schemas before (source ∷ sources) (on ∷ ons) = own_pairs schemas before source on ∷ join_pairs schemas (before ++ source_headings schemas source) sources ons
join_pairs schemas before sources ons = []

abbrev pub pairs_of : TableSchemas → List SourceRef → List (List (Ref × Ref)) → List (List (ℕ × ℕ))
pairs_of schemas [] ons = []
pairs_of schemas (source ∷ sources) ons = join_pairs schemas (source_headings schemas source) sources ons

-- The guards of a stage: those of its ON, and those of the WHERE that no stage before has the columns for.
unfoldable pub own_guards : TableSchemas → List Heading → SourceRef → List (Ref × Ref) → List BoundExpr → List BoundExpr
own_guards schemas before source on guards =
    let joined = before ++ source_headings schemas source in
    filter_map (guard_of joined (length before)) on ++ filter (is_within (length joined)) guards

-- the guards of the WHERE that a stage leaves to those behind it
unfoldable pub guards_left : TableSchemas → List Heading → SourceRef → List BoundExpr → List BoundExpr
guards_left schemas before source guards = filter (is_beyond (length (before ++ source_headings schemas source))) guards

-- the guards of each JOIN's stage
abbrev pub join_guards : TableSchemas → List Heading → List SourceRef → List (List (Ref × Ref)) → List BoundExpr → List (List BoundExpr)
join_guards schemas before (source ∷ sources) (on ∷ ons) guards = own_guards schemas before source on guards ∷ join_guards schemas (before ++ source_headings schemas source) sources ons (guards_left schemas before source guards)
join_guards schemas before sources ons guards = []

-- the guards of each stage, those of the WHERE at the first that has all their columns
abbrev pub stage_guards : TableSchemas → List SourceRef → List (List (Ref × Ref)) → List BoundExpr → List (List BoundExpr)
stage_guards schemas [] ons guards = []
stage_guards schemas (source ∷ sources) ons guards = own_guards schemas [] source [] guards ∷ join_guards schemas (source_headings schemas source) sources ons (guards_left schemas [] source guards)

abbrev pub is_aggregate : Item → Bool
is_aggregate (item.Plain e name) = false
is_aggregate (item.Agg a name) = true

abbrev pub is_empty : {X : Type 0} → List X → Bool
is_empty [] = true
is_empty (x ∷ xs) = false

-- the query has GROUP BY or an aggregate
abbrev pub is_grouped : Written → Bool
is_grouped q = not (is_empty q.groups) || list_any is_aggregate q.items

abbrev pub bound_agg_of : List Heading → Agg → BoundAgg
bound_agg_of scope CountAll = bound_agg.CountAll
bound_agg_of scope (Count e) = bound_agg.Count (bound_expr scope e)
bound_agg_of scope (Sum e) = bound_agg.Sum (bound_expr scope e)
bound_agg_of scope (Min e) = bound_agg.Min (bound_expr scope e)
bound_agg_of scope (Max e) = bound_agg.Max (bound_expr scope e)

-- the aggregates among the items
abbrev pub aggs_of : List Heading → List Item → List BoundAgg
aggs_of scope [] = []
aggs_of scope (item.Plain e name ∷ items) = aggs_of scope items
aggs_of scope (item.Agg a name ∷ items) = bound_agg_of scope a ∷ aggs_of scope items

-- the projection: the items
abbrev pub items_of : List Heading → List Item → List BoundExpr
items_of scope [] = []
items_of scope (item.Plain e name ∷ items) = bound_expr scope e ∷ items_of scope items
items_of scope (item.Agg a name ∷ items) = items_of scope items

-- the columns from a place on, as many as are listed
abbrev pub columns_from : {X : Type 0} → ℕ → List X → List BoundExpr
columns_from place [] = []
columns_from place (x ∷ xs) = b.Column place ∷ columns_from (place + 1) xs

-- all columns
abbrev pub all_columns : List Heading → List BoundExpr
all_columns scope = columns_from 0 scope

-- the group columns
abbrev pub keys_of : List Heading → List Ref → List ℕ
keys_of scope groups = map (column_of scope) groups

-- the first place of a number among numbers
abbrev pub place_in : List ℕ → ℕ → ℕ
place_in numbers n = unwrap_or (position_from (nat_eq n) 0 numbers) 0

-- the place of a group column among the keys
abbrev pub key_place : List Heading → List ℕ → Expr → ℕ
key_place scope keys e = option_map_or (λ r. place_in keys (column_of scope r)) (referred e) 0

-- the place of each item in a group's row: a key's place, or that of the next aggregate
abbrev pub group_outputs : List Heading → List ℕ → ℕ → List Item → List ℕ
group_outputs scope keys next [] = []
group_outputs scope keys next (item.Plain e name ∷ items) = key_place scope keys e ∷ group_outputs scope keys next items
group_outputs scope keys next (item.Agg a name ∷ items) = next ∷ group_outputs scope keys (next + 1) items

-- the numbers from one on, as many as are listed
abbrev pub numbers_from : {X : Type 0} → ℕ → List X → List ℕ
numbers_from n [] = []
numbers_from n (x ∷ xs) = n ∷ numbers_from (n + 1) xs

-- the place of the output that a key of ORDER BY names
abbrev pub output_of : List (Option (List ℕ)) → OrderBy → ℕ
output_of outputs (Name name) = place_of (output_named outputs name)
output_of outputs (Number n) = if nat_le n (length outputs) then n - 1 else 0

abbrev pub order_key : List (Option (List ℕ)) → OrderKey → Key
order_key outputs k = record { column = output_of outputs k.by; descending = k.descending }

-- the projection, and for each answer column its place in what a row is projected or grouped to
pub record Answered : Type 0 where
  pub items : List BoundExpr
  pub keys : List ℕ
  pub aggs : List BoundAgg
  pub outputs : List ℕ

abbrev pub projection : List Heading → Written → List BoundExpr
projection scope q = if q.star then all_columns scope else items_of scope q.items

unfoldable pub answered_by : Bool → List Heading → Written → Answered
answered_by true scope q =
    let keys = keys_of scope q.groups in
    record { items = []; keys = keys; aggs = aggs_of scope q.items; outputs = group_outputs scope keys (length keys) q.items }
answered_by false scope q =
    let items = projection scope q in
    record { items = items; keys = []; aggs = []; outputs = numbers_from 0 items }

abbrev pub bound_select : TableSchemas → Written → Query
bound_select schemas q =
    let scope = scope_of schemas q.sources in
    let answer = answered_by (is_grouped q) scope q in
    record {
      tables = map (λ s. s.table) q.sources;
      widths = map (λ s. length (source_headings schemas s)) q.sources;
      pairs = pairs_of schemas q.sources q.ons;
      guards = stage_guards schemas q.sources q.ons (guards_of scope q.filter);
      computed = computed_of scope q.filter;
      items = answer.items;
      keys = answer.keys;
      aggs = answer.aggs;
      outputs = answer.outputs;
      order = map (order_key (output_names scope q)) q.order;
      limit = q.limit;
    }

-- the number of a table's distribution column
abbrev pub distribution_named : List ℕ → TableSchemas → ℕ
distribution_named name schemas = option_map_or (λ s. s.distribution) (schema_named name schemas) 0

-- what an UPDATE sets a column to, or else the column itself
abbrev pub new_value : List Heading → List Set → ℕ → List ℕ → BoundExpr
new_value scope [] place name = b.Column place
new_value scope (set ∷ sets) place name = if same_text set.column name then bound_expr scope set.value else new_value scope sets place name

-- the whole row after an UPDATE, for the columns from a place on
abbrev pub changed_row : List Heading → List Set → ℕ → List Heading → List BoundExpr
changed_row scope sets place [] = []
changed_row scope sets place (h ∷ hs) = new_value scope sets place h.name ∷ changed_row scope sets (place + 1) hs

abbrev pub bound_update : TableSchemas → List ℕ → List Set → Option Expr → Bound
bound_update schemas table sets condition =
    let scope = table_scope schemas table in
    Update table (guards_of scope condition) (computed_of scope condition) (changed_row scope sets 0 scope) (distribution_named table schemas)

abbrev pub bound_delete : TableSchemas → List ℕ → Option Expr → Bound
bound_delete schemas table condition =
    let scope = table_scope schemas table in
    Delete table (guards_of scope condition) (computed_of scope condition)

-- the form of a statement that no refusal holds of
abbrev pub bound_form : TableSchemas → Statement → Bound
bound_form schemas (statement.Create table columns distribution) = Named table
bound_form schemas statement.Begin = Named []
bound_form schemas statement.Commit = Named []
bound_form schemas statement.RollBack = Named []
bound_form schemas (statement.Insert table rows) = Insert table rows (distribution_named table schemas)
bound_form schemas (statement.Select q) = Select (bound_select schemas q)
bound_form schemas (statement.Update table sets condition) = bound_update schemas table sets condition
bound_form schemas (statement.Delete table condition) = bound_delete schemas table condition
bound_form schemas (statement.Compact table) = Named table
bound_form schemas (statement.Checkpoint table) = Named table
bound_form schemas (statement.Collect retain) = Named []

-- the form is that of a statement that reads or changes rows
abbrev pub reads_or_changes : Bound → Bool
reads_or_changes (Select q) = true
reads_or_changes (Insert table rows column) = true
reads_or_changes (Update table guards computed items column) = true
reads_or_changes (Delete table guards computed) = true
reads_or_changes (Named table) = false
