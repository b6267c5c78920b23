-- Which statements are in form: the bounds that the grammar sets.
use Rattle.std.specs.Prelude.{ℕ, ◌+◌, ◌-◌, ◌==◌, Bool, true, false, ◌&&◌, ◌||◌, not, IsTrue, List, Option, length, nat_le, if◌then◌else◌}
use Rattle.std.specs.List.{list_all}
use Rattle.std.specs.Option.{option_map_or}
use Rattle.lake_values.specs.declared.schemas.Column.{Column}
use Rattle.lake_values.specs.declared.values.Value.{Value}
use Rattle.sql_model.specs.declared.expressions.Agg.{Agg}
use Rattle.sql_model.specs.declared.expressions.Agg.TheVariants.{CountAll, Count, Sum, Min, Max}
use Rattle.sql_model.specs.declared.expressions.Expr.{Expr, fold-Expr}
use Rattle.sql_model.specs.declared.expressions.Expr.TheOpen.{Expr-F}
use Rattle.sql_model.specs.declared.expressions.Item.{Item}
use Rattle.sql_model.specs.declared.expressions.Item.TheVariants as item
use Rattle.sql_model.specs.declared.expressions.Ref.{Ref}
use Rattle.sql_model.specs.declared.statements.OrderBy.{OrderBy}
use Rattle.sql_model.specs.declared.statements.OrderBy.TheVariants.{Name, Number}
use Rattle.sql_model.specs.declared.statements.OrderKey.{OrderKey}
use Rattle.sql_model.specs.declared.statements.Select.{Select}
use Rattle.sql_model.specs.declared.statements.Set.{Set}
use Rattle.sql_model.specs.declared.statements.SourceRef.{SourceRef}
use Rattle.sql_model.specs.declared.statements.Statement.{Statement}
use Rattle.sql_model.specs.declared.statements.Statement.TheVariants as statement
use Rattle.sql_model.specs.BoundForms.{is_empty, is_grouped}

abbrev pub is_between : ℕ → ℕ → ℕ → Bool
is_between least most n = nat_le least n && nat_le n most

-- a name has at most 64 bytes
abbrev pub is_name : List ℕ → Bool
is_name name = nat_le (length name) 64

abbrev pub is_name_or_none : Option (List ℕ) → Bool
is_name_or_none name = option_map_or is_name name true

abbrev pub are_names : Ref → Bool
are_names r = is_name_or_none r.table && is_name r.column

-- one level of an expression, over whether its operands have short names
abbrev pub names_step : Expr-F Bool → Bool
names_step (Expr-F.Column r) = are_names r
names_step (Expr-F.Literal v) = true
names_step (Expr-F.Arith op a b) = a && b
names_step (Expr-F.Compare op a b) = a && b
names_step (Expr-F.IsNull a) = a
names_step (Expr-F.Not a) = a
names_step (Expr-F.And a b) = a && b
names_step (Expr-F.Or a b) = a && b

abbrev pub has_names : Expr → Bool
has_names = fold-Expr Bool names_step

-- one level of an expression, over the numbers of operators in its operands
abbrev pub operators_step : Expr-F ℕ → ℕ
operators_step (Expr-F.Column r) = 0
operators_step (Expr-F.Literal v) = 0
operators_step (Expr-F.Arith op a b) = a + b + 1
operators_step (Expr-F.Compare op a b) = a + b + 1
operators_step (Expr-F.IsNull a) = a + 1
operators_step (Expr-F.Not a) = a + 1
operators_step (Expr-F.And a b) = a + b + 1
operators_step (Expr-F.Or a b) = a + b + 1

abbrev pub operators : Expr → ℕ
operators = fold-Expr ℕ operators_step

-- an expression has at most 1,000 operators
abbrev pub is_expr : Expr → Bool
is_expr e = has_names e && nat_le (operators e) 1000

abbrev pub is_filter : Option Expr → Bool
is_filter condition = option_map_or is_expr condition true

abbrev pub is_agg : Agg → Bool
is_agg CountAll = true
is_agg (Count e) = is_expr e
is_agg (Sum e) = is_expr e
is_agg (Min e) = is_expr e
is_agg (Max e) = is_expr e

abbrev pub is_item : Item → Bool
is_item (item.Plain e name) = is_expr e && is_name_or_none name
is_item (item.Agg a name) = is_agg a && is_name_or_none name

abbrev pub is_source : SourceRef → Bool
is_source source = is_name source.table && is_name source.name

abbrev pub is_pair : Ref × Ref → Bool
is_pair p = are_names p.0 && are_names p.1

-- an ON has an equality
abbrev pub is_on : List (Ref × Ref) → Bool
is_on on = not (is_empty on) && list_all is_pair on

abbrev pub is_key_by : OrderBy → Bool
is_key_by (Name name) = is_name name
is_key_by (Number n) = true

abbrev pub is_key : OrderKey → Bool
is_key k = is_key_by k.by

abbrev pub is_set : Set → Bool
is_set set = is_name set.column && is_expr set.value

abbrev pub is_tuple : List Value → Bool
is_tuple row = is_between 1 64 (length row)

-- a query over several tables groups nothing
abbrev pub groups_one_table : Select → Bool
groups_one_table q = nat_le (length q.sources) 1 || not (is_grouped q)

-- `*` has no items
abbrev pub has_item_count : Select → Bool
has_item_count q = if q.star then is_empty q.items else is_between 1 64 (length q.items)

-- the bounds on the parts of a query
abbrev pub has_bounds : Select → Bool
has_bounds q =
    is_between 1 4 (length q.sources) && length q.ons == length q.sources - 1
    && has_item_count q
    && nat_le (length q.groups) 64 && nat_le (length q.order) 64 && groups_one_table q

abbrev pub is_select : Select → Bool
is_select q =
    has_bounds q && list_all is_item q.items && list_all is_source q.sources && list_all is_on q.ons
    && is_filter q.filter && list_all are_names q.groups && list_all is_key q.order

abbrev pub is_create : List ℕ → List Column → Option (List ℕ) → Bool
is_create table columns distribution = is_name table && is_between 1 64 (length columns) && list_all (λ c. is_name c.name) columns && is_name_or_none distribution

abbrev pub is_insert : List ℕ → List (List Value) → Bool
is_insert table rows = is_name table && not (is_empty rows) && list_all is_tuple rows

abbrev pub is_update : List ℕ → List Set → Option Expr → Bool
is_update table sets condition = is_name table && is_between 1 64 (length sets) && list_all is_set sets && is_filter condition

abbrev pub is_form : Statement → Bool
is_form (statement.Create table columns distribution) = is_create table columns distribution
is_form statement.Begin = true
is_form statement.Commit = true
is_form statement.RollBack = true
is_form (statement.Insert table rows) = is_insert table rows
is_form (statement.Select q) = is_select q
is_form (statement.Update table sets condition) = is_update table sets condition
is_form (statement.Delete table condition) = is_name table && is_filter condition
is_form (statement.Compact table) = is_name table
is_form (statement.Checkpoint table) = is_name table
is_form (statement.Collect retain) = true

-- the statement is in form
abbrev pub IsInForm : Statement → Type 0
IsInForm x = IsTrue (is_form x)

-- the statement has a bound form: it is one of those that are bound over the schemas
abbrev pub is_bindable : Statement → Bool
is_bindable (statement.Create table columns distribution) = true
is_bindable statement.Begin = false
is_bindable statement.Commit = false
is_bindable statement.RollBack = false
is_bindable (statement.Insert table rows) = true
is_bindable (statement.Select q) = true
is_bindable (statement.Update table sets condition) = true
is_bindable (statement.Delete table condition) = true
is_bindable (statement.Compact table) = true
is_bindable (statement.Checkpoint table) = true
is_bindable (statement.Collect retain) = false
