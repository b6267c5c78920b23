-- The types of expressions, and where a type doesn't fit.
use Rattle.std.specs.Prelude.{Bool, true, false, ◌&&◌, ◌||◌, List, [], ◌∷◌, ◌++◌, Option, None, Some, slice_get}
use Rattle.std.specs.List.{list_all}
use Rattle.std.specs.Option.{option_map_or}
use Rattle.lake_values.specs.declared.schemas.Column.{Column}
use Rattle.lake_values.specs.declared.schemas.ColType.{ColType}
use Rattle.lake_values.specs.declared.schemas.ColType.TheVariants as column
use Rattle.lake_values.specs.declared.values.Value.{Value}
use Rattle.lake_values.specs.declared.values.Value.TheVariants as value
use Rattle.sql_model.specs.declared.expressions.Agg.{Agg}
use Rattle.sql_model.specs.declared.expressions.Agg.TheVariants.{CountAll, Count, Sum, Min, Max}
use Rattle.sql_model.specs.declared.expressions.Expr.{Expr, fold-Expr}
use Rattle.sql_model.specs.declared.expressions.Expr.TheOpen.{Expr-F}
use Rattle.sql_model.specs.declared.expressions.Item.{Item}
use Rattle.sql_model.specs.declared.expressions.Item.TheVariants as item
use Rattle.sql_model.specs.declared.expressions.Ref.{Ref}
use Rattle.sql_model.specs.declared.scopes.ExprType.{ExprType}
use Rattle.sql_model.specs.declared.scopes.ExprType.TheVariants.{Int, Text, Bool as Truth, Null, Unknown}
use Rattle.sql_model.specs.declared.scopes.Found.{Found}
use Rattle.sql_model.specs.declared.scopes.Found.TheVariants.{One}
use Rattle.sql_model.specs.declared.scopes.Heading.{Heading}
use Rattle.sql_model.specs.declared.statements.Select.{Select}
use Rattle.sql_model.specs.declared.statements.Set.{Set}
use Rattle.sql_model.specs.declared.statements.SourceRef.{SourceRef}
use Rattle.sql_model.specs.declared.statements.Statement.{Statement}
use Rattle.sql_model.specs.declared.statements.Statement.TheVariants as statement
use Rattle.sql_model.specs.Scopes.{TableSchemas, columns_named, source_headings, scope_of, table_scope, named}

abbrev pub type_of_column : ColType → ExprType
type_of_column column.Int = Int
type_of_column column.Text = Text

abbrev pub type_of_value : Value → ExprType
type_of_value value.Null = Null
type_of_value (value.Int n) = Int
type_of_value (value.Text t) = Text

abbrev pub type_at : List Heading → Found → ExprType
type_at scope (One place) = option_map_or (λ h. type_of_column h.kind) (slice_get scope place) Unknown
type_at scope found = Unknown

-- the type of what a reference names
abbrev pub type_of_ref : List Heading → Ref → ExprType
type_of_ref scope r = type_at scope (named scope r.table r.column)

-- Where a type is asked, the type of NULL fits, if the one asked for isn't BOOL. What the type of an unknown
-- reference decides isn't judged.

abbrev pub fits_int : ExprType → Bool
fits_int Text = false
fits_int Truth = false
fits_int t = true

abbrev pub fits_text : ExprType → Bool
fits_text Int = false
fits_text Truth = false
fits_text t = true

abbrev pub fits_bool : ExprType → Bool
fits_bool Truth = true
fits_bool Unknown = true
fits_bool t = false

abbrev pub is_no_bool : ExprType → Bool
is_no_bool Truth = false
is_no_bool t = true

abbrev pub fits_column : ColType → ExprType → Bool
fits_column column.Int t = fits_int t
fits_column column.Text t = fits_text t

-- both INT or both TEXT
abbrev pub are_comparable : ExprType → ExprType → Bool
are_comparable a b = fits_int a && fits_int b || fits_text a && fits_text b

-- a whole with this type where the test holds, and else none
abbrev pub typed : ExprType → Bool → Option ExprType
typed t true = Some t
typed t false = None

-- an expression has a type, and it passes the test
abbrev pub passes : (ExprType → Bool) → Option ExprType → Bool
passes test o = option_map_or test o false

abbrev pub compares : Option ExprType → Option ExprType → Bool
compares a b = option_map_or (λ s. option_map_or (are_comparable s) b false) a false

-- one level of an expression, over the types of its operands
abbrev pub type_step : List Heading → Expr-F (Option ExprType) → Option ExprType
type_step scope (Expr-F.Column r) = Some (type_of_ref scope r)
type_step scope (Expr-F.Literal v) = Some (type_of_value v)
type_step scope (Expr-F.Arith op a b) = typed Int (passes fits_int a && passes fits_int b)
type_step scope (Expr-F.Compare op a b) = typed Truth (compares a b)
type_step scope (Expr-F.IsNull a) = typed Truth (passes is_no_bool a)
type_step scope (Expr-F.Not a) = typed Truth (passes fits_bool a)
type_step scope (Expr-F.And a b) = typed Truth (passes fits_bool a && passes fits_bool b)
type_step scope (Expr-F.Or a b) = typed Truth (passes fits_bool a && passes fits_bool b)

-- the type of an expression; none where an operand in it has a type that doesn't fit
abbrev pub type_of : List Heading → Expr → Option ExprType
type_of scope = fold-Expr (Option ExprType) (type_step scope)

-- the argument has a type that its aggregate takes
abbrev pub is_typed_agg : List Heading → Agg → Bool
is_typed_agg scope CountAll = true
is_typed_agg scope (Count e) = passes is_no_bool (type_of scope e)
is_typed_agg scope (Sum e) = passes fits_int (type_of scope e)
is_typed_agg scope (Min e) = passes is_no_bool (type_of scope e)
is_typed_agg scope (Max e) = passes is_no_bool (type_of scope e)

abbrev pub is_typed_item : List Heading → Item → Bool
is_typed_item scope (item.Plain e name) = passes is_no_bool (type_of scope e)
is_typed_item scope (item.Agg a name) = is_typed_agg scope a

-- the two sides of an equality of ON
abbrev pub is_typed_pair : List Heading → Ref × Ref → Bool
is_typed_pair scope p = are_comparable (type_of_ref scope p.0) (type_of_ref scope p.1)

-- the ONs of the sources behind the first, each over the tables up to its own
abbrev pub are_typed_joins : TableSchemas → List Heading → List SourceRef → List (List (Ref × Ref)) → Bool
are_typed_joins schemas scope (source ∷ sources) (on ∷ ons) =
    let joined = scope ++ source_headings schemas source in
    list_all (is_typed_pair joined) on && are_typed_joins schemas joined sources ons
are_typed_joins schemas scope sources ons = true

abbrev pub are_typed_sources : TableSchemas → List SourceRef → List (List (Ref × Ref)) → Bool
are_typed_sources schemas [] ons = true
are_typed_sources schemas (first ∷ sources) ons = are_typed_joins schemas (source_headings schemas first) sources ons

-- the condition of WHERE
abbrev pub is_typed_filter : List Heading → Option Expr → Bool
is_typed_filter scope None = true
is_typed_filter scope (Some e) = passes fits_bool (type_of scope e)

-- the type that a column asks of what is put into it
abbrev pub fits_found : List Heading → Found → ExprType → Bool
fits_found scope (One place) t = option_map_or (λ h. fits_column h.kind t) (slice_get scope place) true
fits_found scope found t = true

abbrev pub is_typed_set : List Heading → Set → Bool
is_typed_set scope set = passes (fits_found scope (named scope None set.column)) (type_of scope set.value)

-- the values of a tuple, at the positions that both it and the table have
abbrev pub are_typed_values : List Column → List Value → Bool
are_typed_values (c ∷ cs) (v ∷ vs) = fits_column c.kind (type_of_value v) && are_typed_values cs vs
are_typed_values cs vs = true

abbrev pub is_typed_select : TableSchemas → Select → Bool
is_typed_select schemas q =
    let scope = scope_of schemas q.sources in
    list_all (is_typed_item scope) q.items && are_typed_sources schemas q.sources q.ons && is_typed_filter scope q.filter

-- every operand and value has a type that fits. A CREATE isn't judged
abbrev pub is_typed : TableSchemas → Statement → Bool
is_typed schemas (statement.Create table columns distribution) = true
is_typed schemas statement.Begin = true
is_typed schemas statement.Commit = true
is_typed schemas statement.RollBack = true
is_typed schemas (statement.Insert table rows) = list_all (are_typed_values (columns_named table schemas)) rows
is_typed schemas (statement.Select q) = is_typed_select schemas q
is_typed schemas (statement.Update table sets filter) =
    let scope = table_scope schemas table in
    list_all (is_typed_set scope) sets && is_typed_filter scope filter
is_typed schemas (statement.Delete table filter) = is_typed_filter (table_scope schemas table) filter
is_typed schemas (statement.Compact table) = true
is_typed schemas (statement.Checkpoint table) = true
is_typed schemas (statement.Collect retain) = true
