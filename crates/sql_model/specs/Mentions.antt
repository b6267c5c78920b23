-- What a statement mentions by name, in the order of its text, and what is wrong with a mention.
use Rattle.std.specs.Prelude.{ℕ, ◌==◌, Bool, true, false, ◌||◌, not, List, [], ◌∷◌, ◌++◌, Option, None, Some, map, length, nat_lt, is_some, if◌then◌else◌}
use Rattle.std.specs.List.{list_any}
use Rattle.std.specs.Option.{option_map_or, option_or}
use Rattle.std.specs.Fmt.{decimal}
use Rattle.lake_values.specs.declared.schemas.Column.{Column}
use Rattle.sql_model.specs.declared.expressions.Agg.{Agg}
use Rattle.sql_model.specs.declared.expressions.Agg.TheVariants.{CountAll, Count, Sum, Min, Max}
use Rattle.sql_model.specs.declared.expressions.Expr.{Expr, fold-Expr, out-Expr}
use Rattle.sql_model.specs.declared.expressions.Expr.TheOpen.{Expr-F}
use Rattle.sql_model.specs.declared.expressions.Item.{Item}
use Rattle.sql_model.specs.declared.expressions.Item.TheVariants as item
use Rattle.sql_model.specs.declared.expressions.Ref.{Ref}
use Rattle.sql_model.specs.declared.replies.Refusal.{Refusal}
use Rattle.sql_model.specs.declared.replies.Refusal.TheVariants.{UnknownTable, UnknownColumn, Ambiguous}
use Rattle.sql_model.specs.declared.scopes.Found.{Found}
use Rattle.sql_model.specs.declared.scopes.Found.TheVariants.{Absent, One, Several}
use Rattle.sql_model.specs.declared.scopes.Heading.{Heading}
use Rattle.sql_model.specs.declared.statements.OrderBy.{OrderBy}
use Rattle.sql_model.specs.declared.statements.OrderBy.TheVariants.{Name, Number}
use Rattle.sql_model.specs.declared.statements.Select.{Select}
use Rattle.sql_model.specs.declared.statements.Set.{Set}
use Rattle.sql_model.specs.declared.statements.SourceRef.{SourceRef}
use Rattle.sql_model.specs.declared.statements.Statement.{Statement}
use Rattle.sql_model.specs.declared.statements.Statement.TheVariants as statement
use Rattle.lake_values.specs.Texts.{same_text}
use Rattle.sql_model.specs.Scopes.{TableSchemas, schema_named, headings, source_headings, scope_of, table_scope, named, output_named, printed}

-- A place of the text where a name stands, with what it is judged by.
pub data Mention : Type 0 where
  -- a table
  table : List ℕ → Mention
  -- a column, perhaps with its table, among the columns that it may name
  reference : List Heading → Option (List ℕ) → List ℕ → Mention
  -- a name that is given, and the names given behind it that have to differ from it
  given : List ℕ → List (List ℕ) → Mention
  -- a key of ORDER BY, and the names of the outputs
  key : List (Option (List ℕ)) → OrderBy → Mention

-- What is wrong with a mention, refusal by refusal.

abbrev pub refused_if : Bool → Refusal → Option Refusal
refused_if true r = Some r
refused_if false r = None

abbrev pub is_absent : Found → Bool
is_absent Absent = true
is_absent (One place) = false
is_absent Several = false

abbrev pub is_several : Found → Bool
is_several Absent = false
is_several (One place) = false
is_several Several = true

-- the table isn't in the schemas
abbrev pub unknown_table : TableSchemas → Mention → Option Refusal
unknown_table schemas (table name) = refused_if (not (is_some (schema_named name schemas))) (UnknownTable name)
unknown_table schemas (reference scope t c) = None
unknown_table schemas (given name later) = None
unknown_table schemas (key outputs by) = None

-- a key names no output, or its number isn't from 1 to the number of outputs
abbrev pub unknown_key : List (Option (List ℕ)) → OrderBy → Option Refusal
unknown_key outputs (Name name) = refused_if (is_absent (output_named outputs name)) (UnknownColumn name)
unknown_key outputs (Number n) = refused_if (n == 0 || nat_lt (length outputs) n) (UnknownColumn (decimal n))

-- the name fits no column or output
abbrev pub unknown_column : Mention → Option Refusal
unknown_column (table name) = None
unknown_column (reference scope t c) = refused_if (is_absent (named scope t c)) (UnknownColumn (printed t c))
unknown_column (given name later) = None
unknown_column (key outputs by) = unknown_key outputs by

abbrev pub ambiguous_key : List (Option (List ℕ)) → OrderBy → Option Refusal
ambiguous_key outputs (Name name) = refused_if (is_several (output_named outputs name)) (Ambiguous name)
ambiguous_key outputs (Number n) = None

-- the name fits two columns or outputs, or is given twice
abbrev pub ambiguous_name : Mention → Option Refusal
ambiguous_name (table name) = None
ambiguous_name (reference scope t c) = refused_if (is_several (named scope t c)) (Ambiguous (printed t c))
ambiguous_name (given name later) = refused_if (list_any (same_text name) later) (Ambiguous name)
ambiguous_name (key outputs by) = ambiguous_key outputs by

-- Mentions in the order of the text.
pub data Mentions : Type 0 where
  nothing : Mentions
  one : Mention → Mentions
  both : Mentions → Mentions → Mentions

-- those of each member of a list
abbrev pub each : {X : Type 0} → (X → Mentions) → List X → Mentions
each part [] = nothing
each part (x ∷ xs) = both (part x) (each part xs)

-- the first refusal among the mentions in their order
abbrev pub first : (Mention → Option Refusal) → Mentions → Option Refusal
first judge nothing = None
first judge (one m) = judge m
first judge (both before behind) = option_or (first judge before) (first judge behind)

-- What each part of a statement mentions.

-- one level of an expression, over what its operands mention
abbrev pub mention_step : List Heading → Expr-F Mentions → Mentions
mention_step scope (Expr-F.Column r) = one (reference scope r.table r.column)
mention_step scope (Expr-F.Literal v) = nothing
mention_step scope (Expr-F.Arith op a b) = both a b
mention_step scope (Expr-F.Compare op a b) = both a b
mention_step scope (Expr-F.IsNull a) = a
mention_step scope (Expr-F.Not a) = a
mention_step scope (Expr-F.And a b) = both a b
mention_step scope (Expr-F.Or a b) = both a b

abbrev pub in_expr : List Heading → Expr → Mentions
in_expr scope = fold-Expr Mentions (mention_step scope)

abbrev pub in_filter : List Heading → Option Expr → Mentions
in_filter scope None = nothing
in_filter scope (Some e) = in_expr scope e

abbrev pub in_agg : List Heading → Agg → Mentions
in_agg scope CountAll = nothing
in_agg scope (Count e) = in_expr scope e
in_agg scope (Sum e) = in_expr scope e
in_agg scope (Min e) = in_expr scope e
in_agg scope (Max e) = in_expr scope e

abbrev pub in_item : List Heading → Item → Mentions
in_item scope (item.Plain e name) = in_expr scope e
in_item scope (item.Agg a name) = in_agg scope a

abbrev pub in_ref : List Heading → Ref → Mentions
in_ref scope r = one (reference scope r.table r.column)

abbrev pub in_pair : List Heading → Ref × Ref → Mentions
in_pair scope p = both (in_ref scope p.0) (in_ref scope p.1)

abbrev pub source_names : List SourceRef → List (List ℕ)
source_names sources = map (λ s. s.name) sources

-- a source's table, and the name that it is given
abbrev pub in_source : SourceRef → List SourceRef → Mentions
in_source source later = both (one (table source.table)) (one (given source.name (source_names later)))

-- a source with its ON, over the tables up to its own
unfoldable pub in_join : TableSchemas → List Heading → SourceRef → List SourceRef → List (Ref × Ref) → Mentions
in_join schemas scope source later on = both (in_source source later) (each (in_pair (scope ++ source_headings schemas source)) on)

-- the sources behind the first
abbrev pub in_joins : TableSchemas → List Heading → List SourceRef → List (List (Ref × Ref)) → Mentions
in_joins schemas scope (source ∷ sources) (on ∷ ons) =
    both (in_join schemas scope source sources on) (in_joins schemas (scope ++ source_headings schemas source) sources ons)
in_joins schemas scope sources ons = nothing

abbrev pub in_sources : TableSchemas → List SourceRef → List (List (Ref × Ref)) → Mentions
in_sources schemas [] ons = nothing
in_sources schemas (source ∷ sources) ons = both (in_source source sources) (in_joins schemas (source_headings schemas source) sources ons)

-- the reference that an expression is, if it is one
abbrev pub referred_at : {A : Type 0} → Expr-F A → Option Ref
referred_at (Expr-F.Column r) = Some r
referred_at e = None

abbrev pub referred : Expr → Option Ref
referred e = referred_at (out-Expr e)

-- the name of the column that an expression is
abbrev pub column_name : Expr → Option (List ℕ)
column_name e = option_map_or (λ r. Some r.column) (referred e) None

-- the name behind AS, or else the column's where the item is a reference
abbrev pub output_name : Item → Option (List ℕ)
output_name (item.Plain e name) = option_or name (column_name e)
output_name (item.Agg a name) = name

-- the names of the outputs: all columns, or the items
abbrev pub output_names : List Heading → Select → List (Option (List ℕ))
output_names scope q = if q.star then map (λ h. Some h.name) scope else map output_name q.items

-- the keys of ORDER BY
unfoldable pub in_order : List Heading → Select → Mentions
in_order scope q = each (λ k. one (key (output_names scope q) k.by)) q.order

abbrev pub in_select : TableSchemas → Select → Mentions
in_select schemas q =
    let scope = scope_of schemas q.sources in
    both (each (in_item scope) q.items)
    (both (in_sources schemas q.sources q.ons)
    (both (in_filter scope q.filter)
    (both (each (in_ref scope) q.groups) (in_order scope q))))

-- the columns of a CREATE
abbrev pub in_columns : List Column → Mentions
in_columns [] = nothing
in_columns (c ∷ cs) = both (one (given c.name (map (λ d. d.name) cs))) (in_columns cs)

abbrev pub in_distribution : List Heading → Option (List ℕ) → Mentions
in_distribution scope None = nothing
in_distribution scope (Some name) = one (reference scope None name)

-- the column that a SET names, once, and its value
abbrev pub in_set : List Heading → Set → List Set → Mentions
in_set scope set later =
    both (one (reference scope None set.column))
    (both (one (given set.column (map (λ s. s.column) later))) (in_expr scope set.value))

abbrev pub in_sets : List Heading → List Set → Mentions
in_sets scope [] = nothing
in_sets scope (set ∷ sets) = both (in_set scope set sets) (in_sets scope sets)

-- what a statement mentions, in the order of its text
abbrev pub mentions : TableSchemas → Statement → Mentions
mentions schemas (statement.Create name columns distribution) = both (in_columns columns) (in_distribution (headings name columns) distribution)
mentions schemas statement.Begin = nothing
mentions schemas statement.Commit = nothing
mentions schemas statement.RollBack = nothing
mentions schemas (statement.Insert name rows) = one (table name)
mentions schemas (statement.Select q) = in_select schemas q
mentions schemas (statement.Update name sets filter) =
    let scope = table_scope schemas name in
    both (one (table name)) (both (in_sets scope sets) (in_filter scope filter))
mentions schemas (statement.Delete name filter) = both (one (table name)) (in_filter (table_scope schemas name) filter)
mentions schemas (statement.Compact name) = one (table name)
mentions schemas (statement.Checkpoint name) = one (table name)
mentions schemas (statement.Collect retain) = nothing
