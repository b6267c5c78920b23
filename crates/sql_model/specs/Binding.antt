-- Binding: which refusal a statement meets over the schemas, and what it is bound to otherwise.
use Rattle.std.specs.Prelude.{◌≡◌, ℕ, ◌==◌, Bool, true, false, ◌&&◌, not, List, Option, None, Some, Result, Ok, Err, length, nat_eq, if◌then◌else◌}
use Rattle.std.specs.List.{list_all, list_any}
use Rattle.std.specs.Option.{option_map_or, option_or}
use Rattle.lake_values.specs.declared.values.Value.{Value}
use Rattle.sql_model.specs.declared.bound.Bound.{Bound}
use Rattle.sql_model.specs.declared.expressions.Expr.{Expr}
use Rattle.sql_model.specs.declared.expressions.Item.{Item}
use Rattle.sql_model.specs.declared.expressions.Item.TheVariants as item
use Rattle.sql_model.specs.declared.replies.Refusal.{Refusal}
use Rattle.sql_model.specs.declared.replies.Refusal.TheVariants.{TypeMismatch, ColumnCount, NotGrouped}
use Rattle.sql_model.specs.declared.scopes.Heading.{Heading}
use Rattle.sql_model.specs.declared.statements.Select.{Select}
use Rattle.sql_model.specs.declared.statements.Statement.{Statement}
use Rattle.sql_model.specs.declared.statements.Statement.TheVariants as statement
use Rattle.sql_model.specs.Scopes.{TableSchemas, columns_named, scope_of, column_of}
use Rattle.sql_model.specs.Mentions.{mentions, first, unknown_table, unknown_column, ambiguous_name, refused_if, referred}
use Rattle.sql_model.specs.Types.{is_typed}
use Rattle.sql_model.specs.BoundForms.{is_grouped, keys_of, bound_form}

-- the tuple has as many values as there are columns
abbrev pub is_wide : ℕ → List Value → Bool
is_wide width row = length row == width

-- every tuple of an INSERT has a value for each column
abbrev pub is_counted : TableSchemas → Statement → Bool
is_counted schemas (statement.Create table columns distribution) = true
is_counted schemas statement.Begin = true
is_counted schemas statement.Commit = true
is_counted schemas statement.RollBack = true
is_counted schemas (statement.Insert table rows) = list_all (is_wide (length (columns_named table schemas))) rows
is_counted schemas (statement.Select q) = true
is_counted schemas (statement.Update table sets filter) = true
is_counted schemas (statement.Delete table filter) = true
is_counted schemas (statement.Compact table) = true
is_counted schemas (statement.Checkpoint table) = true
is_counted schemas (statement.Collect retain) = true

-- the expression is a reference to a group column
abbrev pub is_key_column : List Heading → List ℕ → Expr → Bool
is_key_column scope keys e = option_map_or (λ r. list_any (nat_eq (column_of scope r)) keys) (referred e) false

-- the item is an aggregate, or a reference to a group column
abbrev pub is_of_group : List Heading → List ℕ → Item → Bool
is_of_group scope keys (item.Plain e name) = is_key_column scope keys e
is_of_group scope keys (item.Agg a name) = true

abbrev pub has_group_items : List Heading → Select → Bool
has_group_items scope q = not q.star && list_all (is_of_group scope (keys_of scope q.groups)) q.items

-- a grouped query has such items alone
abbrev pub is_grouped_well : TableSchemas → Select → Bool
is_grouped_well schemas q = if is_grouped q then has_group_items (scope_of schemas q.sources) q else true

-- a grouped query among the statements does
abbrev pub is_of_groups : TableSchemas → Statement → Bool
is_of_groups schemas (statement.Create table columns distribution) = true
is_of_groups schemas statement.Begin = true
is_of_groups schemas statement.Commit = true
is_of_groups schemas statement.RollBack = true
is_of_groups schemas (statement.Insert table rows) = true
is_of_groups schemas (statement.Select q) = is_grouped_well schemas q
is_of_groups schemas (statement.Update table sets filter) = true
is_of_groups schemas (statement.Delete table filter) = true
is_of_groups schemas (statement.Compact table) = true
is_of_groups schemas (statement.Checkpoint table) = true
is_of_groups schemas (statement.Collect retain) = true

abbrev pub mistyped : TableSchemas → Statement → Option Refusal
mistyped schemas x = refused_if (not (is_typed schemas x)) TypeMismatch

abbrev pub miscounted : TableSchemas → Statement → Option Refusal
miscounted schemas x = refused_if (not (is_counted schemas x)) ColumnCount

abbrev pub misgrouped : TableSchemas → Statement → Option Refusal
misgrouped schemas x = refused_if (not (is_of_groups schemas x)) NotGrouped

-- The least refusal that holds: an unknown table, an unknown column, an ambiguous name, each with the first
-- name in the order of the text; a type that doesn't fit; a tuple of another width; an item outside the groups.
abbrev pub refused : TableSchemas → Statement → Option Refusal
refused schemas x =
    option_or (first (unknown_table schemas) (mentions schemas x))
    (option_or (first unknown_column (mentions schemas x))
    (option_or (first ambiguous_name (mentions schemas x))
    (option_or (mistyped schemas x)
    (option_or (miscounted schemas x) (misgrouped schemas x)))))

abbrev pub answered : Option Refusal → Bound → Result Bound Refusal
answered None form = Ok form
answered (Some refusal) form = Err refusal

-- what binding a statement over the schemas answers. It is a function, so at most one answer is right
abbrev pub bound : Statement → TableSchemas → Result Bound Refusal
bound x schemas = answered (refused schemas x) (bound_form schemas x)

-- the statement is bound so
abbrev pub IsBound : Statement → TableSchemas → Bound → Type 0
IsBound x schemas form = bound x schemas ≡ Ok form

-- the statement is refused so
abbrev pub IsRefused : Statement → TableSchemas → Refusal → Type 0
IsRefused x schemas refusal = bound x schemas ≡ Err refusal
