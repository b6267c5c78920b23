-- The group columns that items name.
use Rattle.std.specs.Prelude.{ℕ, Bool, true, List, Option, nat_eq, if◌then◌else◌}
use Rattle.std.specs.List.{position_from}
use Rattle.std.specs.Option.{option_and_then}
use Rattle.sql_model.specs.declared.expressions.Expr.{Expr}
use Rattle.sql_model.specs.declared.scopes.Heading.{Heading}
use Rattle.sql_model.specs.declared.statements.Select.{Select}
use Rattle.sql_model.specs.Binding.{has_group_items}
use Rattle.sql_model.specs.BoundForms.{is_grouped}
use Rattle.sql_model.specs.Mentions.{referred}
use Rattle.sql_model.specs.Scopes.{column_of}

-- the place among the keys of the group column that an expression is, if it is one
abbrev pub place_of_key : List Heading → List ℕ → Expr → Option ℕ
place_of_key scope keys e =
    option_and_then (λ r. position_from (nat_eq (column_of scope r)) 0 keys) (referred e)

-- a query, if it is grouped, lists aggregates and group columns alone
abbrev pub is_of_its_groups : List Heading → Select → Bool
is_of_its_groups scope q = if is_grouped q then has_group_items scope q else true
