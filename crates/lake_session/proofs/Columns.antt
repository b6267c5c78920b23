-- What binding says of a CREATE.
use Rattle.std.proofs.Common.{◌≡◌, ℕ, List, [], map, Option, None, Some, Result, Ok, Err, refl, subst}
use Rattle.std.specs.Option.{option_or}
use Rattle.lake_values.specs.Schemas.{AllDistinct}
use Rattle.lake_values.specs.declared.schemas.Column.{Column}
use Rattle.sql_model.specs.declared.bound.Bound.{Bound}
use Rattle.sql_model.specs.declared.replies.Refusal.{Refusal}
use Rattle.sql_model.specs.declared.statements.Statement.{Statement}
use Rattle.sql_model.specs.declared.statements.Statement.TheVariants.{Create}
use Rattle.sql_model.specs.Binding.{refused, answered, IsBound, IsRefused}
use Rattle.sql_model.specs.BoundForms.{bound_form}
use Rattle.sql_model.specs.Mentions.{first, ambiguous_name, in_columns, unknown_table, unknown_column, mentions}
use Rattle.sql_model.specs.Scopes.{TableSchemas}
use Rattle.sql_binder.proofs.Distinct.{distinct_columns}

bound_none : (o : Option Refusal) (form form' : Bound) → ◌≡◌ {A = Result Bound Refusal} (answered o form) (Ok form') → o ≡ None
bound_none None form form' e = refl
bound_none (Some r) form form' e = absurd cc

bound_some : (o : Option Refusal) (form : Bound) (r : Refusal) → ◌≡◌ {A = Result Bound Refusal} (answered o form) (Err r) → o ≡ Some r
bound_some None form r e = absurd cc
bound_some (Some s) form r e = cc

-- over no schemas

pub none_refused : (x y : Statement) (schemas : TableSchemas) (form : Bound) → x ≡ y → schemas ≡ [] → IsBound x schemas form → refused [] y ≡ None
none_refused x y schemas form same none is_bound =
    let P : Statement → Type 0 = λ z. IsBound z [] form in
    let Q : TableSchemas → Type 0 = λ known. IsBound x known form in
    bound_none (refused [] y) (bound_form [] y) form (subst P same (subst Q none is_bound))

pub refused_by : (y : Statement) (cause : Refusal) → IsRefused y [] cause → refused [] y ≡ Some cause
refused_by y cause is_refused = bound_some (refused [] y) (bound_form [] y) cause is_refused

pub refused_same : (x y : Statement) (schemas : TableSchemas) (cause : Refusal) → x ≡ y → schemas ≡ [] → IsRefused x schemas cause → IsRefused y [] cause
refused_same x y schemas cause same none is_refused =
    let P : Statement → Type 0 = λ z. IsRefused z [] cause in
    let Q : TableSchemas → Type 0 = λ known. IsRefused x known cause in
    subst P same (subst Q none is_refused)

-- the first two of what is refused first, and the rest
neither : (a b : Option Refusal) → option_or a b ≡ None → (a ≡ None) × (b ≡ None)
neither None b e = (refl, e)
neither (Some r) b e = absurd cc

-- a CREATE that nothing refuses has columns of distinct names
pub distinct_of : (table : List ℕ) (columns : List Column) (distribution : Option (List ℕ)) → refused [] (Create table columns distribution) ≡ None → AllDistinct (map (λ c. c.name) columns)
distinct_of table columns distribution none =
    let tables = neither (first (unknown_table []) (mentions [] (Create table columns distribution))) _ none in
    let names = neither (first unknown_column (mentions [] (Create table columns distribution))) _ tables.1 in
    let twice = neither (first ambiguous_name (mentions [] (Create table columns distribution))) _ names.1 in
    distinct_columns columns (neither (first ambiguous_name (in_columns columns)) _ twice.0).0
