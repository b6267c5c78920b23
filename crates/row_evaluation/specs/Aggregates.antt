-- What is known of the values of an aggregate's argument that were seen.
use Rattle.std.specs.Prelude.{ℕ, not, List, filter, length}
use Rattle.lake_values.specs.declared.values.Value.{Value}
use Rattle.lake_values.specs.declared.values.Value.TheVariants as value
use Rattle.sql_model.specs.Evaluation.{is_null}
use Rattle.sql_model.specs.Groups.{lesser, greater}
use Rattle.lake_values.specs.Lending.{owned, IsShort}
use Rattle.row_evaluation.specs.declared.aggregates.Total.{Total}
use Rattle.row_evaluation.specs.declared.aggregates.Total.TheVariants.{AtMostOne, Several}
use Rattle.row_evaluation.specs.declared.aggregates.Extreme.{Extreme}
use Rattle.row_evaluation.specs.declared.aggregates.Extreme.TheVariants.{Least, Greatest}

-- how many values aren't NULL
abbrev pub counted : List Value → ℕ
counted values = length (filter (λ v. not (is_null v)) values)

-- what the values added so far are
abbrev pub totalled : Total → Value
totalled (AtMostOne v) = owned v
totalled (Several n) = value.Int n

-- a lone value's text is no longer than a value's text may be
abbrev pub IsShortTotal : Total → Type 0
IsShortTotal (AtMostOne v) = IsShort v
IsShortTotal (Several n) = Unit {0}

-- which of two values stays
abbrev pub kept_by : Extreme → Value → Value → Value
kept_by Least = lesser
kept_by Greatest = greater
