-- What is known of a value that is lent: where it stands, and what it was seen as.
use Rattle.std.specs.Prelude.{◌≡◌, ℕ, ◌+◌, true, List, Some, length, slice_get}
use Rattle.lake_values.specs.Lending.{owned, IsShort}
use Rattle.lake_values.specs.declared.values.Value.{Value}
use Rattle.sql_model.specs.Evaluation.{Look}
use Rattle.row_evaluation.specs.declared.evaluation.Seen.{Seen}
use Rattle.row_evaluation.specs.declared.cells.Lookup.{Lookup}
use Rattle.row_evaluation.specs.declared.cells.Lookup.TheVariants.{At, Behind}

-- what was seen is what the expression is, and it fits
pub record IsSeen (seen : Seen) (l : Look) : Type 0 where
  pub value : owned seen.value ≡ l.value
  pub short : IsShort seen.value
  pub truth : seen.truth ≡ l.truth
  pub fits : l.fits ≡ true

-- what stands at a place of a row, or how far behind the row the place is
abbrev pub IsLookup : List Value → ℕ → Lookup → Type 0
IsLookup row place (At v) = (slice_get row place ≡ Some (owned v)) × IsShort v
IsLookup row place (Behind rest) = place ≡ length row + rest
