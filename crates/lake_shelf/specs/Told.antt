-- What the ports of a shelf tell.
use Rattle.std.specs.Prelude.{◌≡◌, List, Result, Ok, Err}
use Rattle.lake_values.specs.declared.names.Name.{Name}
use Rattle.lake_outside.specs.declared.errors.PortError.{PortError}
use Rattle.lake_outside.specs.declared.errors.PortError.TheVariants.{Failed, NoMemory}
use Rattle.lake_outside.specs.Counts.{Calls, with_passed, with_failed}

-- what a port listed, and what it was asked to delete, one after another
pub record Told : Type 0 where
  pub listings : List (List Name)
  pub deletions : List Name

-- that, and the calls of a port some of which fail
pub record CountedTold : Type 0 where
  pub calls : Calls
  pub told : Told

-- a call is counted, and one that failed as failed; but not one that found no memory
abbrev pub IsCounted : {T : Type 0} → Result T PortError → Calls → Calls → Type 0
IsCounted (Ok answer) old new = new ≡ with_passed old
IsCounted (Err Failed) old new = new ≡ with_failed old
IsCounted (Err NoMemory) old new = new ≡ old
