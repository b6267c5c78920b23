-- What a collector needs of a catalogue: that it stands for the chronicle as far as names go, and
-- how it goes on.
use Rattle.std.specs.Prelude.{◌≡◌, ℕ, ◌≤◌, true, List, [], ◌∷◌, ◌++◌, map, slice_get, unwrap_or}
use Rattle.std.specs.Prelude.{IfSome}
use Rattle.std.specs.List.{AllByRecursion}
use Rattle.lake_values.specs.declared.names.Name.{Name}
use Rattle.lake_model.specs.declared.entries.Fact.{Fact}
use Rattle.lake_model.specs.declared.entries.Fact.TheVariants.{Checkpointed, Created, Began, Ran}
use Rattle.lake_model.specs.declared.entries.Fact.TheVariants.{Committed, Conflict, Ended}
use Rattle.lake_model.specs.declared.entries.Fact.TheVariants.{RolledBack, Refused, Failed}
use Rattle.lake_model.specs.declared.entries.Fact.TheVariants.{Compacted, Collected}
use Rattle.sql_model.specs.Listing.{IsOneOf}
use Rattle.lake_values.specs.Names.{is_among}
use Rattle.lake_model.specs.State.{State, Check, Transaction, last}
use Rattle.file_laws.specs.Catalogues.{Catalogue, has_name, is_running}
use Rattle.write_set_catalog.specs.Names.{NamesRow}
use Rattle.write_set_catalog.specs.declared.running.RunningTxn.{RunningTxn}

-- the checkpoint that a fact notes
abbrev pub checks_of : State → Fact → List Check
checks_of st (Created table schema seq) = []
checks_of st (Began explicit txn snapshot) = []
checks_of st (Ran reply change) = []
checks_of st (Committed seq added dropped) = []
checks_of st (Conflict seq) = []
checks_of st Ended = []
checks_of st RolledBack = []
checks_of st (Refused cause) = []
checks_of st (Failed cause) = []
checks_of st (Compacted table cells marks seq added dropped) = []
checks_of st (Checkpointed table at name) =
    record { table = table; at = at; begun = st.last_number; name = name } ∷ []
checks_of st (Collected names floor) = []

-- the names of a version
abbrev pub names_at : State → ℕ → List Name
names_at st version = unwrap_or (slice_get st.names version) []

-- a session's open transaction, as a catalogue has it
abbrev pub open_of : ℕ × Transaction → RunningTxn
open_of o = record { number = o.1.number; snapshot = o.1.snapshot }

-- the catalogue says what the state is, and each version from the floor on has by it
-- the names that it has
pub record StandsNames (st : State) (k : Catalogue) : Type 0 where
  pub names :
      (version : ℕ) (name : Name) → k.floor ≤ version → version ≤ k.last
      → has_name k version name ≡ is_among name (names_at st version)
  pub running : k.running ≡ map open_of st.running
  pub last_number : k.last_number ≡ st.last_number
  pub last : k.last ≡ last st
  pub floor : k.floor ≡ st.floor
  pub checks : AllByRecursion (IsOneOf st.checks) k.checks

-- One catalogue has more than the other the checkpoint that a fact notes, and rows, whose manifests
-- are of open transactions.
pub record Gains (st : State) (f : Fact) (k k' : Catalogue) : Type 0 where
  pub more : List NamesRow
  pub rows : k'.rows ≡ k.rows ++ more
  pub own : AllByRecursion (λ r. IfSome r.manifest (λ m. is_running k m.txn ≡ true)) more
  pub checks : k'.checks ≡ k.checks ++ checks_of st f
