-- First committer wins: the commit with which a transaction conflicts.
use Rattle.std.specs.Prelude.{ℕ, ◌+◌, ◌-◌, Bool, List, Option, find}
use Rattle.sql_model.specs.Listing.{numbers}
use Rattle.lake_model.specs.State.{State, last, version_at}
use Rattle.sql_model.specs.Units.{ConflictUnit, share_unit}
use Rattle.sql_model.specs.Versions.{wrote}

-- the numbers of the commits after a snapshot, ascending
abbrev pub commits_after : State → ℕ → List ℕ
commits_after st snapshot = numbers (snapshot + 1) (last st - snapshot)

-- the commit wrote one of the units
abbrev pub wrote_one : State → List ConflictUnit → ℕ → Bool
wrote_one st units n = share_unit units (wrote (version_at st n))

-- the least commit after the snapshot that wrote one of the units
abbrev pub first_conflict : State → ℕ → List ConflictUnit → Option ℕ
first_conflict st snapshot units = find (wrote_one st units) (commits_after st snapshot)
