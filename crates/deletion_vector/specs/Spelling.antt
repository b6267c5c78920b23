-- How a vector is spelled, and how it is read.
use Rattle.std.specs.Prelude.{◌*◌, ◌++◌, ℕ, Bool, true, List, length, Option, Some, None, nat_lt, codes, replicate}
use Rattle.std.specs.List.{flat_map}
use Rattle.lake_values.specs.declared.faults.BadKind.TheVariants.{NotCanonical}
use Rattle.lake_values.specs.Spelling.{u64_spelling}
use Rattle.lake_values.specs.Reading.{Reader, ◌>>=◌, checked, magic_at, u64_at, array_at}

-- the magic, the number of positions, and these
abbrev pub vector_spelling : List ℕ → List ℕ
vector_spelling positions = codes "LDV1" ++ u64_spelling (length positions) ++ flat_map u64_spelling positions

-- a position stands above the one before it
abbrev pub is_above : Option ℕ → ℕ → Bool
is_above None position = true
is_above (Some before) position = nat_lt before position

abbrev pub position_at : Option ℕ → Unit {0} → Reader ℕ
position_at before place = checked (is_above before) NotCanonical u64_at

abbrev pub positions_at : ℕ → Reader (List ℕ)
positions_at count = array_at (count * 8) position_at (replicate count tt)

unfoldable pub vector_at : Reader (List ℕ)
vector_at at bytes = do
  magic ← magic_at (codes "LDV1") at bytes
  count ← u64_at magic.1 magic.2
  positions_at count.0 count.1 count.2
