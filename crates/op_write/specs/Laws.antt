-- Laws of what attempts write.
use Rattle.std.specs.Prelude.{◌≡◌, ℕ, Bool, ◌&&◌, not, List, filter, length}
use Rattle.std.specs.List.{AllByRecursion, enumerate_from}
use Rattle.lake_values.specs.declared.values.Value.{Value}
use Rattle.data_cell.specs.Live.{live_rows}
use Rattle.deletion_vector.specs.Positions.{has}
use Rattle.op_write.specs.declared.keys.WriteKey.{WriteKey}
use Rattle.op_write.specs.Staging.{sealed, staged, written}
use Rattle.op_write.specs.Writes.{Output, gone_with}

-- What is staged and then sealed is what the attempt writes: the blocks of a blob are all of its
-- bytes.
abbrev pub SealsWhatIsStaged : Type 0
SealsWhatIsStaged = (key : WriteKey) (o : Output) → sealed (staged key o) ≡ written key o

-- the new positions are those of the rows that match among those that are left, which have these
-- positions
abbrev pub AreMatches : (List Value → Bool) → List ℕ → List ℕ → List (List Value) → Type 0
AreMatches matches before gone rows =
    AllByRecursion (λ r. has r.0 gone ≡ (not (has r.0 before) && matches r.1))
    (enumerate_from 0 rows)

-- A merged vector, which is the union of the old one and the new positions, leaves just the rows
-- that don't match.
abbrev pub VectorLeavesTheRest : Type 0
VectorLeavesTheRest =
    (matches : List Value → Bool) (before gone : List ℕ) (rows : List (List Value))
    → AreMatches matches before gone rows
    → live_rows (gone_with (length rows) before gone) rows
    ≡ filter (λ row. not (matches row)) (live_rows before rows)
