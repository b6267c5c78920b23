-- The rows of a cell that are left.
use Rattle.std.specs.Prelude.{◌≡◌, ◌<◌, ◌≤◌, ℕ, Bool, false, not, List, All, length, map, filter}
use Rattle.std.specs.List.{enumerate_from}
use Rattle.lake_values.specs.declared.values.Value.{Value}
use Rattle.row_packet.specs.Packets.{HaveWidth}
use Rattle.deletion_vector.specs.Positions.{has}

-- the rows of a file, how many values each of them has, and the positions of those that are gone
pub record CellRows : Type 0 where
  pub width : ℕ
  pub rows : List (List Value)
  pub gone : List ℕ

-- each row has the width, and each position that is gone is that of a row
pub record IsCell (width : ℕ) (rows : List (List Value)) (gone : List ℕ) : Type 0 where
  pub widths : HaveWidth width rows
  pub positions : All (λ position. position < length rows) gone

-- whether the row at a position is left
abbrev pub is_live : List ℕ → ℕ → Bool
is_live gone position = not (has position gone)

-- the rows that are left, in their order
abbrev pub live_rows : List ℕ → List (List Value) → List (List Value)
live_rows gone rows = map (λ r. r.1) (filter (λ r. is_live gone r.0) (enumerate_from 0 rows))

-- no row is left at a position from the first on and below the second
abbrev pub NoneLive : List ℕ → ℕ → ℕ → Type 0
NoneLive gone from below = (position : ℕ) → from ≤ position → position < below → is_live gone position ≡ false
