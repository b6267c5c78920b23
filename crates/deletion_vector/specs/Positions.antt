-- The positions that a vector holds.
use Rattle.std.specs.Prelude.{◌==◌, ℕ, Bool, List, length, All}
use Rattle.std.specs.List.{list_any}
use Rattle.std.specs.List.Sorted.{IsStrictlyIncreasing}
use Rattle.lake_values.specs.Spelling.{IsU64}

-- whether a position is among them
abbrev pub has : ℕ → List ℕ → Bool
has position positions = list_any (λ p. p == position) positions

-- strictly ascending numbers of 64 bits
pub record IsVector (positions : List ℕ) : Type 0 where
  pub ascending : IsStrictlyIncreasing positions
  pub wide : All IsU64 positions
  pub count : IsU64 (length positions)
