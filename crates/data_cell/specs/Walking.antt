-- Walking over positions.
use Rattle.std.specs.Prelude.{◌==◌, ℕ, List, [], ◌∷◌, Option, Some, None, if◌then◌else◌}

-- the positions behind this one, where it is the first of them
abbrev pub behind : ℕ → List ℕ → Option (List ℕ)
behind position [] = None
behind position (x ∷ xs) = if x == position then Some xs else None
