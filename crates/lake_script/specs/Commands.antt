-- The words that the program is called with.
use Rattle.std.specs.Prelude.{◌≡◌, ℕ, List, [], ◌∷◌, codes}

-- the words are a command that runs a script: `run` alone
abbrev pub IsCommand : List (List ℕ) → Type 0
IsCommand words = words ≡ codes "run" ∷ []

-- the words ask for a script to be read and not run: `check` alone
abbrev pub IsCheck : List (List ℕ) → Type 0
IsCheck words = words ≡ codes "check" ∷ []
