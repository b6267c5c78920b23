-- What the tokens of spelled texts are.
use Rattle.std.specs.Prelude.{◌≡◌, ◌==◌, ℕ, Bool, false, List, ◌∷◌, ◌++◌, length}
use Rattle.std.specs.List.{flat_map}
use Rattle.lake_values.specs.Print.{quoted, quoted_byte}
use Rattle.sql_tokens.specs.declared.faults.ParseKind.TheVariants.{OpenText}
use Rattle.sql_tokens.specs.declared.fronts.Front.TheVariants.{Bad}
use Rattle.sql_tokens.specs.Tokens.{begins_with, closed_text, front}

abbrev pub is_quote : ℕ → Bool
is_quote b = b == 39

-- Bytes between quotes, with each quote inside doubled, are the text of these bytes where no quote follows.
abbrev pub ReadsClosedTexts : Type 0
ReadsClosedTexts = (value rest : List ℕ) → begins_with is_quote rest ≡ false → front (quoted value ++ rest) ≡ closed_text value (length (quoted value))

-- Without the quote at the end there is no text.
abbrev pub RefusesOpenTexts : Type 0
RefusesOpenTexts = (value : List ℕ) → front (39 ∷ flat_map quoted_byte value) ≡ Bad OpenText
