-- The text of values and rows.
use Rattle.std.specs.Prelude.{◌==◌, ℕ, List, [], ◌∷◌, ◌++◌, map, if◌then◌else◌, codes}
use Rattle.std.specs.List.{flat_map, join_with_byte}
use Rattle.std.specs.Fmt.{signed_decimal}
use Rattle.lake_values.specs.declared.values.Value.{Value}
use Rattle.lake_values.specs.declared.values.Value.TheVariants.{Null, Int, Text}

-- a byte of a printed text, a quote (39) doubled
abbrev pub quoted_byte : ℕ → List ℕ
quoted_byte b = if b == 39 then 39 ∷ 39 ∷ [] else b ∷ []

-- a text between quotes, with each quote inside doubled
abbrev pub quoted : List ℕ → List ℕ
quoted bytes = codes "'" ++ flat_map quoted_byte bytes ++ codes "'"

-- NULL, a number in decimal, or a quoted text
abbrev pub value_text : Value → List ℕ
value_text Null = codes "NULL"
value_text (Int n) = signed_decimal n
value_text (Text t) = quoted t

-- a value behind another, with the comma (44) between them
abbrev pub later_value_text : Value → List ℕ
later_value_text v = 44 ∷ value_text v

-- the values of a row between parentheses, separated by commas (44)
abbrev pub text_of_row : List Value → List ℕ
text_of_row row = codes "(" ++ join_with_byte 44 (map value_text row) ++ codes ")"
