-- Where a place stands in the lines of a script.
use Rattle.std.specs.Prelude.{ℕ, ◌+◌, ◌==◌, Bool, List, take, min}
use Rattle.std.specs.List.{count_by, suffix_len}
use Rattle.sql_tokens.specs.declared.faults.BadToken.{BadToken}
use Rattle.sql_tokens.specs.declared.faults.ScriptBad.{ScriptBad}
use Rattle.sql_tokens.specs.Tokens.{is_in_line}

abbrev pub is_line_feed : ℕ → Bool
is_line_feed b = b == 10

-- the number, or the last one of 32 bits where it is beyond
abbrev pub in_32_bits : ℕ → ℕ
in_32_bits n = min n 4294967295

-- one more than the line feeds before the place
abbrev pub line_of : ℕ → List ℕ → ℕ
line_of place bytes = in_32_bits (1 + count_by is_line_feed (take place bytes))

-- one more than the bytes behind the last line feed before the place
abbrev pub column_of : ℕ → List ℕ → ℕ
column_of place bytes = in_32_bits (1 + suffix_len is_in_line (take place bytes))

abbrev pub bad_of : List ℕ → BadToken → ScriptBad
bad_of bytes bad = record { line = line_of bad.place bytes; column = column_of bad.place bytes; kind = bad.kind }
