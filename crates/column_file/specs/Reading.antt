-- How a column file is read.
use Rattle.std.specs.Prelude.{◌==◌, ◌+◌, ◌-◌, ◌*◌, ◌&&◌, ◌||◌, ◌∷◌, [], ℕ, Bool, not, List, length, map, Option, Ok, nat_lt, nat_le, codes, replicate, unwrap_or, slice_get, if◌then◌else◌}
use Rattle.std.specs.Int.{w64, cast_signed}
use Rattle.lake_values.specs.declared.faults.BadKind.TheVariants.{BadTag, NotCanonical}
use Rattle.lake_values.specs.declared.schemas.ColType.{ColType}
use Rattle.lake_values.specs.declared.schemas.ColType.TheVariants as kinds
use Rattle.lake_values.specs.declared.values.Value.{Value}
use Rattle.lake_values.specs.declared.values.Value.TheVariants.{Null, Int, Text}
use Rattle.lake_values.specs.Reading.{Reader, ◌>>=◌, checked, byte_at, u32_at, u64_at, utf8_at, magic_at, repeated_at, array_at}
use Rattle.column_file.specs.declared.decode.Decoded.{Decoded}
use Rattle.column_file.specs.Spelling.{Column}

-- the byte 1 of INT, or the byte 2 of TEXT
unfoldable pub kind_at : Reader ColType
kind_at at bytes = do
  byte ← checked (λ b. (b == 1) || (b == 2)) BadTag byte_at at bytes
  Ok (if byte.0 == 1 then kinds.Int else kinds.Text, byte.1, byte.2)

-- the flag 0 of a value, or the flag 1 of NULL
unfoldable pub flag_at : Reader Bool
flag_at at bytes = do
  byte ← checked (λ b. nat_lt b 2) BadTag byte_at at bytes
  Ok (byte.0 == 1, byte.1, byte.2)

abbrev pub flags_at : ℕ → Reader (List Bool)
flags_at rows = array_at rows (λ before place. flag_at) (replicate rows (tt {0}))

-- a number, which is 0 behind the flag of NULL
unfoldable pub number_cell_at : Bool → Reader Value
number_cell_at null at bytes = do
  bits ← checked (λ n. not null || (n == 0)) NotCanonical u64_at at bytes
  Ok (if null then Null else Int (cast_signed w64 bits.0), bits.1, bits.2)

abbrev pub numbers_at : List Bool → Reader (List Value)
numbers_at flags = array_at (length flags * 8) (λ before null. number_cell_at null) flags

-- an end stands not below the one before it, at it where the value is NULL, and at most 4,096 above it
abbrev pub is_end : ℕ → Bool → ℕ → Bool
is_end before null end = if null then end == before else (nat_le before end && nat_le end (before + 4096))

abbrev pub text_end_at : Option ℕ → Bool → Reader ℕ
text_end_at before null = checked (is_end (unwrap_or before 0) null) NotCanonical u64_at

abbrev pub ends_at : List Bool → Reader (List ℕ)
ends_at flags = array_at (length flags * 8) text_end_at flags

-- the last end, or 0 where there is none
abbrev pub last_of : List ℕ → ℕ
last_of ends = unwrap_or (slice_get ends (length ends - 1)) 0

-- the flag and the number of bytes of each value, by the ends
abbrev pub pieces_from : ℕ → List Bool → List ℕ → List (Bool × ℕ)
pieces_from before [] ends = []
pieces_from before (null ∷ flags) [] = []
pieces_from before (null ∷ flags) (end ∷ ends) = (null, end - before) ∷ pieces_from end flags ends

unfoldable pub piece_at : Bool × ℕ → Reader Value
piece_at piece at bytes =
    if piece.0 then Ok (Null, at, bytes) else (utf8_at piece.1 at bytes >>= λ text. Ok (Text text.0, text.1, text.2))

abbrev pub pieces_at : List Bool → List ℕ → Reader (List Value)
pieces_at flags ends = array_at (last_of ends) (λ before piece. piece_at piece) (pieces_from 0 flags ends)

unfoldable pub values_at : ColType → List Bool → Reader (List Value)
values_at kinds.Int flags at bytes = numbers_at flags at bytes
values_at kinds.Text flags at bytes = do
  ends ← ends_at flags at bytes
  pieces_at flags ends.0 ends.1 ends.2

-- a column of so many rows
unfoldable pub column_at : ℕ → Reader Column
column_at rows at bytes = do
  kind ← kind_at at bytes
  flags ← flags_at rows kind.1 kind.2
  values ← values_at kind.0 flags.0 flags.1 flags.2
  Ok ((kind.0, values.0), values.1, values.2)

-- each of the values in front of a row
abbrev pub in_front : List Value → List (List Value) → List (List Value)
in_front [] rows = []
in_front (v ∷ values) [] = []
in_front (v ∷ values) (row ∷ rows) = (v ∷ row) ∷ in_front values rows

-- so many rows of these columns
abbrev pub rows_of : ℕ → List Column → List (List Value)
rows_of count [] = replicate count []
rows_of count (c ∷ columns) = in_front c.1 (rows_of count columns)

unfoldable pub file_at : Reader Decoded
file_at at bytes = do
  magic ← magic_at (codes "LCF1") at bytes
  count ← checked (λ n. nat_lt 0 n && nat_le n 64) NotCanonical u32_at magic.1 magic.2
  rows ← u64_at count.1 count.2
  columns ← repeated_at count.0 (column_at rows.0) rows.1 rows.2
  Ok (record { kinds = map (λ c. c.0) columns.0; rows = rows_of rows.0 columns.0 }, columns.1, columns.2)
