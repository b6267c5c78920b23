-- What a column file holds, and how it is spelled.
use Rattle.std.specs.Prelude.{◌≡◌, ◌≤◌, ◌+◌, ◌++◌, ◌∷◌, [], ℕ, Bool, true, false, List, length, map, codes, slice_index_or, if◌then◌else◌, FitsSigned}
use Rattle.std.specs.Int.{w64}
use Rattle.std.specs.List.{flat_map, AllByRecursion}
use Rattle.lake_values.specs.declared.schemas.ColType.{ColType}
use Rattle.lake_values.specs.declared.schemas.ColType.TheVariants as kinds
use Rattle.lake_values.specs.declared.values.Value.{Value}
use Rattle.lake_values.specs.declared.values.Value.TheVariants.{Null, Int, Text}
use Rattle.lake_values.specs.Order.{number_of, bytes_of}
use Rattle.lake_values.specs.Schemas.{TableColumns}
use Rattle.lake_values.specs.Spelling.{u32_spelling, u64_spelling, int_spelling, IsU64, IsText}
use Rattle.column_file.specs.declared.decode.Decoded.{Decoded}

-- the kind of a column, and its values row by row
abbrev pub Column : Type 0
Column = ColType × List Value

abbrev pub column : ℕ → List (List Value) → List Value
column i rows = map (λ row. slice_index_or row i Null) rows

-- the columns of these kinds, the first of them the i-th of the rows
abbrev pub columns_from : ℕ → List ColType → List (List Value) → List Column
columns_from i [] rows = []
columns_from i (kind ∷ kinds) rows = (kind, column i rows) ∷ columns_from (i + 1) kinds rows

abbrev pub columns_of : Decoded → List Column
columns_of file = columns_from 0 file.kinds file.rows

-- a NULL is flagged

abbrev pub is_null : Value → Bool
is_null Null = true
is_null (Int n) = false
is_null (Text t) = false

abbrev pub flag_byte : Bool → ℕ
flag_byte null = if null then 1 else 0

abbrev pub flags_spelling : List Bool → List ℕ
flags_spelling flags = map flag_byte flags

-- the 8 bytes of a number, all 0 for NULL
abbrev pub number_spelling : Value → List ℕ
number_spelling v = int_spelling (number_of v)

-- for each value the number of text bytes up to and with it, behind those before the first
abbrev pub ends_from : ℕ → List Value → List ℕ
ends_from before [] = []
ends_from before (v ∷ vs) = (before + length (bytes_of v)) ∷ ends_from (before + length (bytes_of v)) vs

abbrev pub kind_byte : ColType → ℕ
kind_byte kinds.Int = 1
kind_byte kinds.Text = 2

-- numbers stand as they are, texts as their ends and then their bytes
abbrev pub values_spelling : ColType → List Value → List ℕ
values_spelling kinds.Int values = flat_map number_spelling values
values_spelling kinds.Text values = flat_map u64_spelling (ends_from 0 values) ++ flat_map bytes_of values

-- the byte of its kind, the flags, and the values
abbrev pub column_spelling : Column → List ℕ
column_spelling c = (kind_byte c.0 ∷ []) ++ flags_spelling (map is_null c.1) ++ values_spelling c.0 c.1

-- the magic, the numbers of columns and rows, and the columns
abbrev pub file_spelling : Decoded → List ℕ
file_spelling file = codes "LCF1" ++ u32_spelling (length file.kinds) ++ u64_spelling (length file.rows) ++ flat_map column_spelling (columns_of file)

-- the kinds of a table's columns
abbrev pub kinds_of : TableColumns → List ColType
kinds_of schema = map (λ c. c.kind) schema.columns

-- the spelling of rows as a file with these columns
abbrev pub spelling_of : TableColumns → List (List Value) → List ℕ
spelling_of schema rows = file_spelling (record { kinds = kinds_of schema; rows = rows })

-- NULL, or a value of the kind
abbrev pub HasKind : ColType → Value → Type 0
HasKind kind Null = Unit {0}
HasKind kind (Int n) = kind ≡ kinds.Int
HasKind kind (Text t) = kind ≡ kinds.Text

-- a value for each column, NULL or of its kind
abbrev pub FitsKinds : List ColType → List Value → Type 0
FitsKinds [] [] = Unit {0}
FitsKinds [] (v ∷ row) = ⊥
FitsKinds (kind ∷ kinds) [] = ⊥
FitsKinds (kind ∷ kinds) (v ∷ row) = HasKind kind v × FitsKinds kinds row

-- What has a spelling: columns whose values are those of the types, with texts whose ends are numbers of 64 bits.

abbrev pub IsCell : ColType → Value → Type 0
IsCell kind Null = Unit {0}
IsCell kind (Int n) = (kind ≡ kinds.Int) × FitsSigned w64 n
IsCell kind (Text t) = (kind ≡ kinds.Text) × IsText t

pub record IsColumn (c : Column) : Type 0 where
  pub cells : AllByRecursion (IsCell c.0) c.1
  pub texts : IsU64 (length (flat_map bytes_of c.1))

pub record IsFile (file : Decoded) : Type 0 where
  pub some : 1 ≤ length file.kinds
  pub at_most : length file.kinds ≤ 64
  pub count : IsU64 (length file.rows)
  pub widths : AllByRecursion (λ row. length row ≡ length file.kinds) file.rows
  pub columns : AllByRecursion IsColumn (columns_of file)
