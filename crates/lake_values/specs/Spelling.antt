-- How values are spelled in bytes. Numbers stand with their highest byte first, and each value has one spelling.
use Rattle.std.specs.Prelude.{◌≡◌, ◌<◌, ◌≤◌, ◌^◌, ℕ, ℤ, List, [], ◌∷◌, ◌++◌, length, IsTrue, FitsSigned}
use Rattle.std.specs.Int.{w32, w64, to_be_bytes, cast_unsigned}
use Rattle.std.specs.Str.{is_utf8}
use Rattle.lake_values.specs.declared.names.Kind.{Kind}
use Rattle.lake_values.specs.declared.names.Kind.TheVariants.{File, Vector, Manifest, Checkpoint}
use Rattle.lake_values.specs.declared.names.Name.{Name}
use Rattle.lake_values.specs.declared.values.Value.{Value}
use Rattle.lake_values.specs.declared.values.Value.TheVariants.{Null, Int, Text}

unfoldable pub u32_spelling : ℕ → List ℕ
u32_spelling n = to_be_bytes w32 n

unfoldable pub u64_spelling : ℕ → List ℕ
u64_spelling n = to_be_bytes w64 n

-- two's complement
abbrev pub int_spelling : ℤ → List ℕ
int_spelling n = u64_spelling (cast_unsigned w64 n)

-- the number of its bytes, and these
abbrev pub text_spelling : List ℕ → List ℕ
text_spelling text = u32_spelling (length text) ++ text

-- 0 for NULL; 1 and the number; 2 and the text
abbrev pub value_spelling : Value → List ℕ
value_spelling Null = 0 ∷ []
value_spelling (Int n) = 1 ∷ int_spelling n
value_spelling (Text t) = 2 ∷ text_spelling t

abbrev pub kind_byte : Kind → ℕ
kind_byte File = 1
kind_byte Vector = 2
kind_byte Manifest = 3
kind_byte Checkpoint = 4

-- the byte of its kind, and its four numbers
abbrev pub name_spelling : Name → List ℕ
name_spelling n = (kind_byte n.kind ∷ []) ++ u64_spelling n.txn ++ u32_spelling n.part ++ u32_spelling n.task ++ u32_spelling n.attempt

-- What has a spelling: the numbers, texts, values and names that the types hold.

abbrev pub IsU32 : ℕ → Type 0
IsU32 n = n < 2 ^ 32

abbrev pub IsU64 : ℕ → Type 0
IsU64 n = n < 2 ^ 64

pub record IsText (text : List ℕ) : Type 0 where
  pub short : length text ≤ 4096
  pub utf8 : IsTrue (is_utf8 text)

abbrev pub IsValue : Value → Type 0
IsValue Null = Unit {0}
IsValue (Int n) = FitsSigned w64 n
IsValue (Text t) = IsText t

pub record IsName (kind : Kind) (n : Name) : Type 0 where
  pub kind_is : n.kind ≡ kind
  pub txn : IsU64 n.txn
  pub part : IsU32 n.part
  pub task : IsU32 n.task
  pub attempt : IsU32 n.attempt

-- No spelling begins another, so what was written is read again, whatever follows it.
abbrev pub NoneBegins : {X : Type 0} → (X → Type 0) → (X → List ℕ) → Type 0
NoneBegins {X} Fits spelling = (x y : X) (a b : List ℕ) → Fits x → Fits y → spelling x ++ a ≡ spelling y ++ b → (x ≡ y) × (a ≡ b)
