-- Reading bytes from a place on. A reader answers a value, the place behind it and the bytes from there on,
-- or the first field that no value has after the fields before it.
use Rattle.std.specs.Prelude.{◌≡◌, ◌==◌, ◌+◌, ◌≤◌, ℕ, Bool, List, [], ◌∷◌, ◌++◌, length, take, drop, slice_index, Option, Some, None, Result, Ok, Err, nat_lt, nat_le, nat_eq, replicate, if◌then◌else◌}
use Rattle.std.specs.Int.{Width, w32, w64, byte_len, from_be_bytes, cast_signed}
use Rattle.std.specs.Cmp.Lexicographic.{pointwise}
use Rattle.std.specs.Str.{is_utf8}
use Rattle.lake_values.specs.declared.faults.Bad.{Bad}
use Rattle.lake_values.specs.declared.faults.BadKind.{BadKind}
use Rattle.lake_values.specs.declared.faults.BadKind.TheVariants.{Short, BadTag, BadUtf8, Trailing, NotCanonical}
use Rattle.lake_values.specs.declared.faults.DecodeFault.{DecodeFault}
use Rattle.lake_values.specs.declared.faults.DecodeFault.TheVariants as faults
use Rattle.lake_values.specs.declared.names.Kind.{Kind}
use Rattle.lake_values.specs.declared.names.Name.{Name}
use Rattle.lake_values.specs.declared.values.Value.{Value}
use Rattle.lake_values.specs.declared.values.Value.TheVariants.{Null, Int, Text}
use Rattle.lake_values.specs.Spelling.{kind_byte}

abbrev pub Reader : Type 0 → Type 0
Reader X = ℕ → List ℕ → Result (X × ℕ × List ℕ) Bad

abbrev pub bad : ℕ → BadKind → Bad
bad at kind = record { place = at; kind = kind }

-- the place and kind of the first bad field
abbrev pub IsFirstBad : {X : Type 0} → Result X Bad → Bad → Type 0
IsFirstBad read b = read ≡ Err b

infixl 10 ◌>>=◌
abbrev pub ◌>>=◌ : {A B : Type 0} → Result A Bad → (A → Result B Bad) → Result B Bad
(Ok x) >>= f = f x
(Err b) >>= f = Err b

-- so many bytes are left
unfoldable pub room_at : ℕ → ℕ → List ℕ → Result (Unit {0}) Bad
room_at size at bytes = if nat_lt (length bytes) size then Err (bad at Short) else Ok tt

-- a field of so many bytes
unfoldable pub bytes_at : ℕ → Reader (List ℕ)
bytes_at size at bytes = do
  room ← room_at size at bytes
  Ok (take size bytes, at + size, drop size bytes)

-- what is read is a value only where it passes the test, and else the field is bad in this way
abbrev pub checked : {X : Type 0} → (X → Bool) → BadKind → Reader X → Reader X
checked test kind read at bytes = do
  x ← read at bytes
  if test x.0 then Ok x else Err (bad at kind)

unfoldable pub byte_at : Reader ℕ
byte_at at bytes = do
  field ← bytes_at 1 at bytes
  Ok (slice_index field.0 0, field.1, field.2)

abbrev pub number_at : Width → Reader ℕ
number_at w at bytes = do
  field ← bytes_at (byte_len w) at bytes
  Ok (from_be_bytes w field.0, field.1, field.2)

unfoldable pub u32_at : Reader ℕ
u32_at = number_at w32

unfoldable pub u64_at : Reader ℕ
u64_at = number_at w64

-- these bytes, by which a format begins
abbrev pub magic_at : List ℕ → Reader (List ℕ)
magic_at magic = checked (λ field. pointwise nat_eq field magic) BadTag (bytes_at (length magic))

-- so many bytes of UTF-8
abbrev pub utf8_at : ℕ → Reader (List ℕ)
utf8_at size = checked is_utf8 BadUtf8 (bytes_at size)

-- the number of its bytes, at most 4,096, and these
unfoldable pub text_at : Reader (List ℕ)
text_at at bytes = do
  size ← checked (λ n. nat_le n 4096) NotCanonical u32_at at bytes
  utf8_at size.0 size.1 size.2

-- a value by its tag
abbrev pub value_behind : ℕ → Reader Value
value_behind tag at bytes =
    if tag == 0 then Ok (Null, at, bytes) else
    if tag == 1 then (u64_at at bytes >>= λ n. Ok (Int (cast_signed w64 n.0), n.1, n.2)) else
    (text_at at bytes >>= λ t. Ok (Text t.0, t.1, t.2))

unfoldable pub value_at : Reader Value
value_at at bytes = do
  tag ← checked (λ b. nat_le b 2) BadTag byte_at at bytes
  value_behind tag.0 tag.1 tag.2

-- a name of this kind
unfoldable pub name_at : Kind → Reader Name
name_at kind at bytes = do
  tag ← checked (λ b. b == kind_byte kind) BadTag byte_at at bytes
  txn ← u64_at tag.1 tag.2
  part ← u32_at txn.1 txn.2
  task ← u32_at part.1 part.2
  attempt ← u32_at task.1 task.2
  Ok (record { kind = kind; txn = txn.0; part = part.0; task = task.0; attempt = attempt.0 }, attempt.1, attempt.2)

-- the end of the bytes
abbrev pub end_at : ℕ → List ℕ → Result (Unit {0}) Bad
end_at at bytes = if length bytes == 0 then Ok tt else Err (bad at Trailing)

-- all of the bytes
abbrev pub whole : {X : Type 0} → Reader X → List ℕ → Result X Bad
whole read bytes = do
  x ← read 0 bytes
  end ← end_at x.1 x.2
  Ok x.0

-- Elements one after the other, one for each member of a list. What an element may be depends on its member
-- and on the element before it, if there is one.
abbrev pub each_at : {C X : Type 0} → (Option X → C → Reader X) → Option X → List C → Reader (List X)
each_at element before [] at bytes = Ok ([], at, bytes)
each_at element before (c ∷ cs) at bytes = do
  first ← element before c at bytes
  others ← each_at element (Some first.0) cs first.1 first.2
  Ok (first.0 ∷ others.0, others.1, others.2)

-- so many elements that are read alike
abbrev pub repeated_at : {X : Type 0} → ℕ → Reader X → Reader (List X)
repeated_at count read = each_at (λ before place. read) None (replicate count (tt {0}))

-- An array: it is first one field of so many bytes, and then its elements are judged in order, each at its own place.
abbrev pub array_at : {C X : Type 0} → ℕ → (Option X → C → Reader X) → List C → Reader (List X)
array_at size element cs at bytes = do
  room ← room_at size at bytes
  each_at element None cs at bytes

-- What a call answers, seen by view, is what reading gives.
abbrev pub Tells : {X Y : Type 0} → (X → Y) → Result X Bad → Result Y Bad → Type 0
Tells view (Ok x) read = read ≡ Ok (view x)
Tells view (Err b) read = IsFirstBad read b

-- The same, unless memory ran out.
abbrev pub Fails : {Y : Type 0} → DecodeFault → Result Y Bad → Type 0
Fails faults.NoMemory read = Unit {0}
Fails (faults.Bad b) read = IsFirstBad read b

abbrev pub Gives : {X Y : Type 0} → (X → Y) → Result X DecodeFault → Result Y Bad → Type 0
Gives view (Ok x) read = read ≡ Ok (view x)
Gives view (Err e) read = Fails e read

-- a value and the place behind it, with the bytes from there on
abbrev pub with_rest : {X : Type 0} → List ℕ → X × ℕ → X × ℕ × List ℕ
with_rest bytes x = (x.0, x.1, drop x.1 bytes)

-- A value stands spelled at a place of the bytes, and the other place is the one behind it.
pub record StandsAt {X : Type 0} (spelling : X → List ℕ) (x : X) (bytes : List ℕ) (at behind : ℕ) : Type 0 where
  pub spelled : drop at bytes ≡ spelling x ++ drop behind bytes
  pub behind_it : behind ≡ at + length (spelling x)
  pub within : behind ≤ length bytes
