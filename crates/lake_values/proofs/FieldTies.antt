-- Each field is tied to its spelling.
use Rattle.std.proofs.Common.{◌≡◌, ℕ, zero, suc, ◌+◌, ◌^◌, ◌<◌, ◌≤◌, true, eqb, List, [], ◌∷◌, ◌++◌, length, take, drop, Ok, refl, sym, ap, subst, ◌∙◌, append_assoc, arith}
use Rattle.std.specs.Prelude.{nat_le, nat_eq, slice_index, FitsSigned, ℤ, pos, negsuc, ◌==◌}
use Rattle.lake_values.specs.declared.values.Value.{Value}
use Rattle.lake_values.specs.declared.values.Value.TheVariants.{Null, Int, Text}
use Rattle.lake_values.specs.declared.names.Kind.{Kind}
use Rattle.lake_values.specs.declared.names.Kind.TheVariants.{File, Vector, Manifest, Checkpoint}
use Rattle.lake_values.specs.declared.names.Name.{Name}
use Rattle.lake_values.specs.Order.{rank_of, number_of, bytes_of}
use Rattle.std.specs.Int.{Width, w32, w64, byte_len, from_be_bytes, to_be_bytes, cast_signed, cast_unsigned, bytes_high_first, byte_at as number_byte}
use Rattle.std.specs.Cmp.Lexicographic.{pointwise}
use Rattle.std.specs.Str.{is_utf8}
use Rattle.std.proofs.lemmas.Bool.{leb-true, le-leb, eq-eqb, eqb-true, and_parts, and_from}
use Rattle.std.proofs.lemmas.Int.{ints, to_z-of_z, of_z-to_z}
use Rattle.std.proofs.lemmas.List.{take_at, drop_at, take-append-drop, length-append, length-take, append-nil}
use Rattle.std.proofs.lemmas.Nat.{be_bytes_4, be_bytes_8, from_be_bytes-to_be_bytes_4, from_be_bytes-to_be_bytes_8}
use Rattle.lake_values.specs.declared.faults.BadKind.TheVariants.{BadUtf8, BadTag, NotCanonical}
use Rattle.lake_values.specs.Spelling.{u32_spelling, u64_spelling, int_spelling, text_spelling, value_spelling, name_spelling, kind_byte, IsU32, IsU64, IsText, IsValue, IsName}
use Rattle.lake_values.specs.Reading.{Reader, ◌>>=◌, bytes_at, byte_at, number_at, u32_at, u64_at, room_at, utf8_at, text_at, value_behind, value_at, name_at, magic_at}
use Rattle.lake_values.proofs.Ties.{IsBytes, IsBytes-take, IsBytes-drop, Takes, ok_is, bind_ok, room_ok, room_for, Ties, Ties-made, Ties-then, Ties-checked, Ties-as, Ties-map}

pub bytes_tie : (P : List ℕ → Type 0) → ((x : List ℕ) → IsBytes x → P x) → (size : ℕ) → Ties (λ x. (length x ≡ size) × P x) (λ x. x) (bytes_at size)
unfolding bytes_at
bytes_tie P fit size = record {
  found = λ at bytes y fits e.
      let a = bind_ok (room_at size at bytes) (λ _. Ok (take size bytes, at + size, drop size bytes)) y e in
      let long : size ≤ length bytes = room_ok size at bytes a.0 a.1 in
      let len : length (take size bytes) ≡ size = omega (arith, length-take size bytes) in
      subst (λ (z : List ℕ × ℕ × List ℕ). Takes at bytes z.0 z.1 z.2 × ((length z.0 ≡ size) × P z.0)) (ok_is (take size bytes, at + size, drop size bytes) y a.2) (
        record { parts = sym (take-append-drop size bytes); moved = ap (λ (n : ℕ). at + n) (sym len); rest_fits = IsBytes-drop size bytes fits },
        (len, fit (take size bytes) (IsBytes-take size bytes fits)),
      );
  only = λ at x rest fits.
      let long : size ≤ length (x ++ rest) = omega (arith, fits.0, length-append x rest) in
      rw (room_for size at (x ++ rest) long, take_at x rest size fits.0, drop_at x rest size fits.0, fits.0) refl;
}

one_byte : (a : List ℕ) → length a ≡ 1 → a ≡ slice_index a 0 ∷ []
one_byte [] e = absurd (omega (arith, e))
one_byte (x ∷ []) e = refl
one_byte (x ∷ y ∷ ys) e = absurd (omega (arith, e))

IsBytes-nil : IsBytes []
IsBytes-nil i = omega arith

IsBytes-cons : (b : ℕ) (bytes : List ℕ) → b < 256 → IsBytes bytes → IsBytes (b ∷ bytes)
IsBytes-cons b bytes lt fits zero = lt
IsBytes-cons b bytes lt fits (suc i) = fits i

pub byte_tie : Ties (λ b. b < 256) (λ b. b ∷ []) byte_at
unfolding byte_at
byte_tie =
    Ties-map (λ b. b < 256) (λ b. b ∷ []) (λ field. slice_index field 0) (bytes_tie IsBytes (λ x h. h) 1)
    (λ b h. (refl, IsBytes-cons b [] h IsBytes-nil))
    (λ a fits. (one_byte a fits.0, fits.1 0))
    (λ b h. refl)

-- the numbers below a limit, of this width
record IsWide (w : Width) (limit : ℕ) : Type 0 where
  len : (n : ℕ) → length (to_be_bytes w n) ≡ byte_len w
  bytes : (n : ℕ) → IsBytes (to_be_bytes w n)
  back : (field : List ℕ) → length field ≡ byte_len w → IsBytes field → field ≡ to_be_bytes w (from_be_bytes w field)
  again : (n : ℕ) → n < limit → from_be_bytes w (to_be_bytes w n) ≡ n
  below : (field : List ℕ) → IsBytes field → from_be_bytes w field < limit

number_tie : (w : Width) (limit : ℕ) → IsWide w limit → Ties (λ n. n < limit) (λ n. to_be_bytes w n) (number_at w)
number_tie w limit wide =
    Ties-map (λ n. n < limit) (λ n. to_be_bytes w n) (λ field. from_be_bytes w field) (bytes_tie IsBytes (λ x h. h) (byte_len w))
    (λ n h. (wide.len n, wide.bytes n))
    (λ a fits. (wide.back a fits.0 fits.1, wide.below a fits.1))
    (λ n h. wide.again n h)

low_byte : (k n : ℕ) → number_byte k n < 256
low_byte zero n = omega arith
low_byte (suc k) n = omega arith

IsBytes-numbers : (k n : ℕ) → IsBytes (bytes_high_first k n)
IsBytes-numbers zero n = IsBytes-nil
IsBytes-numbers (suc k) n = IsBytes-cons (number_byte k n) (bytes_high_first k n) (low_byte k n) (IsBytes-numbers k n)

wide32 : IsWide w32 (2 ^ 32)
wide32 = record {
  len = λ n. refl;
  bytes = λ n. IsBytes-numbers 4 n;
  back = λ field len fits. sym (be_bytes_4 field _ len fits refl);
  again = λ n lt. from_be_bytes-to_be_bytes_4 n lt;
  below = λ field fits. omega (arith, fits 0, fits 1, fits 2, fits 3);
}

wide64 : IsWide w64 (2 ^ 64)
wide64 = record {
  len = λ n. refl;
  bytes = λ n. IsBytes-numbers 8 n;
  back = λ field len fits. sym (be_bytes_8 field _ len fits refl);
  again = λ n lt. from_be_bytes-to_be_bytes_8 n lt;
  below = λ field fits. omega (arith, fits 0, fits 1, fits 2, fits 3, fits 4, fits 5, fits 6, fits 7);
}

pub u32_tie : Ties IsU32 u32_spelling u32_at
unfolding u32_spelling u32_at
u32_tie = number_tie w32 (2 ^ 32) wide32

pub u64_tie : Ties IsU64 u64_spelling u64_at
unfolding u64_spelling u64_at
u64_tie = number_tie w64 (2 ^ 64) wide64

pub utf8_tie : (size : ℕ) → Ties (λ x. (is_utf8 x ≡ true) × (length x ≡ size)) (λ x. x) (utf8_at size)
utf8_tie size =
    Ties-as (λ x. (is_utf8 x ≡ true) × (length x ≡ size)) (λ x. x) (λ x h. refl) (λ x h. (h.0, h.1.0)) (λ x h. (h.0, (h.1, tt)))
    (Ties-checked is_utf8 BadUtf8 (bytes_tie (λ _. Unit {0}) (λ x h. tt) size))

pub text_tie : Ties IsText text_spelling text_at
unfolding text_at
text_tie =
    Ties-then IsText (λ t. t) (λ t. length t) (λ size. utf8_at size) (Ties-checked (λ n. nat_le n 4096) NotCanonical u32_tie)
    (λ t fits. (le-leb _ _ fits.short, omega (arith, fits.short)))
    (λ size fit. Ties-as (λ t. (size ≡ length t) × IsText t) (λ t. t) (λ t h. refl)
    (λ t h. (sym h.1, record { short = omega (arith, h.1, leb-true _ _ fit.0); utf8 = h.0 }))
    (λ t h. (h.1.utf8, sym h.0))
    (utf8_tie size))

-- a value behind its tag
body : Value → List ℕ
body Null = []
body (Int n) = int_spelling n
body (Text t) = text_spelling t

tagged : (v : Value) → (rank_of v ∷ []) ++ body v ≡ value_spelling v
unfolding body
tagged Null = refl
tagged (Int n) = refl
tagged (Text t) = refl

low_rank : (v : Value) → (nat_le (rank_of v) 2 ≡ true) × (rank_of v < 256)
low_rank Null = (refl, omega arith)
low_rank (Int n) = (refl, omega arith)
low_rank (Text t) = (refl, omega arith)

is_null : (v : Value) → 0 ≡ rank_of v → Null ≡ v
is_null Null e = refl
is_null (Int n) e = absurd cc
is_null (Text t) e = absurd cc

null_tie : Ties (λ v. (0 ≡ rank_of v) × IsValue v) body (value_behind 0)
unfolding body
null_tie =
    Ties-as (λ v. (0 ≡ rank_of v) × IsValue v) body
    (λ v e. ap body e) (λ v e. subst (λ (x : Value). (0 ≡ rank_of x) × IsValue x) e (refl, tt)) (λ v h. is_null v h.0)
    (Ties-made Null)

pub signed_back : (n : ℕ) → n < 2 ^ 64 → FitsSigned w64 (cast_signed w64 n)
signed_back n lt = search (arith, ints, lt)

pub signed_bits : (n : ℤ) → FitsSigned w64 n → cast_unsigned w64 n < 2 ^ 64
signed_bits (pos n) h = omega (arith, ints, h)
signed_bits (negsuc n) h = omega arith

int_fits : (v : Value) → (1 ≡ rank_of v) × IsValue v → cast_unsigned w64 (number_of v) < 2 ^ 64
int_fits Null h = absurd cc
int_fits (Int n) h = signed_bits n h.1
int_fits (Text t) h = absurd cc

int_back : (v : Value) → (1 ≡ rank_of v) × IsValue v → Int (cast_signed w64 (cast_unsigned w64 (number_of v))) ≡ v
int_back Null h = absurd cc
int_back (Int n) h = ap (λ (m : ℤ). Int m) (to_z-of_z w64 n h.1)
int_back (Text t) h = absurd cc

int_body : (v : Value) → (1 ≡ rank_of v) × IsValue v → u64_spelling (cast_unsigned w64 (number_of v)) ≡ body v
unfolding body
int_body Null h = absurd cc
int_body (Int n) h = refl
int_body (Text t) h = absurd cc

int_tie : Ties (λ v. (1 ≡ rank_of v) × IsValue v) body (value_behind 1)
int_tie =
    Ties-as (λ v. (1 ≡ rank_of v) × IsValue v) body int_body (λ v h. h) (λ v h. h)
    (Ties-map (λ v. (1 ≡ rank_of v) × IsValue v) (λ v. cast_unsigned w64 (number_of v)) (λ n. Int (cast_signed w64 n)) u64_tie
    int_fits (λ n lt. (sym (of_z-to_z w64 n lt), (refl, signed_back n lt))) int_back)

text_fits : (v : Value) → (2 ≡ rank_of v) × IsValue v → IsText (bytes_of v)
text_fits Null h = absurd cc
text_fits (Int n) h = absurd cc
text_fits (Text t) h = h.1

text_back : (v : Value) → (2 ≡ rank_of v) × IsValue v → Text (bytes_of v) ≡ v
text_back Null h = absurd cc
text_back (Int n) h = absurd cc
text_back (Text t) h = refl

text_body : (v : Value) → (2 ≡ rank_of v) × IsValue v → text_spelling (bytes_of v) ≡ body v
unfolding body
text_body Null h = absurd cc
text_body (Int n) h = absurd cc
text_body (Text t) h = refl

behind_text : Ties (λ v. (2 ≡ rank_of v) × IsValue v) body (value_behind 2)
behind_text =
    Ties-as (λ v. (2 ≡ rank_of v) × IsValue v) body text_body (λ v h. h) (λ v h. h)
    (Ties-map (λ v. (2 ≡ rank_of v) × IsValue v) bytes_of (λ t. Text t) text_tie
    text_fits (λ t h. (refl, (refl, h))) text_back)

behind : (tag : ℕ) → nat_le tag 2 ≡ true → Ties (λ v. (tag ≡ rank_of v) × IsValue v) body (value_behind tag)
behind zero low = null_tie
behind (suc zero) low = int_tie
behind (suc (suc zero)) low = behind_text
behind (suc (suc (suc n))) low = absurd (omega (arith, leb-true _ _ low))

pub value_tie : Ties IsValue value_spelling value_at
unfolding value_at
value_tie =
    Ties-as IsValue value_spelling (λ v h. tagged v) (λ v h. h) (λ v h. h)
    (Ties-then IsValue body rank_of value_behind (Ties-checked (λ b. nat_le b 2) BadTag byte_tie)
    (λ v fits. low_rank v)
    (λ tag fit. behind tag fit.0))

-- a name, part by part
-- the parts of a name behind its kind, each of them tied in its turn
after_kind : Kind → Reader Name
after_kind kind at bytes =
    u64_at at bytes >>= λ txn. u32_at txn.1 txn.2 >>= λ part. u32_at part.1 part.2 >>= λ task. u32_at task.1 task.2 >>= λ attempt.
    Ok (record { kind = kind; txn = txn.0; part = part.0; task = task.0; attempt = attempt.0 }, attempt.1, attempt.2)

numbers_tie : (kind : Kind) → Ties (IsName kind) (λ n. u64_spelling n.txn ++ (u32_spelling n.part ++ (u32_spelling n.task ++ (u32_spelling n.attempt ++ [])))) (after_kind kind)
unfolding after_kind
numbers_tie kind =
    Ties-then (IsName kind) _ (λ n. n.txn) (λ txn at bytes. u32_at at bytes >>= λ part. u32_at part.1 part.2 >>= λ task. u32_at task.1 task.2 >>= λ attempt.
    Ok (record { kind = kind; txn = txn; part = part.0; task = task.0; attempt = attempt.0 }, attempt.1, attempt.2)) u64_tie (λ n h. h.txn) (λ txn is_txn.
    Ties-then (λ n. (txn ≡ n.txn) × IsName kind n) _ (λ n. n.part) (λ part at bytes. u32_at at bytes >>= λ task. u32_at task.1 task.2 >>= λ attempt.
    Ok (record { kind = kind; txn = txn; part = part; task = task.0; attempt = attempt.0 }, attempt.1, attempt.2)) u32_tie (λ n h. h.1.part) (λ part is_part.
    Ties-then (λ n. (part ≡ n.part) × ((txn ≡ n.txn) × IsName kind n)) _ (λ n. n.task) (λ task at bytes. u32_at at bytes >>= λ attempt.
    Ok (record { kind = kind; txn = txn; part = part; task = task; attempt = attempt.0 }, attempt.1, attempt.2)) u32_tie (λ n h. h.1.1.task) (λ task is_task.
    Ties-then (λ n. (task ≡ n.task) × ((part ≡ n.part) × ((txn ≡ n.txn) × IsName kind n))) (λ n. []) (λ n. n.attempt) (λ attempt at bytes.
    Ok (record { kind = kind; txn = txn; part = part; task = task; attempt = attempt }, at, bytes)) u32_tie (λ n h. h.1.1.1.attempt) (λ attempt is_attempt.
    let made : Name = record { kind = kind; txn = txn; part = part; task = task; attempt = attempt } in
    let fits : IsName kind made = record { kind_is = refl; txn = is_txn; part = is_part; task = is_task; attempt = is_attempt } in
    Ties-as (λ n. (attempt ≡ n.attempt) × ((task ≡ n.task) × ((part ≡ n.part) × ((txn ≡ n.txn) × IsName kind n)))) (λ n. []) (λ n h. refl)
    (λ n e. subst (λ (m : Name). (attempt ≡ m.attempt) × ((task ≡ m.task) × ((part ≡ m.part) × ((txn ≡ m.txn) × IsName kind m)))) e (refl, (refl, (refl, (refl, fits)))))
    (λ n h. let k = sym h.1.1.1.1.kind_is in cc)
    (Ties-made made)))))

low_kind : (kind : Kind) → kind_byte kind < 256
low_kind File = omega arith
low_kind Vector = omega arith
low_kind Manifest = omega arith
low_kind Checkpoint = omega arith

pub name_tie : (kind : Kind) → Ties (IsName kind) name_spelling (name_at kind)
unfolding name_at after_kind
name_tie kind =
    Ties-as (IsName kind) name_spelling (λ n h. simp (append_assoc, append-nil)) (λ n h. h) (λ n h. h)
    (Ties-then (IsName kind) (λ n. u64_spelling n.txn ++ (u32_spelling n.part ++ (u32_spelling n.task ++ (u32_spelling n.attempt ++ []))))
    (λ n. kind_byte n.kind) (λ tag at bytes. after_kind kind at bytes)
    (Ties-checked (λ b. b == kind_byte kind) BadTag byte_tie)
    (λ n h. (eq-eqb _ _ (ap kind_byte h.kind_is), low_kind n.kind))
    (λ tag tags. Ties-as (λ n. (tag ≡ kind_byte n.kind) × IsName kind n) _ (λ n h. refl)
    (λ n h. (eqb-true _ _ tags.0 ∙ ap kind_byte (sym h.kind_is), h)) (λ n h. h.1) (numbers_tie kind)))

-- ---- a magic in front

same_bytes : (a b : List ℕ) → pointwise nat_eq a b ≡ true → a ≡ b
same_bytes [] [] e = refl
same_bytes [] (y ∷ b) e = absurd cc
same_bytes (x ∷ a) [] e = absurd cc
same_bytes (x ∷ a) (y ∷ b) e = let both = and_parts (eqb x y) (pointwise nat_eq a b) e in let h = eqb-true x y both.0 in let t = same_bytes a b both.1 in cc

itself : (a : List ℕ) → pointwise nat_eq a a ≡ true
itself [] = refl
itself (x ∷ a) = and_from (eqb x x) (pointwise nat_eq a a) (eq-eqb x x refl) (itself a)

pub magic_tie : {X : Type 0} (magic : List ℕ) (Fits : X → Type 0) (spelling : X → List ℕ) (read : Reader X) → Ties Fits spelling read
    → Ties Fits (λ x. magic ++ spelling x) (λ at bytes. magic_at magic at bytes >>= λ m. read m.1 m.2)
magic_tie {X} magic Fits spelling read tie =
    Ties-then {A = List ℕ} Fits spelling (λ x. magic) (λ m. read) (Ties-checked (λ m. pointwise nat_eq m magic) BadTag (bytes_tie (λ _. Unit {0}) (λ m h. tt) (length magic)))
    (λ x h. (itself magic, (refl, tt)))
    (λ m is. Ties-as (λ x. (m ≡ magic) × Fits x) spelling (λ x h. refl) (λ x h. (same_bytes m magic is.0, h)) (λ x h. h.1) tie)

-- ---- how long spellings are

pub length-u32 : (n : ℕ) → length (u32_spelling n) ≡ 4
unfolding u32_spelling
length-u32 n = refl

pub length-u64 : (n : ℕ) → length (u64_spelling n) ≡ 8
unfolding u64_spelling
length-u64 n = refl
