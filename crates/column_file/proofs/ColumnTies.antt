-- Kinds, flags and numbers are tied to their spellings.
use Rattle.std.proofs.Common.{◌≡◌, ℕ, zero, suc, ◌*◌, ◌^◌, ◌<◌, Bool, true, false, not, cond, eqb, ◌||◌, List, [], ◌∷◌, length, map, Option, Some, None, replicate, refl, sym, ap, subst, ◌∙◌, arith}
use Rattle.std.specs.Prelude.{nat_lt, ◌==◌}
use Rattle.std.specs.Int.{w64, cast_signed, cast_unsigned}
use Rattle.std.specs.List.{flat_map, AllByRecursion}
use Rattle.std.proofs.lemmas.Bool.{eqb-true, ltb-true}
use Rattle.std.proofs.lemmas.Int.{to_z-of_z, of_z-to_z}
use Rattle.std.proofs.lemmas.List.{length-append, length-map}
use Rattle.std.proofs.lemmas.List.Concat.{flat_map_single}
use Rattle.lake_values.specs.declared.faults.BadKind.TheVariants.{BadTag, NotCanonical}
use Rattle.lake_values.specs.declared.schemas.ColType.{ColType}
use Rattle.lake_values.specs.declared.schemas.ColType.TheVariants as kinds
use Rattle.lake_values.specs.declared.values.Value.{Value}
use Rattle.lake_values.specs.declared.values.Value.TheVariants.{Null, Int, Text}
use Rattle.lake_values.specs.Order.{number_of}
use Rattle.lake_values.proofs.Ties.{Ties, Ties-as, Ties-map, Ties-checked, Ties-array, EachFits, repeated_fits, fits_repeated}
use Rattle.lake_values.proofs.FieldTies.{byte_tie, u64_tie, signed_bits, signed_back, length-u64}
use Rattle.column_file.specs.Spelling.{kind_byte, flag_byte, flags_spelling, is_null, number_spelling, IsCell}
use Rattle.column_file.specs.Reading.{kind_at, flag_at, flags_at, number_cell_at, numbers_at}

-- ---- kinds

kind_of : ℕ → ColType
kind_of b = cond (eqb b 1) kinds.Int kinds.Text

is_kind : ℕ → Bool
is_kind b = (b == 1) || (b == 2)

kind_parts : (k : ColType) → Unit {0} → (is_kind (kind_byte k) ≡ true) × (kind_byte k < 256)
unfolding is_kind
kind_parts kinds.Int h = (refl, omega arith)
kind_parts kinds.Text h = (refl, omega arith)

kind_there : (b : ℕ) → (is_kind b ≡ true) × (b < 256) → (b ≡ kind_byte (kind_of b)) × Unit {0}
unfolding is_kind kind_of
kind_there zero h = absurd cc
kind_there (suc zero) h = (refl, tt)
kind_there (suc (suc zero)) h = (refl, tt)
kind_there (suc (suc (suc b))) h = absurd (let e = h.0 in grind (arith, e))

kind_back : (k : ColType) → Unit {0} → kind_of (kind_byte k) ≡ k
unfolding kind_of
kind_back kinds.Int h = refl
kind_back kinds.Text h = refl

pub kind_tie : Ties (λ k. Unit {0}) (λ k. kind_byte k ∷ []) kind_at
unfolding kind_at is_kind kind_of
kind_tie = Ties-map (λ k. Unit {0}) kind_byte kind_of (Ties-checked is_kind BadTag byte_tie) kind_parts kind_there kind_back

-- ---- flags

is_flag : ℕ → Bool
is_flag b = nat_lt b 2

flag_parts : (f : Bool) → Unit {0} → (is_flag (flag_byte f) ≡ true) × (flag_byte f < 256)
unfolding is_flag
flag_parts true h = (refl, omega arith)
flag_parts false h = (refl, omega arith)

flag_there : (b : ℕ) → (is_flag b ≡ true) × (b < 256) → (b ≡ flag_byte (b == 1)) × Unit {0}
unfolding is_flag
flag_there zero h = (refl, tt)
flag_there (suc zero) h = (refl, tt)
flag_there (suc (suc b)) h = absurd (let lt = ltb-true _ _ h.0 in omega (arith, lt))

flag_back : (f : Bool) → Unit {0} → (flag_byte f == 1) ≡ f
flag_back true h = refl
flag_back false h = refl

flag_tie : Ties (λ f. Unit {0}) (λ f. flag_byte f ∷ []) flag_at
unfolding flag_at is_flag
flag_tie = Ties-map (λ f. Unit {0}) flag_byte (λ b. b == 1) (Ties-checked is_flag BadTag byte_tie) flag_parts flag_there flag_back

any_flags : (flags : List Bool) → AllByRecursion (λ f. Unit {0}) flags
any_flags [] = tt
any_flags (f ∷ flags) = (tt, any_flags flags)

pub flags_tie : (rows : ℕ) → Ties (λ flags. length flags ≡ rows) flags_spelling (flags_at rows)
flags_tie rows =
    Ties-as (λ flags. length flags ≡ rows) flags_spelling (λ flags h. flat_map_single flag_byte flags)
    (λ flags h. (fits_repeated (λ f. Unit {0}) None rows flags h).0)
    (λ flags h. repeated_fits (λ f. Unit {0}) None rows flags (h, any_flags flags))
    (Ties-array (λ b c f. Unit {0}) (λ f. flag_byte f ∷ []) (λ before place. flag_at) rows (replicate rows (tt {0})) (λ b c. flag_tie)
    (λ flags h. ap length (flat_map_single flag_byte flags) ∙ length-map flags flag_byte ∙ (fits_repeated (λ f. Unit {0}) None rows flags h).0))

-- ---- numbers

IsNumber : Bool → Value → Type 0
IsNumber null v = (is_null v ≡ null) × IsCell kinds.Int v

number_made : Bool → ℕ → Value
number_made null n = cond null Null (Int (cast_signed w64 n))

is_number : Bool → ℕ → Bool
is_number null n = not null || (n == 0)

number_parts : (null : Bool) (v : Value) → IsNumber null v → (is_number null (cast_unsigned w64 (number_of v)) ≡ true) × (cast_unsigned w64 (number_of v) < 2 ^ 64)
unfolding IsNumber is_number
number_parts true Null h = (refl, omega arith)
number_parts true (Int n) h = absurd cc
number_parts true (Text t) h = absurd cc
number_parts false Null h = absurd cc
number_parts false (Int n) h = (refl, signed_bits n h.1.1)
number_parts false (Text t) h = absurd (let e = h.1.0 in cc)

number_there : (null : Bool) (n : ℕ) → (is_number null n ≡ true) × (n < 2 ^ 64) → (n ≡ cast_unsigned w64 (number_of (number_made null n))) × IsNumber null (number_made null n)
unfolding IsNumber is_number number_made
number_there true n h = (eqb-true n 0 h.0, (refl, tt))
number_there false n h = (sym (of_z-to_z w64 n h.1), (refl, (refl, signed_back n h.1)))

number_back : (null : Bool) (v : Value) → IsNumber null v → number_made null (cast_unsigned w64 (number_of v)) ≡ v
unfolding IsNumber number_made
number_back true Null h = refl
number_back true (Int n) h = absurd cc
number_back true (Text t) h = absurd cc
number_back false Null h = absurd cc
number_back false (Int n) h = ap Int (to_z-of_z w64 n h.1.1)
number_back false (Text t) h = absurd (let e = h.1.0 in cc)

number_tie : (null : Bool) → Ties (IsNumber null) number_spelling (number_cell_at null)
unfolding number_cell_at is_number number_made
number_tie null =
    Ties-map (IsNumber null) (λ v. cast_unsigned w64 (number_of v)) (number_made null) (Ties-checked (is_number null) NotCanonical u64_tie)
    (number_parts null) (number_there null) (number_back null)

numbers_fit : (before : Option Value) (flags : List Bool) (vs : List Value) → EachFits (λ b null v. IsNumber null v) before flags vs → (map is_null vs ≡ flags) × AllByRecursion (IsCell kinds.Int) vs
unfolding IsNumber
numbers_fit before [] [] h = (refl, tt)
numbers_fit before [] (v ∷ vs) h = absurd h
numbers_fit before (null ∷ flags) [] h = absurd h
numbers_fit before (null ∷ flags) (v ∷ vs) h =
    let others = numbers_fit (Some v) flags vs h.1 in
    let e = h.0.0 in let f = others.0 in
    (cc, (h.0.1, others.1))

fit_numbers : (before : Option Value) (vs : List Value) → AllByRecursion (IsCell kinds.Int) vs → EachFits (λ b null v. IsNumber null v) before (map is_null vs) vs
unfolding IsNumber
fit_numbers before [] h = tt
fit_numbers before (v ∷ vs) h = ((refl, h.0), fit_numbers (Some v) vs h.1)

length-numbers : (vs : List Value) → length (flat_map number_spelling vs) ≡ length vs * 8
length-numbers [] = refl
length-numbers (v ∷ vs) = omega (arith, length-append (number_spelling v) (flat_map number_spelling vs), length-u64 (cast_unsigned w64 (number_of v)), length-numbers vs)

pub length-flags : (vs : List Value) (flags : List Bool) → map is_null vs ≡ flags → length flags ≡ length vs
length-flags vs flags e = ap length (sym e) ∙ length-map vs is_null

pub numbers_tie : (flags : List Bool) → Ties (λ vs. (map is_null vs ≡ flags) × AllByRecursion (IsCell kinds.Int) vs) (flat_map number_spelling) (numbers_at flags)
numbers_tie flags =
    Ties-as (λ vs. (map is_null vs ≡ flags) × AllByRecursion (IsCell kinds.Int) vs) (flat_map number_spelling) (λ vs h. refl) (numbers_fit None flags)
    (λ vs h. subst (λ (fs : List Bool). EachFits (λ b null v. IsNumber null v) None fs vs) h.0 (fit_numbers None vs h.1))
    (Ties-array (λ b null v. IsNumber null v) number_spelling (λ before null. number_cell_at null) (length flags * 8) flags (λ b null. number_tie null)
    (λ vs h. length-numbers vs ∙ ap (λ (n : ℕ). n * 8) (sym (length-flags vs flags (numbers_fit None flags vs h).0))))
