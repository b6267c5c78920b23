-- Columns and files are tied to their spellings.
use Rattle.std.proofs.Common.{◌≡◌, ℕ, ◌≤◌, Bool, leb, ltb, ◌&&◌, List, [], ◌∷◌, ◌++◌, length, map, Ok, refl, sym, ap, subst, ◌∙◌, append_assoc, arith}
use Rattle.std.specs.Prelude.{codes, nat_lt, nat_le}
use Rattle.std.specs.List.{flat_map, AllByRecursion}
use Rattle.std.proofs.lemmas.Bool.{ltb-true, lt-ltb, leb-true, le-leb, and_parts, and_from}
use Rattle.std.proofs.lemmas.List.{length-map}
use Rattle.lake_values.specs.declared.faults.BadKind.TheVariants.{NotCanonical}
use Rattle.lake_values.specs.declared.schemas.ColType.{ColType}
use Rattle.lake_values.specs.declared.schemas.ColType.TheVariants as kinds
use Rattle.lake_values.specs.declared.values.Value.{Value}
use Rattle.lake_values.specs.declared.values.Value.TheVariants.{Null, Int, Text}
use Rattle.lake_values.specs.Order.{bytes_of}
use Rattle.lake_values.specs.Spelling.{u32_spelling, u64_spelling, IsU64}
use Rattle.lake_values.specs.Reading.{◌>>=◌, checked, u32_at, u64_at, repeated_at}
use Rattle.lake_values.proofs.Ties.{Ties, Ties-then, Ties-as, Ties-map, Ties-checked, Ties-repeated}
use Rattle.lake_values.proofs.FieldTies.{u32_tie, u64_tie, magic_tie}
use Rattle.column_file.specs.declared.decode.Decoded.{Decoded}
use Rattle.column_file.specs.Spelling.{Column, columns_from, columns_of, is_null, kind_byte, flags_spelling, values_spelling, column_spelling, file_spelling, IsCell, IsColumn, IsFile}
use Rattle.column_file.specs.Reading.{flags_at, values_at, column_at, rows_of, file_at}
use Rattle.column_file.proofs.ColumnTies.{kind_tie, flags_tie, numbers_tie, length-flags}
use Rattle.column_file.proofs.TextTies.{texts_tie}
use Rattle.column_file.proofs.Rows.{length-rows_of, columns_back, widths-rows_of, rows_back, kinds_back, length-columns_from, columns_have}

-- ---- the values of a column

ValuesFit : ColType → List Bool → List Value → Type 0
ValuesFit kind flags vs = (map is_null vs ≡ flags) × (AllByRecursion (IsCell kind) vs × IsU64 (length (flat_map bytes_of vs)))

no_texts : (vs : List Value) → AllByRecursion (IsCell kinds.Int) vs → flat_map bytes_of vs ≡ []
no_texts [] h = refl
no_texts (Null ∷ vs) h = no_texts vs h.1
no_texts (Int n ∷ vs) h = no_texts vs h.1
no_texts (Text t ∷ vs) h = absurd (let e = h.0.0 in cc)

values_tie : (kind : ColType) (flags : List Bool) → Ties (ValuesFit kind flags) (values_spelling kind) (values_at kind flags)
unfolding values_at ValuesFit
values_tie kinds.Int flags =
    Ties-as (ValuesFit kinds.Int flags) (values_spelling kinds.Int) (λ vs h. refl)
    (λ vs h. (h.0, (h.1, let none = ap length (no_texts vs h.1) in omega (arith, none))))
    (λ vs h. (h.0, h.1.0))
    (numbers_tie flags)
values_tie kinds.Text flags =
    Ties-as (ValuesFit kinds.Text flags) (values_spelling kinds.Text) (λ vs h. refl) (λ vs h. (h.0.0, (h.0.1, h.1))) (λ vs h. ((h.0, h.1.0), h.1.1)) (texts_tie flags)

-- ---- a column

pub IsOf : ℕ → Column → Type 0
IsOf rows c = (length c.1 ≡ rows) × IsColumn c

column_tie : (rows : ℕ) → Ties (IsOf rows) column_spelling (column_at rows)
unfolding column_at IsOf ValuesFit
column_tie rows =
    Ties-as (IsOf rows) column_spelling (λ c h. sym (append_assoc (kind_byte c.0 ∷ []) (flags_spelling (map is_null c.1)) (values_spelling c.0 c.1))) (λ c h. h) (λ c h. h)
    (Ties-then (IsOf rows) (λ c. flags_spelling (map is_null c.1) ++ values_spelling c.0 c.1) (λ c. c.0)
    (λ kind at bytes. flags_at rows at bytes >>= λ flags. values_at kind flags.0 flags.1 flags.2 >>= λ values. Ok ((kind, values.0), values.1, values.2)) kind_tie (λ c h. tt) (λ kind any.
    Ties-then (λ c. (kind ≡ c.0) × IsOf rows c) (λ c. values_spelling c.0 c.1) (λ c. map is_null c.1)
    (λ flags at bytes. values_at kind flags at bytes >>= λ values. Ok ((kind, values.0), values.1, values.2)) (flags_tie rows) (λ c h. length-map c.1 is_null ∙ h.1.0) (λ flags count.
    Ties-as (λ c. (flags ≡ map is_null c.1) × ((kind ≡ c.0) × IsOf rows c)) (λ c. values_spelling c.0 c.1) (λ c h. ap (λ (k : ColType). values_spelling k c.1) h.1.0) (λ c h. h) (λ c h. h)
    (Ties-map (λ c. (flags ≡ map is_null c.1) × ((kind ≡ c.0) × IsOf rows c)) (λ c. c.1) (λ vs. (kind, vs)) (values_tie kind flags)
    (λ c h. (sym h.0, (subst (λ (k : ColType). AllByRecursion (IsCell k) c.1) (sym h.1.0) h.1.1.1.cells, h.1.1.1.texts)))
    (λ vs h. (refl, (sym h.0, (refl, (sym (length-flags vs flags h.0) ∙ count, record { cells = h.1.0; texts = h.1.1 })))))
    (λ c h. ap (λ (k : ColType). (k, c.1)) h.1.0)))))

-- ---- a file

made : ℕ → List Column → Decoded
made rows columns = record { kinds = map (λ c. c.0) columns; rows = rows_of rows columns }

each_of : (rows : ℕ) (columns : List Column) → AllByRecursion (IsOf rows) columns → AllByRecursion (λ c. length c.1 ≡ rows) columns × AllByRecursion IsColumn columns
unfolding IsOf
each_of rows [] h = (tt, tt)
each_of rows (c ∷ columns) h = let others = each_of rows columns h.1 in ((h.0.0, others.0), (h.0.1, others.1))

of_each : (rows count : ℕ) (columns : List Column) → count ≡ rows → AllByRecursion (λ c. (length c.1 ≡ count) × IsColumn c) columns → AllByRecursion (IsOf rows) columns
unfolding IsOf
of_each rows count [] same h = tt
of_each rows count (c ∷ columns) same h = ((h.0.0 ∙ same, h.0.1), of_each rows count columns same h.1)

IsFileOf : ℕ → ℕ → Decoded → Type 0
IsFileOf count rows file = (rows ≡ length file.rows) × ((count ≡ length file.kinds) × IsFile file)

file_parts : (count rows : ℕ) (file : Decoded) → IsFileOf count rows file → (length (columns_of file) ≡ count) × AllByRecursion (IsOf rows) (columns_of file)
unfolding IsFileOf
file_parts count rows file h = (
  length-columns_from 0 file.kinds file.rows ∙ sym h.1.0,
  of_each rows (length file.rows) (columns_of file) (sym h.0) (columns_have IsColumn 0 file.kinds file.rows h.1.1.columns),
)

file_there : (count rows : ℕ) → 1 ≤ count → count ≤ 64 → IsU64 rows → (columns : List Column) → (length columns ≡ count) × AllByRecursion (IsOf rows) columns
    → (columns ≡ columns_of (made rows columns)) × IsFileOf count rows (made rows columns)
unfolding IsFileOf made
file_there count rows some most wide columns h =
    let parts = each_of rows columns h.1 in
    let back : columns_from 0 (map (λ (c : Column). c.0) columns) (rows_of rows columns) ≡ columns = columns_back rows columns parts.0 in
    let width : length (map (λ (c : Column). c.0) columns) ≡ length columns = length-map columns (λ (c : Column). c.0) in
    let height : length (rows_of rows columns) ≡ rows = length-rows_of rows columns parts.0 in (
      sym back,
      (
        sym height,
        (
          sym (width ∙ h.0),
          record {
            some = omega (arith, width, h.0);
            at_most = omega (arith, width, h.0);
            count = omega (arith, height);
            widths = subst (λ (n : ℕ). AllByRecursion (λ (row : List Value). length row ≡ n) (rows_of rows columns)) (sym width) (widths-rows_of rows columns);
            columns = subst (λ (cs : List Column). AllByRecursion IsColumn cs) (sym back) parts.1;
          },
        ),
      ),
    )

same_file : (a b : Decoded) → a.kinds ≡ b.kinds → a.rows ≡ b.rows → a ≡ b
same_file a b k r =
    ap (λ (ks : List ColType). record { kinds = ks; rows = a.rows }) k ∙ ap (λ (rs : List (List Value)). record { kinds = b.kinds; rows = rs }) r

file_back : (count rows : ℕ) (file : Decoded) → IsFileOf count rows file → made rows (columns_of file) ≡ file
unfolding IsFileOf made
file_back count rows file h =
    same_file (made rows (columns_of file)) file (kinds_back 0 file.kinds file.rows)
    (ap (λ (n : ℕ). rows_of n (columns_of file)) h.0 ∙ rows_back file.kinds file.rows h.1.1.widths)

is_count : ℕ → Bool
is_count n = nat_lt 0 n && nat_le n 64

pub columns_tie : (count rows : ℕ) → Ties (λ columns. (length columns ≡ count) × AllByRecursion (IsOf rows) columns) (flat_map column_spelling) (repeated_at count (column_at rows))
columns_tie count rows = Ties-repeated count (column_tie rows)

pub file_tie : Ties IsFile file_spelling file_at
unfolding file_at is_count made IsFileOf
file_tie =
    Ties-as IsFile file_spelling (λ f h. grouped (codes "LCF1") (u32_spelling (length f.kinds)) (u64_spelling (length f.rows)) (flat_map column_spelling (columns_of f))) (λ f h. h) (λ f h. h)
    (magic_tie (codes "LCF1") IsFile (λ f. u32_spelling (length f.kinds) ++ (u64_spelling (length f.rows) ++ flat_map column_spelling (columns_of f)))
    (λ at bytes. checked is_count NotCanonical u32_at at bytes >>= λ count. u64_at count.1 count.2 >>= λ rows. repeated_at count.0 (column_at rows.0) rows.1 rows.2 >>= λ columns. Ok (made rows.0 columns.0, columns.1, columns.2))
    (Ties-then IsFile (λ f. u64_spelling (length f.rows) ++ flat_map column_spelling (columns_of f)) (λ f. length f.kinds)
    (λ count at bytes. u64_at at bytes >>= λ rows. repeated_at count (column_at rows.0) rows.1 rows.2 >>= λ columns. Ok (made rows.0 columns.0, columns.1, columns.2)) (Ties-checked is_count NotCanonical u32_tie)
    (λ f h. (and_from (ltb 0 (length f.kinds)) (leb (length f.kinds) 64) (lt-ltb _ _ (omega (arith, h.some))) (le-leb _ _ h.at_most), omega (arith, h.at_most))) (λ count counted.
    let both = and_parts (ltb 0 count) (leb count 64) counted.0 in
    Ties-then (λ f. (count ≡ length f.kinds) × IsFile f) (λ f. flat_map column_spelling (columns_of f)) (λ f. length f.rows)
    (λ rows at bytes. repeated_at count (column_at rows) at bytes >>= λ columns. Ok (made rows columns.0, columns.1, columns.2)) u64_tie (λ f h. h.1.count) (λ rows wide.
    Ties-map (IsFileOf count rows) columns_of (made rows) (columns_tie count rows)
    (file_parts count rows) (file_there count rows (omega (arith, ltb-true _ _ both.0)) (leb-true _ _ both.1) wide) (file_back count rows)))))
  where
    grouped : (a b c d : List ℕ) → a ++ (b ++ (c ++ d)) ≡ ((a ++ b) ++ c) ++ d
    grouped a b c d = simp append_assoc

-- what the columns that are read tell of their values
pub column_values : (rows : ℕ) (c : Column) → IsOf rows c → (length c.1 ≡ rows) × AllByRecursion (IsCell c.0) c.1
unfolding IsOf
column_values rows c h = (h.0, h.1.cells)
