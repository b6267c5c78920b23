-- Rows are their columns, and columns their rows.
use Rattle.std.proofs.Common.{◌≡◌, ℕ, zero, suc, ◌+◌, List, [], ◌∷◌, length, get_or, map, drop, replicate, refl, sym, ap, ◌∙◌, arith}
use Rattle.std.specs.Prelude.{All}
use Rattle.std.specs.List.{AllByRecursion}
use Rattle.std.proofs.lemmas.List.{length-map, length-replicate, get_or-drop}
use Rattle.lake_values.specs.declared.schemas.ColType.{ColType}
use Rattle.lake_values.specs.declared.values.Value.{Value}
use Rattle.lake_values.specs.declared.values.Value.TheVariants.{Null}
use Rattle.column_file.specs.Spelling.{Column, column, columns_from, FitsKinds}
use Rattle.column_file.specs.Reading.{in_front, rows_of}

abbrev IsWide : ℕ → List Value → Type 0
IsWide width row = length row ≡ width

abbrev HasRows : ℕ → Column → Type 0
HasRows count c = length c.1 ≡ count

abbrev rests : List (List Value) → List (List Value)
rests rows = map (λ row. drop 1 row) rows

-- a column further on is a column of the rows without their first values

column_rests : (i : ℕ) (rows : List (List Value)) → column (i + 1) rows ≡ column i (rests rows)
column_rests i [] = refl
column_rests i (row ∷ rows) =
    let order : 1 + i ≡ i + 1 = omega arith in
    let first : get_or row (i + 1) Null ≡ get_or (drop 1 row) i Null = ap (λ (n : ℕ). get_or row n Null) (sym order) ∙ sym (get_or-drop 1 row i Null) in
    let others = column_rests i rows in
    ap (λ (v : Value). v ∷ column (i + 1) rows) first ∙ ap (λ (vs : List Value). get_or (drop 1 row) i Null ∷ vs) others

columns_rests : (i : ℕ) (kinds : List ColType) (rows : List (List Value)) → columns_from (i + 1) kinds rows ≡ columns_from i kinds (rests rows)
columns_rests i [] rows = refl
columns_rests i (kind ∷ kinds) rows =
    ap (λ (vs : List Value). (kind, vs) ∷ columns_from ((i + 1) + 1) kinds rows) (column_rests i rows)
    ∙ ap (λ (cs : List Column). (kind, column i (rests rows)) ∷ cs) (columns_rests (i + 1) kinds rows)

-- ---- of columns of one length

length-in_front : (vs : List Value) (rows : List (List Value)) → length vs ≡ length rows → length (in_front vs rows) ≡ length rows
length-in_front [] [] e = refl
length-in_front [] (row ∷ rows) e = absurd (omega (arith, e))
length-in_front (v ∷ vs) [] e = absurd (omega (arith, e))
length-in_front (v ∷ vs) (row ∷ rows) e = ap suc (length-in_front vs rows (omega (arith, e)))

first_in_front : (vs : List Value) (rows : List (List Value)) → length vs ≡ length rows → column 0 (in_front vs rows) ≡ vs
first_in_front [] [] e = refl
first_in_front [] (row ∷ rows) e = absurd (omega (arith, e))
first_in_front (v ∷ vs) [] e = absurd (omega (arith, e))
first_in_front (v ∷ vs) (row ∷ rows) e = ap (λ (xs : List Value). v ∷ xs) (first_in_front vs rows (omega (arith, e)))

rests_in_front : (vs : List Value) (rows : List (List Value)) → length vs ≡ length rows → rests (in_front vs rows) ≡ rows
rests_in_front [] [] e = refl
rests_in_front [] (row ∷ rows) e = absurd (omega (arith, e))
rests_in_front (v ∷ vs) [] e = absurd (omega (arith, e))
rests_in_front (v ∷ vs) (row ∷ rows) e = ap (λ (xs : List (List Value)). row ∷ xs) (rests_in_front vs rows (omega (arith, e)))

pub length-rows_of : (count : ℕ) (columns : List Column) → AllByRecursion (HasRows count) columns → length (rows_of count columns) ≡ count
length-rows_of count [] h = length-replicate count []
length-rows_of count (c ∷ columns) h =
    let n = length-rows_of count columns h.1 in
    length-in_front c.1 (rows_of count columns) (h.0 ∙ sym n) ∙ n

pub columns_back : (count : ℕ) (columns : List Column) → AllByRecursion (HasRows count) columns → columns_from 0 (map (λ c. c.0) columns) (rows_of count columns) ≡ columns
columns_back count [] h = refl
columns_back count (c ∷ columns) h =
    let same : length c.1 ≡ length (rows_of count columns) = h.0 ∙ sym (length-rows_of count columns h.1) in
    let zero_next : 0 + 1 ≡ 1 = refl in
    ap (λ (vs : List Value). (c.0, vs) ∷ columns_from (0 + 1) (map (λ (k : Column). k.0) columns) (in_front c.1 (rows_of count columns))) (first_in_front c.1 (rows_of count columns) same)
    ∙ ap (λ (cs : List Column). (c.0, c.1) ∷ cs) (columns_rests 0 (map (λ (k : Column). k.0) columns) (in_front c.1 (rows_of count columns))
    ∙ ap (columns_from 0 (map (λ (k : Column). k.0) columns)) (rests_in_front c.1 (rows_of count columns) same)
    ∙ columns_back count columns h.1)

replicate_wide : (count : ℕ) → AllByRecursion (IsWide 0) (replicate count [])
replicate_wide zero = tt
replicate_wide (suc count) = (refl, replicate_wide count)

wide_in_front : (width : ℕ) (vs : List Value) (rows : List (List Value)) → AllByRecursion (IsWide width) rows → AllByRecursion (IsWide (suc width)) (in_front vs rows)
wide_in_front width [] rows h = tt
wide_in_front width (v ∷ vs) [] h = tt
wide_in_front width (v ∷ vs) (row ∷ rows) h = (ap suc h.0, wide_in_front width vs rows h.1)

pub widths-rows_of : (count : ℕ) (columns : List Column) → AllByRecursion (IsWide (length columns)) (rows_of count columns)
widths-rows_of count [] = replicate_wide count
widths-rows_of count (c ∷ columns) = wide_in_front (length columns) c.1 (rows_of count columns) (widths-rows_of count columns)

-- ---- of rows of one width

no_columns : (rows : List (List Value)) → AllByRecursion (IsWide 0) rows → replicate (length rows) [] ≡ rows
no_columns [] h = refl
no_columns ([] ∷ rows) h = ap (λ (rs : List (List Value)). [] ∷ rs) (no_columns rows h.1)
no_columns ((v ∷ row) ∷ rows) h = absurd (let e = h.0 in omega (arith, e))

one_column : (width : ℕ) (rows : List (List Value)) → AllByRecursion (IsWide (suc width)) rows → in_front (column 0 rows) (rests rows) ≡ rows
one_column width [] h = refl
one_column width ([] ∷ rows) h = absurd (let e = h.0 in omega (arith, e))
one_column width ((v ∷ row) ∷ rows) h = ap (λ (rs : List (List Value)). (v ∷ row) ∷ rs) (one_column width rows h.1)

rests_wide : (width : ℕ) (rows : List (List Value)) → AllByRecursion (IsWide (suc width)) rows → AllByRecursion (IsWide width) (rests rows)
rests_wide width [] h = tt
rests_wide width ([] ∷ rows) h = absurd (let e = h.0 in omega (arith, e))
rests_wide width ((v ∷ row) ∷ rows) h = (let e = h.0 in omega (arith, e), rests_wide width rows h.1)

pub rows_back : (kinds : List ColType) (rows : List (List Value)) → AllByRecursion (IsWide (length kinds)) rows → rows_of (length rows) (columns_from 0 kinds rows) ≡ rows
rows_back [] rows h = no_columns rows h
rows_back (kind ∷ kinds) rows h =
    let count : length (rests rows) ≡ length rows = length-map rows (λ row. drop 1 row) in
    ap (λ (cs : List Column). in_front (column 0 rows) (rows_of (length rows) cs)) (columns_rests 0 kinds rows)
    ∙ ap (λ (n : ℕ). in_front (column 0 rows) (rows_of n (columns_from 0 kinds (rests rows)))) (sym count)
    ∙ ap (in_front (column 0 rows)) (rows_back kinds (rests rows) (rests_wide (length kinds) rows h))
    ∙ one_column (length kinds) rows h

pub kinds_back : (i : ℕ) (kinds : List ColType) (rows : List (List Value)) → map (λ c. c.0) (columns_from i kinds rows) ≡ kinds
kinds_back i [] rows = refl
kinds_back i (kind ∷ kinds) rows = ap (λ (ks : List ColType). kind ∷ ks) (kinds_back (i + 1) kinds rows)

pub length-columns_from : (i : ℕ) (kinds : List ColType) (rows : List (List Value)) → length (columns_from i kinds rows) ≡ length kinds
length-columns_from i [] rows = refl
length-columns_from i (kind ∷ kinds) rows = ap suc (length-columns_from (i + 1) kinds rows)

-- a column of the rows has a value of each row
pub columns_have : (P : Column → Type 0) (i : ℕ) (kinds : List ColType) (rows : List (List Value)) → AllByRecursion P (columns_from i kinds rows) → AllByRecursion (λ c. (length c.1 ≡ length rows) × P c) (columns_from i kinds rows)
columns_have P i [] rows h = tt
columns_have P i (kind ∷ kinds) rows h = ((length-map rows (λ row. get_or row i Null), h.0), columns_have P (i + 1) kinds rows h.1)

-- ---- rows that fit kinds

fits_wide : (kinds : List ColType) (row : List Value) → FitsKinds kinds row → length row ≡ length kinds
fits_wide [] [] h = refl
fits_wide [] (v ∷ row) h = absurd h
fits_wide (kind ∷ kinds) [] h = absurd h
fits_wide (kind ∷ kinds) (v ∷ row) h = ap suc (fits_wide kinds row h.1)

pub all_wide : {C : Type 0} (kind : C → ColType) (columns : List C) (rows : List (List Value)) → All (FitsKinds (map kind columns)) rows → All (λ row. length row ≡ length columns) rows
all_wide kind columns rows h i d lt = fits_wide (map kind columns) (get_or rows i d) (h i d lt) ∙ length-map columns kind
