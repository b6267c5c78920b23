-- Columns whose texts are lent, as the columns that they lend.
use Rattle.std.proofs.Common.{◌≡◌, ℕ, Bool, false, zero, suc, ◌+◌, ◌-◌, drop, ◌<◌, ◌≤◌, Ok, List, [], ◌∷◌, ◌++◌, length, get_or, map, take, refl, sym, ap, ◌∙◌, arith}
use Rattle.std.specs.Prelude.{All}
use Rattle.std.specs.List.{AllByRecursion}
use Rattle.std.proofs.lemmas.List.{length-map, get_or-replicate, take_more, take_all, drop_more}
use Rattle.std.proofs.lemmas.List.Elements.{All-from_recursion, recursion_from_All}
use Rattle.lake_values.specs.declared.schemas.ColType.{ColType}
use Rattle.lake_values.specs.declared.values.Value.{Value}
use Rattle.lake_values.specs.declared.values.Value.TheVariants.{Null, Int, Text}
use Rattle.lake_values.specs.Order.{bytes_of}
use Rattle.lake_values.proofs.Ties.{IsBytes}
use Rattle.lake_values.specs.Reading.{repeated_at}
use Rattle.column_file.specs.declared.columns.LentColumn.{LentColumn}
use Rattle.column_file.specs.Lent.{owned, lent_column, value_at, HasPlace, IsTable}
use Rattle.column_file.specs.Spelling.{IsCell}
use Rattle.column_file.specs.Reading.{column_at, in_front, rows_of, pieces_from}
use Rattle.column_file.proofs.FileTie.{IsOf, columns_tie, column_values}
use Rattle.column_file.proofs.Rows.{length-rows_of}

pub kinds_are : (columns : List LentColumn) → map (λ c. c.kind) columns ≡ map (λ c. c.0) (map lent_column columns)
kinds_are [] = refl
kinds_are (c ∷ columns) = ap (λ (ks : List ColType). c.kind ∷ ks) (kinds_are columns)

short_cells : (kind : ColType) (vs : List Value) → AllByRecursion (IsCell kind) vs → AllByRecursion (λ v. length (bytes_of v) ≤ 4096) vs
short_cells kind [] h = tt
short_cells kind (Null ∷ vs) h = (omega arith, short_cells kind vs h.1)
short_cells kind (Int n ∷ vs) h = (omega arith, short_cells kind vs h.1)
short_cells kind (Text t ∷ vs) h = (let s = h.0.1.short in omega (arith, s), short_cells kind vs h.1)

tables : (rows : ℕ) (columns : List LentColumn) → AllByRecursion (IsOf rows) (map lent_column columns) → AllByRecursion (IsTable rows) columns
tables rows [] h = tt
tables rows (c ∷ columns) h =
    let one = column_values rows (lent_column c) h.0 in (
      record {
        rows = sym (length-map c.values.items owned) ∙ one.0;
        short = All-from_recursion (λ v. length (bytes_of v) ≤ 4096) (map owned c.values.items) (short_cells c.kind (map owned c.values.items) one.1);
      },
      tables rows columns h.1,
    )

-- the columns that are read have so many rows, and short texts
pub are_tables : (count rows at : ℕ) (bytes : List ℕ) (columns : List LentColumn) (behind : ℕ) (rest : List ℕ) → IsBytes bytes → repeated_at count (column_at rows) at bytes ≡ Ok (map lent_column columns, behind, rest) → All (IsTable rows) columns
are_tables count rows at bytes columns behind rest fits e =
    let found = (columns_tie count rows).found at bytes (map lent_column columns, behind, rest) fits e in
    All-from_recursion (IsTable rows) columns (tables rows columns found.1.1)

have_rows : (rows : ℕ) (columns : List LentColumn) → AllByRecursion (IsTable rows) columns → AllByRecursion (λ c. length c.1 ≡ rows) (map lent_column columns)
have_rows rows [] h = tt
have_rows rows (c ∷ columns) h = (length-map c.values.items owned ∙ h.0.rows, have_rows rows columns h.1)

row_in_front : (vs : List Value) (rows : List (List Value)) (place : ℕ) → place < length vs → place < length rows → get_or (in_front vs rows) place [] ≡ get_or vs place Null ∷ get_or rows place []
row_in_front [] rows place a b = absurd (omega arith)
row_in_front (v ∷ vs) [] place a b = absurd (omega arith)
row_in_front (v ∷ vs) (row ∷ rows) zero a b = refl
row_in_front (v ∷ vs) (row ∷ rows) (suc place) a b = row_in_front vs rows place (omega arith) (omega arith)

row_is : (count : ℕ) (columns : List LentColumn) (place : ℕ) → AllByRecursion (IsTable count) columns → place < count → get_or (rows_of count (map lent_column columns)) place [] ≡ map (value_at place) columns
row_is count [] place h lt = get_or-replicate count place [] [] lt
row_is count (c ∷ columns) place h lt =
    row_in_front (map owned c.values.items) (rows_of count (map lent_column columns)) place
    (let n = h.0.rows in omega (arith, length-map c.values.items owned, n))
    (let n = length-rows_of count (map lent_column columns) (have_rows count columns h.1) in omega (arith, n))
    ∙ ap (λ (vs : List Value). value_at place c ∷ vs) (row_is count columns place h.1 lt)

pub has_place : (count place : ℕ) (columns : List LentColumn) → place < count → All (IsTable count) columns → All (HasPlace place) columns
has_place count place columns lt h i d within =
    let c = get_or columns i d in
    let table : IsTable count (get_or columns i d) = h i d within in
    record {
      within = omega (arith, table.rows);
      short = table.short place Null (omega (arith, length-map (get_or columns i d).values.items owned, table.rows));
    }

-- a loop over the places of rows

pub one_more_row : (count place : ℕ) (columns : List LentColumn) → place < count → All (IsTable count) columns
    → take (place + 1) (rows_of count (map lent_column columns)) ≡ take place (rows_of count (map lent_column columns)) ++ map (value_at place) columns ∷ []
one_more_row count place columns lt h =
    let each = recursion_from_All (IsTable count) columns h in
    let n = length-rows_of count (map lent_column columns) (have_rows count columns each) in
    take_more (rows_of count (map lent_column columns)) place [] (omega (arith, n))
    ∙ ap (λ (row : List Value). take place (rows_of count (map lent_column columns)) ++ row ∷ []) (row_is count columns place each lt)

pub all_rows : (count place : ℕ) (columns : List LentColumn) → count ≤ place → All (IsTable count) columns → take place (rows_of count (map lent_column columns)) ≡ rows_of count (map lent_column columns)
all_rows count place columns le h =
    let n = length-rows_of count (map lent_column columns) (have_rows count columns (recursion_from_All (IsTable count) columns h)) in
    take_all place (rows_of count (map lent_column columns)) (omega (arith, n))

-- the pieces that are left, the first of them apart
pub pieces_here : (before i : ℕ) (flags : List Bool) (ends : List ℕ) → i < length flags → length ends ≡ length flags
    → pieces_from before (drop i flags) (drop i ends) ≡ (get_or flags i false, get_or ends i 0 - before) ∷ pieces_from (get_or ends i 0) (drop (i + 1) flags) (drop (i + 1) ends)
pieces_here before i flags ends lt count =
    ap (λ (fs : List Bool). pieces_from before fs (drop i ends)) (drop_more flags i false lt)
    ∙ ap (λ (es : List ℕ). pieces_from before (get_or flags i false ∷ drop (i + 1) flags) es) (drop_more ends i 0 (omega (arith, count)))
