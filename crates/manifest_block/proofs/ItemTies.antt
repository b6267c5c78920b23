-- Items, blocks and manifests are tied to their spellings.
use Rattle.std.proofs.Common.{◌≡◌, ℕ, zero, suc, ◌<◌, true, ltb, List, [], ◌∷◌, ◌++◌, length, Ok, refl, sym, subst, append_assoc, arith}
use Rattle.std.specs.Prelude.{codes, nat_lt}
use Rattle.std.specs.List.{flat_map}
use Rattle.std.proofs.lemmas.Bool.{ltb-true, lt-ltb, and_parts}
use Rattle.std.proofs.lemmas.List.{append-nil}
use Rattle.std.proofs.lemmas.List.Elements.{All-from_recursion, recursion_from_All}
use Rattle.lake_values.specs.declared.faults.BadKind.TheVariants.{BadTag, NotCanonical}
use Rattle.lake_values.specs.declared.names.Kind.TheVariants.{File, Vector}
use Rattle.lake_values.specs.declared.names.Name.{Name}
use Rattle.lake_values.specs.Spelling.{u32_spelling, u64_spelling, text_spelling, name_spelling, IsU32, IsU64, IsText, IsName}
use Rattle.lake_values.specs.Reading.{◌>>=◌, checked, u32_at, u64_at, name_at}
use Rattle.lake_values.proofs.Ties.{Ties, Ties-made, Ties-then, Ties-as, Ties-checked, Ties-repeated}
use Rattle.lake_values.proofs.FieldTies.{byte_tie, u32_tie, u64_tie, text_tie, name_tie, magic_tie}
use Rattle.manifest_block.specs.declared.items.Item.{Item}
use Rattle.manifest_block.specs.declared.items.Item.TheVariants.{Add, Remove, SetVector}
use Rattle.manifest_block.specs.Spelling.{item_spelling, block_spelling, IsItem, IsBlock}
use Rattle.manifest_block.specs.Reading.{add_at, remove_at, set_vector_at, item_behind, is_item_byte, item_at, items_at, block_at}

-- the fields of items, each at its name; where an item has no such field the answer means nothing

byte_of : Item → ℕ
byte_of (Add table cell part file rows) = 1
byte_of (Remove table file) = 2
byte_of (SetVector table file vector removed) = 3

table_of : Item → List ℕ
table_of (Add table cell part file rows) = table
table_of (Remove table file) = table
table_of (SetVector table file vector removed) = table

cell_of : Item → ℕ
cell_of (Add table cell part file rows) = cell
cell_of (Remove table file) = 0
cell_of (SetVector table file vector removed) = 0

part_of : Item → ℕ
part_of (Add table cell part file rows) = part
part_of (Remove table file) = 0
part_of (SetVector table file vector removed) = 0

file_of : Item → Name
file_of (Add table cell part file rows) = file
file_of (Remove table file) = file
file_of (SetVector table file vector removed) = file

vector_of : Item → Name
vector_of (Add table cell part file rows) = file
vector_of (Remove table file) = file
vector_of (SetVector table file vector removed) = vector

number_of : Item → ℕ
number_of (Add table cell part file rows) = rows
number_of (Remove table file) = 0
number_of (SetVector table file vector removed) = removed

-- what stands behind the byte
body : Item → List ℕ
body (Add table cell part file rows) = text_spelling table ++ (u32_spelling cell ++ (u32_spelling part ++ (name_spelling file ++ (u64_spelling rows ++ []))))
body (Remove table file) = text_spelling table ++ (name_spelling file ++ [])
body (SetVector table file vector removed) = text_spelling table ++ (name_spelling file ++ (name_spelling vector ++ (u64_spelling removed ++ [])))

-- ---- Add

IsAdd : Item → Type 0
IsAdd i = (1 ≡ byte_of i) × IsItem i

record AddFits (i : Item) : Type 0 where
  table : IsText (table_of i)
  cell : cell_of i < 16
  part : IsU32 (part_of i)
  file : IsName File (file_of i)
  rows : IsU64 (number_of i)

add_fits : (i : Item) → IsAdd i → AddFits i
unfolding IsAdd byte_of table_of cell_of part_of file_of number_of
add_fits (Add table cell part file rows) h = record { table = h.1.0; cell = h.1.1; part = h.1.2; file = h.1.3; rows = h.1.4 }
add_fits (Remove table file) h = absurd cc
add_fits (SetVector table file vector removed) h = absurd cc

add_back : (i : Item) → IsAdd i → Add (table_of i) (cell_of i) (part_of i) (file_of i) (number_of i) ≡ i
unfolding IsAdd byte_of table_of cell_of part_of file_of number_of
add_back (Add table cell part file rows) h = refl
add_back (Remove table file) h = absurd cc
add_back (SetVector table file vector removed) h = absurd cc

add_body : (i : Item) → IsAdd i → text_spelling (table_of i) ++ (u32_spelling (cell_of i) ++ (u32_spelling (part_of i) ++ (name_spelling (file_of i) ++ (u64_spelling (number_of i) ++ [])))) ≡ body i
unfolding IsAdd byte_of table_of cell_of part_of file_of number_of body
add_body (Add table cell part file rows) h = refl
add_body (Remove table file) h = absurd cc
add_body (SetVector table file vector removed) h = absurd cc

add_made : (table : List ℕ) (cell part : ℕ) (file : Name) (rows : ℕ) → IsText table → cell < 16 → IsU32 part → IsName File file → IsU64 rows → (i : Item) → Add table cell part file rows ≡ i
    → (rows ≡ number_of i) × ((file ≡ file_of i) × ((part ≡ part_of i) × ((cell ≡ cell_of i) × ((table ≡ table_of i) × IsAdd i))))
unfolding IsAdd byte_of table_of cell_of part_of file_of number_of
add_made table cell part file rows a b c d e i is =
    subst (λ (x : Item). (rows ≡ number_of x) × ((file ≡ file_of x) × ((part ≡ part_of x) × ((cell ≡ cell_of x) × ((table ≡ table_of x) × IsAdd x))))) is (refl, (refl, (refl, (refl, (refl, (refl, (a, b, c, d, e)))))))

add_tie : Ties IsAdd body add_at
unfolding add_at
add_tie =
    Ties-as IsAdd body add_body (λ i h. h) (λ i h. h)
    (Ties-then IsAdd _ table_of (λ table at bytes. checked (λ n. nat_lt n 16) NotCanonical u32_at at bytes >>= λ cell. u32_at cell.1 cell.2 >>= λ part. name_at File part.1 part.2 >>= λ file. u64_at file.1 file.2 >>= λ rows.
    Ok (Add table cell.0 part.0 file.0 rows.0, rows.1, rows.2)) text_tie (λ i h. (add_fits i h).table) (λ table is_table.
    Ties-then (λ i. (table ≡ table_of i) × IsAdd i) _ cell_of (λ cell at bytes. u32_at at bytes >>= λ part. name_at File part.1 part.2 >>= λ file. u64_at file.1 file.2 >>= λ rows.
    Ok (Add table cell part.0 file.0 rows.0, rows.1, rows.2)) (Ties-checked (λ n. nat_lt n 16) NotCanonical u32_tie) (λ i h. let lt = (add_fits i h.1).cell in (lt-ltb _ _ lt, omega (arith, lt))) (λ cell is_cell.
    Ties-then (λ i. (cell ≡ cell_of i) × ((table ≡ table_of i) × IsAdd i)) _ part_of (λ part at bytes. name_at File at bytes >>= λ file. u64_at file.1 file.2 >>= λ rows.
    Ok (Add table cell part file.0 rows.0, rows.1, rows.2)) u32_tie (λ i h. (add_fits i h.1.1).part) (λ part is_part.
    Ties-then (λ i. (part ≡ part_of i) × ((cell ≡ cell_of i) × ((table ≡ table_of i) × IsAdd i))) _ file_of (λ file at bytes. u64_at at bytes >>= λ rows.
    Ok (Add table cell part file rows.0, rows.1, rows.2)) (name_tie File) (λ i h. (add_fits i h.1.1.1).file) (λ file is_file.
    Ties-then (λ i. (file ≡ file_of i) × ((part ≡ part_of i) × ((cell ≡ cell_of i) × ((table ≡ table_of i) × IsAdd i)))) (λ i. []) number_of (λ rows at bytes.
    Ok (Add table cell part file rows, at, bytes)) u64_tie (λ i h. (add_fits i h.1.1.1.1).rows) (λ rows is_rows.
    Ties-as (λ i. (rows ≡ number_of i) × ((file ≡ file_of i) × ((part ≡ part_of i) × ((cell ≡ cell_of i) × ((table ≡ table_of i) × IsAdd i))))) (λ i. []) (λ i h. refl)
    (add_made table cell part file rows is_table (ltb-true _ _ is_cell.0) is_part is_file is_rows)
    (λ i h. let back = add_back i h.1.1.1.1.1 in cc)
    (Ties-made (Add table cell part file rows))))))))

-- ---- Remove

IsRemove : Item → Type 0
IsRemove i = (2 ≡ byte_of i) × IsItem i

remove_fits : (i : Item) → IsRemove i → IsText (table_of i) × IsName File (file_of i)
unfolding IsRemove byte_of table_of file_of
remove_fits (Add table cell part file rows) h = absurd cc
remove_fits (Remove table file) h = h.1
remove_fits (SetVector table file vector removed) h = absurd cc

remove_back : (i : Item) → IsRemove i → Remove (table_of i) (file_of i) ≡ i
unfolding IsRemove byte_of table_of file_of
remove_back (Add table cell part file rows) h = absurd cc
remove_back (Remove table file) h = refl
remove_back (SetVector table file vector removed) h = absurd cc

remove_body : (i : Item) → IsRemove i → text_spelling (table_of i) ++ (name_spelling (file_of i) ++ []) ≡ body i
unfolding IsRemove byte_of table_of file_of body
remove_body (Add table cell part file rows) h = absurd cc
remove_body (Remove table file) h = refl
remove_body (SetVector table file vector removed) h = absurd cc

remove_made : (table : List ℕ) (file : Name) → IsText table → IsName File file → (i : Item) → Remove table file ≡ i → (file ≡ file_of i) × ((table ≡ table_of i) × IsRemove i)
unfolding IsRemove byte_of table_of file_of
remove_made table file a b i is = subst (λ (x : Item). (file ≡ file_of x) × ((table ≡ table_of x) × IsRemove x)) is (refl, (refl, (refl, (a, b))))

remove_tie : Ties IsRemove body remove_at
unfolding remove_at
remove_tie =
    Ties-as IsRemove body remove_body (λ i h. h) (λ i h. h)
    (Ties-then IsRemove _ table_of (λ table at bytes. name_at File at bytes >>= λ file. Ok (Remove table file.0, file.1, file.2)) text_tie (λ i h. (remove_fits i h).0) (λ table is_table.
    Ties-then (λ i. (table ≡ table_of i) × IsRemove i) (λ i. []) file_of (λ file at bytes. Ok (Remove table file, at, bytes)) (name_tie File) (λ i h. (remove_fits i h.1).1) (λ file is_file.
    Ties-as (λ i. (file ≡ file_of i) × ((table ≡ table_of i) × IsRemove i)) (λ i. []) (λ i h. refl)
    (remove_made table file is_table is_file)
    (λ i h. let back = remove_back i h.1.1 in cc)
    (Ties-made (Remove table file)))))

-- ---- SetVector

IsSetVector : Item → Type 0
IsSetVector i = (3 ≡ byte_of i) × IsItem i

record SetVectorFits (i : Item) : Type 0 where
  table : IsText (table_of i)
  file : IsName File (file_of i)
  vector : IsName Vector (vector_of i)
  removed : IsU64 (number_of i)

set_vector_fits : (i : Item) → IsSetVector i → SetVectorFits i
unfolding IsSetVector byte_of table_of file_of vector_of number_of
set_vector_fits (Add table cell part file rows) h = absurd cc
set_vector_fits (Remove table file) h = absurd cc
set_vector_fits (SetVector table file vector removed) h = record { table = h.1.0; file = h.1.1; vector = h.1.2; removed = h.1.3 }

set_vector_back : (i : Item) → IsSetVector i → SetVector (table_of i) (file_of i) (vector_of i) (number_of i) ≡ i
unfolding IsSetVector byte_of table_of file_of vector_of number_of
set_vector_back (Add table cell part file rows) h = absurd cc
set_vector_back (Remove table file) h = absurd cc
set_vector_back (SetVector table file vector removed) h = refl

set_vector_body : (i : Item) → IsSetVector i → text_spelling (table_of i) ++ (name_spelling (file_of i) ++ (name_spelling (vector_of i) ++ (u64_spelling (number_of i) ++ []))) ≡ body i
unfolding IsSetVector byte_of table_of file_of vector_of number_of body
set_vector_body (Add table cell part file rows) h = absurd cc
set_vector_body (Remove table file) h = absurd cc
set_vector_body (SetVector table file vector removed) h = refl

set_vector_made : (table : List ℕ) (file vector : Name) (removed : ℕ) → IsText table → IsName File file → IsName Vector vector → IsU64 removed → (i : Item) → SetVector table file vector removed ≡ i
    → (removed ≡ number_of i) × ((vector ≡ vector_of i) × ((file ≡ file_of i) × ((table ≡ table_of i) × IsSetVector i)))
unfolding IsSetVector byte_of table_of file_of vector_of number_of
set_vector_made table file vector removed a b c d i is =
    subst (λ (x : Item). (removed ≡ number_of x) × ((vector ≡ vector_of x) × ((file ≡ file_of x) × ((table ≡ table_of x) × IsSetVector x)))) is (refl, (refl, (refl, (refl, (refl, (a, b, c, d))))))

set_vector_tie : Ties IsSetVector body set_vector_at
unfolding set_vector_at
set_vector_tie =
    Ties-as IsSetVector body set_vector_body (λ i h. h) (λ i h. h)
    (Ties-then IsSetVector _ table_of (λ table at bytes. name_at File at bytes >>= λ file. name_at Vector file.1 file.2 >>= λ vector. u64_at vector.1 vector.2 >>= λ removed.
    Ok (SetVector table file.0 vector.0 removed.0, removed.1, removed.2)) text_tie (λ i h. (set_vector_fits i h).table) (λ table is_table.
    Ties-then (λ i. (table ≡ table_of i) × IsSetVector i) _ file_of (λ file at bytes. name_at Vector at bytes >>= λ vector. u64_at vector.1 vector.2 >>= λ removed.
    Ok (SetVector table file vector.0 removed.0, removed.1, removed.2)) (name_tie File) (λ i h. (set_vector_fits i h.1).file) (λ file is_file.
    Ties-then (λ i. (file ≡ file_of i) × ((table ≡ table_of i) × IsSetVector i)) _ vector_of (λ vector at bytes. u64_at at bytes >>= λ removed.
    Ok (SetVector table file vector removed.0, removed.1, removed.2)) (name_tie Vector) (λ i h. (set_vector_fits i h.1.1).vector) (λ vector is_vector.
    Ties-then (λ i. (vector ≡ vector_of i) × ((file ≡ file_of i) × ((table ≡ table_of i) × IsSetVector i))) (λ i. []) number_of (λ removed at bytes.
    Ok (SetVector table file vector removed, at, bytes)) u64_tie (λ i h. (set_vector_fits i h.1.1.1).removed) (λ removed is_removed.
    Ties-as (λ i. (removed ≡ number_of i) × ((vector ≡ vector_of i) × ((file ≡ file_of i) × ((table ≡ table_of i) × IsSetVector i)))) (λ i. []) (λ i h. refl)
    (set_vector_made table file vector removed is_table is_file is_vector is_removed)
    (λ i h. let back = set_vector_back i h.1.1.1.1 in cc)
    (Ties-made (SetVector table file vector removed)))))))

-- ---- items by their byte

is_byte : (i : Item) → (is_item_byte (byte_of i) ≡ true) × (byte_of i < 256)
unfolding byte_of
is_byte (Add table cell part file rows) = (refl, omega arith)
is_byte (Remove table file) = (refl, omega arith)
is_byte (SetVector table file vector removed) = (refl, omega arith)

behind : (byte : ℕ) → is_item_byte byte ≡ true → Ties (λ i. (byte ≡ byte_of i) × IsItem i) body (item_behind byte)
unfolding IsAdd IsRemove IsSetVector
behind zero low = absurd cc
behind (suc zero) low = add_tie
behind (suc (suc zero)) low = remove_tie
behind (suc (suc (suc zero))) low = set_vector_tie
behind (suc (suc (suc (suc n)))) low =
    absurd (let both = and_parts (ltb 0 (suc (suc (suc (suc n))))) (ltb (suc (suc (suc (suc n)))) 4) low in omega (arith, ltb-true _ _ both.1))

grouped_3 : (a b c : List ℕ) → a ++ (b ++ (c ++ [])) ≡ (a ++ b) ++ c
grouped_3 a b c = simp (append_assoc, append-nil)

grouped_5 : (a b c d e : List ℕ) → a ++ (b ++ (c ++ (d ++ (e ++ [])))) ≡ (((a ++ b) ++ c) ++ d) ++ e
grouped_5 a b c d e = simp (append_assoc, append-nil)

grouped_6 : (a b c d e f : List ℕ) → a ++ (b ++ (c ++ (d ++ (e ++ (f ++ []))))) ≡ ((((a ++ b) ++ c) ++ d) ++ e) ++ f
grouped_6 a b c d e f = simp (append_assoc, append-nil)

spelled : (i : Item) → (byte_of i ∷ []) ++ body i ≡ item_spelling i
unfolding byte_of body
spelled (Add table cell part file rows) = grouped_6 (1 ∷ []) (text_spelling table) (u32_spelling cell) (u32_spelling part) (name_spelling file) (u64_spelling rows)
spelled (Remove table file) = grouped_3 (2 ∷ []) (text_spelling table) (name_spelling file)
spelled (SetVector table file vector removed) = grouped_5 (3 ∷ []) (text_spelling table) (name_spelling file) (name_spelling vector) (u64_spelling removed)

pub item_tie : Ties IsItem item_spelling item_at
unfolding item_at
item_tie =
    Ties-as IsItem item_spelling (λ i h. spelled i) (λ i h. h) (λ i h. h)
    (Ties-then IsItem body byte_of item_behind (Ties-checked is_item_byte BadTag byte_tie) (λ i h. is_byte i) (λ byte is. behind byte is.0))

-- ---- blocks

pub block_tie : Ties IsBlock block_spelling block_at
unfolding block_at
block_tie =
    Ties-as IsBlock block_spelling (λ items h. sym (append_assoc (codes "LMB1") (u32_spelling (length items)) (flat_map item_spelling items))) (λ items h. h) (λ items h. h)
    (magic_tie (codes "LMB1") IsBlock (λ items. u32_spelling (length items) ++ flat_map item_spelling items) (λ at bytes. checked (λ n. nat_lt 0 n) NotCanonical u32_at at bytes >>= λ count. items_at count.0 count.1 count.2)
    (Ties-then IsBlock (flat_map item_spelling) length items_at (Ties-checked (λ n. nat_lt 0 n) NotCanonical u32_tie) (λ items h. (lt-ltb _ _ (omega (arith, h.some)), h.count))
    (λ count is. Ties-as (λ items. (count ≡ length items) × IsBlock items) (flat_map item_spelling) (λ items h. refl)
    (λ items h. (sym h.0, record { some = omega (arith, h.0, ltb-true _ _ is.0); count = omega (arith, h.0, is.1); each = All-from_recursion IsItem items h.1 }))
    (λ items h. (sym h.0, recursion_from_All IsItem items h.1.each))
    (Ties-repeated count item_tie))))
