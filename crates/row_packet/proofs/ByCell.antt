-- The rows of a packet by their cells, a row at a time.
use Rattle.std.proofs.Common.{◌≡◌, ◌≢◌, ℕ, ◌<◌, ◌==◌, Bool, cond, List, [], ◌∷◌, ◌++◌, length, replicate, get_or, set, sym, ap, ◌∙◌, inl, inr, arith}
use Rattle.std.proofs.lemmas.Bool.{eq-eqb, ne_eqb, cases_eq}
use Rattle.std.proofs.lemmas.List.{append-nil, length-set, get_or-set_same, get_or-set_other}
use Rattle.std.proofs.lemmas.List.Elements.{filter-append}
use Rattle.std.proofs.lemmas.List.FromFn.{length-map-range_with_len, get_or-map-range_with_len, fill_by_all}
use Rattle.lake_values.specs.declared.values.Value.{Value}
use Rattle.lake_values.specs.Cells.{cell}
use Rattle.row_packet.specs.Packets.{PacketRows, rows_of_cell, cells_of}
use Rattle.lake_values.specs.Rows.{value_at}
use Rattle.row_packet.proofs.Lookups.{value_at_read}

-- the packet of a cell
abbrev part : ℕ → PacketRows → ℕ → PacketRows
part column p k = record { width = p.width; rows = rows_of_cell column p.rows k }

-- a row goes behind the rows of its own cell
taken : (column k : ℕ) (rows : List (List Value)) (row : List Value) → cell (value_at row column) ≡ k → rows_of_cell column (rows ++ row ∷ []) k ≡ rows_of_cell column rows k ++ row ∷ []
taken column k rows row e =
    filter-append (λ r. cell (value_at r column) == k) rows (row ∷ []) ∙ ap (λ (b : Bool). rows_of_cell column rows k ++ cond b (row ∷ []) []) (eq-eqb (cell (value_at row column)) k e)

-- and to no other
left_out : (column k : ℕ) (rows : List (List Value)) (row : List Value) → k ≢ cell (value_at row column) → rows_of_cell column (rows ++ row ∷ []) k ≡ rows_of_cell column rows k
left_out column k rows row ne =
    filter-append (λ r. cell (value_at r column) == k) rows (row ∷ []) ∙ ap (λ (b : Bool). rows_of_cell column rows k ++ cond b (row ∷ []) []) (ne_eqb (cell (value_at row column)) k (λ e. ne (sym e))) ∙ append-nil (rows_of_cell column rows k)

pub no_rows : (column width : ℕ) (parts : List PacketRows) → parts ≡ replicate 16 (record { width = width; rows = [] }) → parts ≡ cells_of column (record { width = width; rows = [] })
unfolding cells_of
no_rows column width parts e = e

pub length_parts : (column : ℕ) (p : PacketRows) (parts : List PacketRows) → parts ≡ cells_of column p → length parts ≡ 16
unfolding cells_of
length_parts column p parts e = ap (λ (ps : List PacketRows). length ps) e ∙ length-map-range_with_len (part column p) 0 16

pub width_of_part : (column c : ℕ) (p : PacketRows) (parts : List PacketRows) (old : PacketRows) → c < 16 → parts ≡ cells_of column p → old ≡ get_or parts c old → old.width ≡ p.width
unfolding cells_of
width_of_part column c p parts old within e is =
    ap (λ (o : PacketRows). o.width) (is ∙ ap (λ (ps : List PacketRows). get_or ps c old) e ∙ get_or-map-range_with_len (part column p) 0 16 c c old within (omega arith))

-- the cell of the value that indexing found
pub cell_read : (column c : ℕ) (row values : List Value) (v : Value) → column < length values → values ≡ row → v ≡ get_or values column v → c ≡ cell v → c ≡ cell (value_at row column)
cell_read column c row values v within same is_value is_cell = is_cell ∙ ap cell (value_at_read values column v within is_value ∙ ap (λ (r : List Value). value_at r column) same)

-- a row behind the others, in the packet of its cell
pub one_more : (column width : ℕ) (done : List (List Value)) (row : List Value) (c : ℕ) (parts : List PacketRows) (old new : PacketRows) → c < 16 → c ≡ cell (value_at row column)
    → parts ≡ cells_of column (record { width = width; rows = done }) → old ≡ get_or parts c old → new ≡ record { width = old.width; rows = old.rows ++ row ∷ [] }
    → set parts c new ≡ cells_of column (record { width = width; rows = done ++ row ∷ [] })
unfolding cells_of
one_more column width done row c parts old new within is_cell is_parts is_old is_new =
    let before : ℕ → PacketRows = part column (record { width = width; rows = done }) in
    let after : ℕ → PacketRows = part column (record { width = width; rows = done ++ row ∷ [] }) in
    let at : (k : ℕ) (d : PacketRows) → k < 16 → get_or parts k d ≡ before k = λ k d lt. ap (λ (ps : List PacketRows). get_or ps k d) is_parts ∙ get_or-map-range_with_len before 0 16 k k d lt (omega arith) in
    let count : length parts ≡ 16 = length_parts column (record { width = width; rows = done }) parts is_parts in
    let old_is : old ≡ before c = is_old ∙ at c old within in
    let new_is : new ≡ after c = is_new ∙ ap (λ (p : PacketRows). record { width = p.width; rows = p.rows ++ row ∷ [] }) old_is ∙ ap (λ (rs : List (List Value)). record { width = width; rows = rs }) (sym (taken column c done row (sym is_cell))) in
    fill_by_all after (set parts c new) 16 new (length-set parts c new ∙ count) (λ k lt.
    elim (cases_eq k c) [
      | inl e ↦ ap (λ (j : ℕ). get_or (set parts c new) j new) e ∙ get_or-set_same parts c new new (omega arith) ∙ new_is ∙ ap after (sym e)
      | inr ne ↦ get_or-set_other parts c k new new ne ∙ at k new lt ∙ ap (λ (rs : List (List Value)). record { width = width; rows = rs }) (sym (left_out column k done row (λ e. ne (e ∙ sym is_cell))))
    ])
