-- The value in a column of a row, by what indexing returned.
use Rattle.std.proofs.Common.{◌≡◌, ℕ, ◌<◌, List, length, get_or, sym, ap, ◌∙◌, subst}
use Rattle.std.proofs.lemmas.List.{get_or_read}
use Rattle.std.proofs.lemmas.List.Elements.{All-get_or}
use Rattle.std.proofs.lemmas.Option.{unwrap_or-slice_get}
use Rattle.lake_values.specs.declared.values.Value.{Value}
use Rattle.lake_values.specs.declared.values.Value.TheVariants.{Null}
use Rattle.row_packet.specs.Packets.{HaveWidth}
use Rattle.lake_values.specs.Rows.{value_at}

pub value_at_read : (row : List Value) (i : ℕ) (v : Value) → i < length row → v ≡ get_or row i v → v ≡ value_at row i
value_at_read row i v lt is = get_or_read row i v lt is Null ∙ sym (unwrap_or-slice_get row i Null)

-- the row that indexing found has the width
pub length_read : (width : ℕ) (rows : List (List Value)) (r : ℕ) (row : List Value) → HaveWidth width rows → r < length rows → row ≡ get_or rows r row → length row ≡ width
length_read width rows r row widths within is = ap (λ (x : List Value). length x) is ∙ All-get_or (λ x. length x ≡ width) rows r row within widths

-- the value that indexing found in the values of a row
pub value_read : (row values : List Value) (i : ℕ) (v : Value) → values ≡ row → i < length values → v ≡ get_or values i v → v ≡ value_at row i
value_read row values i v same within is =
    value_at_read row i v (subst (λ (l : List Value). i < length l) same within) (subst (λ (l : List Value). v ≡ get_or l i v) same is)
