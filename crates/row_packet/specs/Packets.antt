-- Packets: rows of one width.
use Rattle.std.specs.Prelude.{◌≡◌, ◌==◌, ℕ, List, [], All, map, filter, length, slice_get, slice_index_or, unwrap_or}
use Rattle.std.specs.List.{flat_map, range_with_len}
use Rattle.lake_values.specs.declared.values.Value.{Value}
use Rattle.lake_values.specs.declared.values.Value.TheVariants.{Null}
use Rattle.lake_values.specs.Cells.{cell}
use Rattle.lake_values.specs.Rows.{value_at}

-- the rows of a packet, and how many values each of them has
pub record PacketRows : Type 0 where
  pub width : ℕ
  pub rows : List (List Value)

-- each row has this width
abbrev pub HaveWidth : ℕ → List (List Value) → Type 0
HaveWidth width rows = All (λ row. length row ≡ width) rows

-- a row by its place; behind the last row it has no values
abbrev pub row_at : List (List Value) → ℕ → List Value
row_at rows place = slice_index_or rows place []

-- the rows whose value in the column has this cell, in their order
abbrev pub rows_of_cell : ℕ → List (List Value) → ℕ → List (List Value)
rows_of_cell column rows k = filter (λ row. cell (value_at row column) == k) rows

-- a packet for each of the 16 cells, in their order
unfoldable pub cells_of : ℕ → PacketRows → List PacketRows
cells_of column p = map (λ k. record { width = p.width; rows = rows_of_cell column p.rows k }) (range_with_len 0 16)

-- the rows of all packets, in their order
abbrev pub rows_of_all : List PacketRows → List (List Value)
rows_of_all packets = flat_map (λ p. p.rows) packets
