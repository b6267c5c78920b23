-- How items, their blocks and manifests are read.
use Rattle.std.specs.Prelude.{◌==◌, ◌&&◌, ◌∷◌, [], ℕ, Bool, zero, suc, List, length, Result, Ok, nat_lt, codes, if◌then◌else◌}
use Rattle.lake_values.specs.declared.faults.Bad.{Bad}
use Rattle.lake_values.specs.declared.faults.BadKind.TheVariants.{BadTag, NotCanonical}
use Rattle.lake_values.specs.declared.names.Kind.TheVariants.{File, Vector}
use Rattle.lake_values.specs.Reading.{Reader, ◌>>=◌, checked, byte_at, u32_at, u64_at, text_at, name_at, magic_at, repeated_at}
use Rattle.manifest_block.specs.declared.items.Item.{Item}
use Rattle.manifest_block.specs.declared.items.Item.TheVariants.{Add, Remove, SetVector}

-- the fields of an item behind its byte

unfoldable pub add_at : Reader Item
add_at at bytes = do
  table ← text_at at bytes
  cell ← checked (λ n. nat_lt n 16) NotCanonical u32_at table.1 table.2
  part ← u32_at cell.1 cell.2
  file ← name_at File part.1 part.2
  rows ← u64_at file.1 file.2
  Ok (Add table.0 cell.0 part.0 file.0 rows.0, rows.1, rows.2)

unfoldable pub remove_at : Reader Item
remove_at at bytes = do
  table ← text_at at bytes
  file ← name_at File table.1 table.2
  Ok (Remove table.0 file.0, file.1, file.2)

unfoldable pub set_vector_at : Reader Item
set_vector_at at bytes = do
  table ← text_at at bytes
  file ← name_at File table.1 table.2
  vector ← name_at Vector file.1 file.2
  removed ← u64_at vector.1 vector.2
  Ok (SetVector table.0 file.0 vector.0 removed.0, removed.1, removed.2)

abbrev pub item_behind : ℕ → Reader Item
item_behind byte at bytes =
    if byte == 1 then add_at at bytes else
    if byte == 2 then remove_at at bytes else
    set_vector_at at bytes

-- the byte of an item is 1, 2 or 3
abbrev pub is_item_byte : ℕ → Bool
is_item_byte byte = nat_lt 0 byte && nat_lt byte 4

unfoldable pub item_at : Reader Item
item_at at bytes = do
  byte ← checked is_item_byte BadTag byte_at at bytes
  item_behind byte.0 byte.1 byte.2

-- so many items, one after the other
abbrev pub items_at : ℕ → Reader (List Item)
items_at count = repeated_at count item_at

unfoldable pub block_at : Reader (List Item)
block_at at bytes = do
  magic ← magic_at (codes "LMB1") at bytes
  count ← checked (λ n. nat_lt 0 n) NotCanonical u32_at magic.1 magic.2
  items_at count.0 count.1 count.2

-- one or more blocks up to the end of the bytes, no more of them than the bound
unfoldable pub blocks_at : ℕ → ℕ → List ℕ → Result (List (List Item)) Bad
blocks_at zero at bytes = Ok []
blocks_at (suc bound) at bytes = do
  first ← block_at at bytes
  if length first.2 == 0 then Ok (first.0 ∷ []) else (blocks_at bound first.1 first.2 >>= λ others. Ok (first.0 ∷ others))

-- all of the bytes; each block takes one of them at least
unfoldable pub manifest_of : List ℕ → Result (List (List Item)) Bad
manifest_of bytes = blocks_at (suc (length bytes)) 0 bytes
