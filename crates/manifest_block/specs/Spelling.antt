-- How items, their blocks and manifests are spelled.
use Rattle.std.specs.Prelude.{◌≡◌, ◌<◌, ◌≤◌, ◌++◌, ◌∷◌, [], ℕ, List, length, All, codes}
use Rattle.std.specs.List.{flat_map}
use Rattle.lake_values.specs.declared.names.Kind.TheVariants.{File, Vector}
use Rattle.lake_values.specs.Spelling.{u32_spelling, u64_spelling, text_spelling, name_spelling, IsU32, IsU64, IsText, IsName}
use Rattle.manifest_block.specs.declared.items.Item.{Item}
use Rattle.manifest_block.specs.declared.items.Item.TheVariants.{Add, Remove, SetVector}

-- a byte for its kind, and its fields in order
abbrev pub item_spelling : Item → List ℕ
item_spelling (Add table cell part file rows) = (1 ∷ []) ++ text_spelling table ++ u32_spelling cell ++ u32_spelling part ++ name_spelling file ++ u64_spelling rows
item_spelling (Remove table file) = (2 ∷ []) ++ text_spelling table ++ name_spelling file
item_spelling (SetVector table file vector removed) = (3 ∷ []) ++ text_spelling table ++ name_spelling file ++ name_spelling vector ++ u64_spelling removed

-- the magic, the number of items, and these
abbrev pub block_spelling : List Item → List ℕ
block_spelling items = codes "LMB1" ++ u32_spelling (length items) ++ flat_map item_spelling items

-- its blocks, in order
abbrev pub manifest_spelling : List (List Item) → List ℕ
manifest_spelling blocks = flat_map block_spelling blocks

-- What a block may hold: a cell of the 16, files that are named as files, and vectors as vectors.
abbrev pub IsInForm : Item → Type 0
IsInForm (Add table cell part file rows) = (cell < 16) × (file.kind ≡ File)
IsInForm (Remove table file) = file.kind ≡ File
IsInForm (SetVector table file vector removed) = (file.kind ≡ File) × (vector.kind ≡ Vector)

-- What has a spelling: items in form whose texts and numbers are those of the types.

abbrev pub IsItem : Item → Type 0
IsItem (Add table cell part file rows) = IsText table × (cell < 16) × IsU32 part × IsName File file × IsU64 rows
IsItem (Remove table file) = IsText table × IsName File file
IsItem (SetVector table file vector removed) = IsText table × IsName File file × IsName Vector vector × IsU64 removed

pub record IsBlock (items : List Item) : Type 0 where
  pub some : 1 ≤ length items
  pub count : IsU32 (length items)
  pub each : All IsItem items

pub record IsManifest (blocks : List (List Item)) : Type 0 where
  pub some : 1 ≤ length blocks
  pub each : All IsBlock blocks
