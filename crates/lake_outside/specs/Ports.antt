-- What is said of blocks and blobs.
use Rattle.std.specs.Prelude.{◌≡◌, ℕ, List}
use Rattle.lake_values.specs.declared.names.Name.{Name}

-- a block is of the blob's kind and transaction
abbrev pub IsBlockOf : Name → Name → Type 0
IsBlockOf blob block = (block.kind ≡ blob.kind) × (block.txn ≡ blob.txn)

-- a block, with the bytes that its port tells
pub record ToldBlock : Type 0 where
  pub name : Name
  pub number : ℕ
  pub bytes : List ℕ

-- a blob, with the bytes that its port tells
pub record ToldBlob : Type 0 where
  pub name : Name
  pub bytes : List ℕ

-- a block and a blob, by what their port says of their names, their numbers and their bytes

abbrev pub told_block : {B : Type 0} → (B → Name) → (B → ℕ) → (B → List ℕ) → B → ToldBlock
told_block name number bytes b = record { name = name b; number = number b; bytes = bytes b }

abbrev pub told_blob : {B : Type 0} → (B → Name) → (B → List ℕ) → B → ToldBlob
told_blob name bytes b = record { name = name b; bytes = bytes b }
