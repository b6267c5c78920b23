-- How what an attempt writes is staged, and what is in the store once it is sealed.
use Rattle.std.specs.Prelude.{◌≡◌, ◌<◌, ◌+◌, ◌*◌, ◌/◌, ◌∷◌, [], ℕ, List, Option, Some, None, All}
use Rattle.std.specs.Prelude.{length, map, take, drop}
use Rattle.std.specs.List.{flat_map, range_with_len}
use Rattle.std.specs.Option.{option_map, option_map_or}
use Rattle.lake_values.specs.declared.names.Kind.TheVariants.{Manifest}
use Rattle.lake_values.specs.declared.names.Name.{Name}
use Rattle.lake_outside.specs.Ports.{ToldBlob, ToldBlock, IsBlockOf}
use Rattle.manifest_block.specs.declared.items.Item.{Item}
use Rattle.manifest_block.specs.Spelling.{block_spelling}
use Rattle.op_write.specs.declared.keys.WriteKey.{WriteKey}
use Rattle.op_write.specs.Writes.{Output, name_of}

-- how many bytes of a blob a block has; the last one has what is left
abbrev pub block_size : ℕ
block_size = 1048576

-- how many blocks so many bytes are staged in
abbrev pub block_count : ℕ → ℕ
block_count size = (size + 1048575) / block_size

-- the bytes of a blob that its block at a place has, counted from 0
abbrev pub piece_at : List ℕ → ℕ → List ℕ
piece_at bytes place = take block_size (drop (place * block_size) bytes)

-- blocks are numbered from 1
abbrev pub block_at : ToldBlob → ℕ → ToldBlock
block_at blob place =
    record { name = blob.name; number = place + 1; bytes = piece_at blob.bytes place }

abbrev pub blocks_of : ToldBlob → List ToldBlock
blocks_of blob = map (block_at blob) (range_with_len 0 (block_count (length blob.bytes)))

-- the manifest's block of an attempt, if it has items
abbrev pub items_block : WriteKey → List Item → Option ToldBlock
items_block key [] = None
items_block key (i ∷ is) =
    Some (record { name = name_of Manifest key; number = 1; bytes = block_spelling (i ∷ is) })

-- what an attempt has staged: its blob's name and blocks, then the manifest's block, and the items
-- in it
pub record Staged : Type 0 where
  pub name : Option Name
  pub blocks : List ToldBlock
  pub block : Option ToldBlock
  pub items : List Item

abbrev pub staged : WriteKey → Output → Staged
staged key o =
    record {
      name = option_map (λ b. b.name) o.blob;
      blocks = option_map_or blocks_of o.blob [];
      block = items_block key o.items;
      items = o.items;
    }

-- what an attempt that won has put into the store, with the manifest's block, which the commit
-- takes
pub record Written : Type 0 where
  pub blobs : List ToldBlob
  pub block : Option ToldBlock
  pub items : List Item

abbrev pub written : WriteKey → Output → Written
written key o =
    record {
      blobs = option_map_or (λ b. b ∷ []) o.blob [];
      block = items_block key o.items;
      items = o.items;
    }

-- a blob of the blocks, in their order
abbrev pub blob_of : List ToldBlock → Name → ToldBlob
blob_of blocks name = record { name = name; bytes = flat_map (λ b. b.bytes) blocks }

-- what becomes of a staging that is sealed
abbrev pub sealed : Staged → Written
sealed s =
    record {
      blobs = option_map_or (λ name. blob_of s.blocks name ∷ []) s.name [];
      block = s.block;
      items = s.items;
    }

-- Without a name nothing is staged of a blob. With one there is a block, and each is of its kind
-- and transaction.
abbrev pub AreBlocksOf : Option Name → List ToldBlock → Type 0
AreBlocksOf None blocks = blocks ≡ []
AreBlocksOf (Some name) blocks = (0 < length blocks) × All (λ b. IsBlockOf name b.name) blocks

-- names and numbers, which each port tells

pub record NamedBlock : Type 0 where
  pub name : Name
  pub number : ℕ

abbrev pub without_bytes : ToldBlock → NamedBlock
without_bytes b = record { name = b.name; number = b.number }

pub record NamedStaging : Type 0 where
  pub name : Option Name
  pub blocks : List NamedBlock
  pub block : Option NamedBlock
  pub items : List Item

abbrev pub names_staged : Staged → NamedStaging
names_staged s =
    record {
      name = s.name;
      blocks = map without_bytes s.blocks;
      block = option_map without_bytes s.block;
      items = s.items;
    }

pub record NamedWrite : Type 0 where
  pub blobs : List Name
  pub block : Option NamedBlock
  pub items : List Item

abbrev pub names_written : Written → NamedWrite
names_written w =
    record {
      blobs = map (λ b. b.name) w.blobs;
      block = option_map without_bytes w.block;
      items = w.items;
    }
