-- How a checkpoint is spelled.
use Rattle.std.specs.Prelude.{◌≡◌, ◌<◌, ◌++◌, ◌∷◌, [], ℕ, true, List, length, Option, None, Some}
use Rattle.std.specs.Prelude.{All, codes}
use Rattle.std.specs.List.{flat_map}
use Rattle.lake_values.specs.declared.names.Kind.TheVariants.{File, Vector}
use Rattle.lake_values.specs.declared.names.Name.{Name}
use Rattle.lake_values.specs.Spelling.{u32_spelling, u64_spelling, text_spelling, name_spelling}
use Rattle.lake_values.specs.Spelling.{IsU32, IsU64, IsText, IsName}
use Rattle.table_snapshot.specs.declared.files.Checkpoint.{Checkpoint}
use Rattle.table_snapshot.specs.declared.files.FileRow.{FileRow}
use Rattle.table_snapshot.specs.Files.{in_order}

-- 0 for none; 1, its name and how many rows are gone
abbrev pub vector_spelling : Option (Name × ℕ) → List ℕ
vector_spelling None = 0 ∷ []
vector_spelling (Some v) = (1 ∷ []) ++ name_spelling v.0 ++ u64_spelling v.1

-- the fields of a file
abbrev pub file_spelling : FileRow → List ℕ
file_spelling f =
    name_spelling f.file
    ++ u64_spelling f.seq
    ++ u32_spelling f.part
    ++ u32_spelling f.cell
    ++ u64_spelling f.rows
    ++ vector_spelling f.vector

abbrev pub checkpoint_of : List ℕ → ℕ → List FileRow → Checkpoint
checkpoint_of table at files = record { table = table; at = at; files = files }

-- the magic, the table, the version, the number of files, and these
abbrev pub checkpoint_spelling : Checkpoint → List ℕ
checkpoint_spelling c =
    codes "LCP1"
    ++ text_spelling c.table
    ++ u64_spelling c.at
    ++ u64_spelling (length c.files)
    ++ flat_map file_spelling c.files

-- What a checkpoint may hold: a cell of the 16, files that are named as files, and vectors as
-- vectors.

abbrev pub IsNamedVector : Option (Name × ℕ) → Type 0
IsNamedVector None = Unit {0}
IsNamedVector (Some v) = v.0.kind ≡ Vector

pub record IsInForm (f : FileRow) : Type 0 where
  pub file : f.file.kind ≡ File
  pub cell : f.cell < 16
  pub vector : IsNamedVector f.vector

-- What has a spelling: files in form whose numbers are those of the types, in order of name.

abbrev pub IsVector : Option (Name × ℕ) → Type 0
IsVector None = Unit {0}
IsVector (Some v) = IsName Vector v.0 × IsU64 v.1

pub record IsFile (f : FileRow) : Type 0 where
  pub name : IsName File f.file
  pub seq : IsU64 f.seq
  pub part : IsU32 f.part
  pub cell : f.cell < 16
  pub rows : IsU64 f.rows
  pub vector : IsVector f.vector

pub record IsCheckpoint (c : Checkpoint) : Type 0 where
  pub table : IsText c.table
  pub at : IsU64 c.at
  pub count : IsU64 (length c.files)
  pub order : in_order c.files ≡ true
  pub each : All IsFile c.files
