-- What the blobs that a catalogue keeps hold, and what new vectors hold.
use Rattle.std.specs.Prelude.{◌≡◌, ℕ, Bool, true, List, [], ◌++◌, find}
use Rattle.std.specs.List.{AllByRecursion, list_any}
use Rattle.std.specs.Option.{option_map_or}
use Rattle.lake_values.specs.declared.names.Name.{Name}
use Rattle.lake_values.specs.declared.values.Value.{Value}
use Rattle.sql_model.specs.declared.changes.Mark.{Mark}
use Rattle.sql_model.specs.declared.changes.MarkedRow.{MarkedRow}
use Rattle.lake_outside.specs.Ports.{ToldBlob}
use Rattle.lake_values.specs.Names.{same_name}
use Rattle.table_snapshot.specs.declared.files.FileRow.{FileRow}
use Rattle.file_laws.specs.Contents.{Contents}
use Rattle.table_snapshot.specs.Files.{names_in}
use Rattle.file_laws.specs.Standing.{FilesStand}

-- the bytes of the first blob of the name
abbrev pub bytes_of : List ToldBlob → Name → List ℕ
bytes_of blobs name = option_map_or (λ b. b.bytes) (find (λ b. same_name name b.name) blobs) []

-- a blob of the name is there
abbrev pub is_held : List ToldBlob → Name → Bool
is_held blobs name = list_any (λ b. same_name name b.name) blobs

-- what the blobs hold, by how files and vectors are read
abbrev pub contents_of : (List ℕ → List (List Value)) → (List ℕ → List ℕ) → List ToldBlob → Contents
contents_of rows gone blobs = record {
  has = is_held blobs;
  rows = λ name. rows (bytes_of blobs name);
  gone = λ name. gone (bytes_of blobs name);
}

-- Further blobs change nothing for files whose blobs are there.
abbrev pub StandsOverMoreBlobs : Type 0
StandsOverMoreBlobs =
    (read_rows : List ℕ → List (List Value)) (read_gone : List ℕ → List ℕ)
    (blobs more : List ToldBlob)
    (table : List ℕ) (files : List FileRow) (rows : List MarkedRow) (worn : List Mark)
    → AllByRecursion (λ n. is_held blobs n ≡ true) (names_in files)
    → FilesStand (contents_of read_rows read_gone blobs) table files rows worn
    → FilesStand (contents_of read_rows read_gone (blobs ++ more)) table files rows worn
