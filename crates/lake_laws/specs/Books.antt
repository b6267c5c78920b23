-- The book that a catalogue and a chronicle make: which files the rows give, and what these hold.
use Rattle.std.specs.Prelude.{ℕ, List, [], Result, Ok, Err, map}
use Rattle.std.specs.List.{flat_map}
use Rattle.std.specs.Option.{option_map, option_map_or}
use Rattle.lake_values.specs.declared.faults.Bad.{Bad}
use Rattle.lake_values.specs.declared.values.Value.{Value}
use Rattle.lake_values.specs.Reading.{whole}
use Rattle.lake_outside.specs.Ports.{ToldBlob}
use Rattle.column_file.specs.Reading.{file_at}
use Rattle.deletion_vector.specs.Spelling.{vector_at}
use Rattle.table_snapshot.specs.Reading.{checkpoint_at}
use Rattle.table_snapshot.specs.declared.files.FileRow.{FileRow}
use Rattle.write_set_catalog.specs.Catalogs.{Catalogue, ToldCheck, ToldCommit}
use Rattle.write_set_catalog.specs.declared.rows.CatRow.{CatRow}
use Rattle.file_laws.specs.BlobLaws.{contents_of}
use Rattle.file_laws.specs.Contents.{Contents}
use Rattle.file_laws.specs.Kept.{Book}
use Rattle.file_laws.specs.Stands.{Checkpoint}
use Rattle.file_laws.specs.Touching.{Row}
use Rattle.lake_laws.specs.Chronicles.{Beside, own_items}

-- what bytes tell, where they are read without a fault
abbrev pub told_or_none : {X Y : Type 0} → (X → List Y) → Result X Bad → List Y
told_or_none members (Ok x) = members x
told_or_none members (Err bad) = []

-- the rows of a file, the positions of a vector and the files of a checkpoint, by their bytes

abbrev pub rows_told : List ℕ → List (List Value)
rows_told bytes = told_or_none (λ f. f.rows) (whole file_at bytes)

abbrev pub gone_told : List ℕ → List ℕ
gone_told bytes = told_or_none (λ positions. positions) (whole vector_at bytes)

abbrev pub files_told : List ℕ → List FileRow
files_told bytes = told_or_none (λ c. c.files) (whole checkpoint_at bytes)

-- what the blobs of files and vectors hold
abbrev pub contents_told : List ToldBlob → Contents
contents_told blobs = contents_of rows_told gone_told blobs

-- a row of a commit: its transaction is that of the manifest
abbrev pub row_of : ToldCommit → CatRow → Row
row_of c r = record {
  seq = c.seq;
  txn = option_map_or (λ m. m.name.txn) c.manifest 0;
  table = r.table;
  manifest = option_map (λ m. m.name) c.manifest;
  items = flat_map (λ block. block) c.blocks;
  added = r.added;
  dropped = r.dropped;
  marks = r.marks;
}

abbrev pub rows_of_commit : ToldCommit → List Row
rows_of_commit c = map (row_of c) c.rows

abbrev pub check_of : ToldCheck → Checkpoint
check_of c = record {
  check = record { table = c.table; at = c.at; begun = c.begun; name = c.blob.name };
  files = files_told c.blob.bytes;
}

-- the rows of all commits, the checkpoints, what the blobs hold, and what each session's
-- transaction wrote
abbrev pub book : Catalogue → List Beside → Book
book c entries = record {
  contents = contents_told c.blobs;
  rows = flat_map rows_of_commit c.commits;
  checks = map check_of c.checks;
  items = own_items entries;
}
