-- Blobs that are added, and vectors that are written.
use Rattle.std.proofs.Common.{◌≡◌, ℕ, true, false, ◌||◌, cond, List, [], ◌∷◌, ◌++◌, Option, None}
use Rattle.std.proofs.Common.{Some, map, refl, ap, ◌∙◌}
use Rattle.std.specs.Prelude.{find}
use Rattle.std.specs.List.{AllByRecursion}
use Rattle.std.specs.Option.{option_map_or}
use Rattle.lake_values.specs.declared.names.Name.{Name}
use Rattle.lake_values.specs.declared.values.Value.{Value}
use Rattle.sql_model.specs.Changes.{is_nil}
use Rattle.sql_model.specs.Listing.{weight}
use Rattle.lake_values.specs.Names.{same_name}
use Rattle.sql_model.proofs.Lists.{all_both, all_parts}
use Rattle.data_cell.specs.Live.{live_rows}
use Rattle.table_snapshot.specs.declared.files.FileRow.{FileRow}
use Rattle.file_laws.specs.BlobLaws.{StandsOverMoreBlobs, bytes_of, contents_of, is_held}
use Rattle.lake_outside.specs.Ports.{ToldBlob}
use Rattle.file_laws.specs.Contents.{Contents, live_of, mark_of, rows_in, with_mark}
use Rattle.table_snapshot.specs.Files.{names_in, vector_names}

-- the first blob of a name that is held

pub same_bytes : (name : Name) (blobs more : List ToldBlob) → is_held blobs name ≡ true → bytes_of
    (blobs ++ more) name ≡ bytes_of blobs name
same_bytes name [] more e = absurd cc
same_bytes name (b ∷ bs) more e =
    elim (same_name name b.name) as (λ x. (x || is_held bs name) ≡ true → option_map_or
    (λ b. b.bytes) (cond x (Some b) (find (λ b. same_name name b.name) (bs ++ more))) [] ≡
    option_map_or (λ b. b.bytes) (cond x (Some b) (find (λ b. same_name name b.name) bs)) []) [
      | true ↦ λ e. refl
      | false ↦ λ e. same_bytes name bs more e
    ] e

module _ (read_rows : List ℕ → List (List Value)) (read_gone : List ℕ → List ℕ)
    (blobs more : List ToldBlob) (table : List ℕ) where
  abbrev old : Contents
  old = contents_of read_rows read_gone blobs

  abbrev new : Contents
  new = contents_of read_rows read_gone (blobs ++ more)

  one_same : (f : FileRow) → is_held blobs f.file ≡ true → (v : Option (Name × ℕ)) → AllByRecursion
      (λ n. is_held blobs n ≡ true) (vector_names v)
      → live_rows (option_map_or (λ v. new.gone v.0) v []) (new.rows f.file) ≡ live_rows
      (option_map_or (λ v. old.gone v.0) v []) (old.rows f.file)
  one_same f held None all = ap (λ (bytes : List ℕ). live_rows [] (read_rows bytes))
      (same_bytes f.file blobs more held)
  one_same f held (Some v) all = λ i. live_rows (read_gone (same_bytes v.0 blobs more all.0 i))
      (read_rows (same_bytes f.file blobs more held i))

  live_same : (files : List FileRow) → AllByRecursion (λ n. is_held blobs n ≡ true) (names_in files)
      → AllByRecursion (λ f. live_of new f ≡ live_of old f) files
  live_same [] all = tt
  live_same (f ∷ fs) all =
      let both = all_parts (λ n. is_held blobs n ≡ true) (vector_names f.vector) (names_in fs) all.1
      in
      (one_same f all.0 f.vector both.0, live_same fs both.1)

  rows_same : (files : List FileRow) → AllByRecursion (λ f. live_of new f ≡ live_of old f) files →
      rows_in new table files ≡ rows_in old table files
  rows_same [] all = refl
  rows_same (f ∷ fs) all = λ i. map (with_mark (mark_of table f)) (all.0 i) ++ rows_same fs all.1 i

pub stands_over_more_blobs : StandsOverMoreBlobs
stands_over_more_blobs read_rows read_gone blobs more table files rows worn held stands =
    let same = live_same read_rows read_gone blobs more table files held in
    record {
      same = λ g. ap (weight g) (rows_same read_rows read_gone blobs more table files same) ∙
          stands.same g;
      vectors = stands.vectors;
      filled = all_both files (λ f is filled. ap is_nil is ∙ filled) same stands.filled;
      one_each = stands.one_each;
    }
