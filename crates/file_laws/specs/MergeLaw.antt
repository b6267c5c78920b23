-- What a merge makes of the files of a table: one file in place of those of a cell.
use Rattle.std.specs.Prelude.{◌≡◌, ℕ, Bool, true, false, List, ◌∷◌, map, filter}
use Rattle.std.specs.List.{AllByRecursion, flat_map, list_any}
use Rattle.lake_values.specs.declared.names.Name.{Name}
use Rattle.sql_model.specs.declared.changes.Mark.{Mark}
use Rattle.sql_model.specs.declared.changes.MarkedRow.{MarkedRow}
use Rattle.sql_model.specs.Changes.{is_nil}
use Rattle.lake_model.specs.Compactions.{replaced}
use Rattle.sql_model.specs.Listing.{SameBag}
use Rattle.lake_values.specs.Names.{same_name}
use Rattle.manifest_block.specs.declared.items.Item.{Item}
use Rattle.manifest_block.specs.declared.items.Item.TheVariants.{Add, Remove}
use Rattle.table_snapshot.specs.declared.files.FileRow.{FileRow}
use Rattle.file_laws.specs.Contents.{Contents, live_of, mark_of}
use Rattle.table_snapshot.specs.Files.{new_file, replay}
use Rattle.file_laws.specs.Standing.{FilesStand, files_marked}
use Rattle.file_laws.specs.Touching.{is_marked, is_there}

-- the file is one of those that are merged
abbrev pub is_merged : List Name → FileRow → Bool
is_merged olds f = list_any (λ n. same_name n f.file) olds

-- the new file is added, and each of the old is removed
abbrev pub merge_items : List ℕ → ℕ → Name → ℕ → List Name → List Item
merge_items table cell name count olds =
    Add table cell 1 name count ∷ map (λ n. Remove table n) olds

-- The new file has the rows that are left of the merged files, which are those of the marks and of
-- the cell; its name and its mark are new.
pub record IsMerge
    (c : Contents) (table : List ℕ) (seq cell count : ℕ) (name : Name) (olds : List Name)
    (marks : List Mark) (files : List FileRow) (worn : List Mark) : Type 0 where
  pub marked : AllByRecursion (λ f. is_marked marks (mark_of table f) ≡ is_merged olds f) files
  pub cells : AllByRecursion (λ f. is_merged olds f ≡ true → f.cell ≡ cell) files
  pub rows : SameBag (c.rows name) (flat_map (live_of c) (filter (is_merged olds) files))
  pub some : is_nil (c.rows name) ≡ false
  pub absent : is_there name files ≡ false
  pub not_old : list_any (λ n. same_name n name) olds ≡ false
  pub unused : files_marked table (mark_of table (new_file seq cell 1 name count)) files ≡ 0
  pub unworn : is_marked worn (mark_of table (new_file seq cell 1 name count)) ≡ false

-- The files after a merge stand for the rows, of which those with the marks have the new file's.
abbrev pub StandsAfterMerge : Type 0
StandsAfterMerge =
    (c : Contents) (table : List ℕ) (seq cell count : ℕ) (name : Name) (olds : List Name)
    (marks : List Mark) (files : List FileRow) (rows : List MarkedRow) (worn : List Mark)
    → FilesStand c table files rows worn → IsMerge c table seq cell count name olds marks files worn
    → FilesStand c table (replay seq (merge_items table cell name count olds) files)
    (map (replaced seq marks) rows) worn
