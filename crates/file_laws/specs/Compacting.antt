-- What a compaction writes: for each cell one file in place of the others.
use Rattle.std.specs.Prelude.{◌≡◌, ℕ, ◌==◌, true, false, List, filter}
use Rattle.std.specs.List.{AllByRecursion, flat_map}
use Rattle.lake_values.specs.declared.names.Name.{Name}
use Rattle.sql_model.specs.declared.changes.Mark.{Mark}
use Rattle.sql_model.specs.Changes.{is_nil}
use Rattle.lake_model.specs.Compactions.{is_in_cell}
use Rattle.sql_model.specs.Listing.{SameBag}
use Rattle.manifest_block.specs.declared.items.Item.{Item}
use Rattle.table_snapshot.specs.declared.files.FileRow.{FileRow}
use Rattle.file_laws.specs.Contents.{Contents, live_of}
use Rattle.file_laws.specs.MergeLaw.{is_merged, merge_items}
use Rattle.file_laws.specs.StatementLaws.{Written}
use Rattle.file_laws.specs.Touching.{is_name_of, is_there}

-- the merge of a cell: the file that it writes, and those that it replaces
pub record Merge : Type 0 where
  pub new : Written
  pub olds : List Name

-- the items of a merge, and of some
abbrev pub items_of_merge : List ℕ → Merge → List Item
items_of_merge table m = merge_items table m.new.cell m.new.name m.new.rows m.olds

abbrev pub items_of_merges : List ℕ → List Merge → List Item
items_of_merges table ms = flat_map (items_of_merge table) ms

-- the marks of a cell
abbrev pub marks_of_cell : ℕ → List Mark → List Mark
marks_of_cell cell marks = filter (is_in_cell cell) marks

-- The files that the merge replaces are those of its cell, among these; its own is the
-- transaction's, is there, and has the rows that are left of them.
pub record IsCellMerge (c : Contents) (number : ℕ) (files : List FileRow) (m : Merge) : Type 0 where
  pub own : is_name_of number m.new.name ≡ true
  pub here : c.has m.new.name ≡ true
  pub olds : AllByRecursion (λ f. is_merged m.olds f ≡ (f.cell == m.new.cell)) files
  pub there : AllByRecursion (λ n. is_there n files ≡ true) m.olds
  pub some : is_nil (c.rows m.new.name) ≡ false
  pub rows : SameBag (c.rows m.new.name) (flat_map (live_of c) (filter (is_merged m.olds) files))
