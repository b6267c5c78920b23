-- The data files of a table, and what the items of manifests make of them.
use Rattle.std.specs.Prelude.{ℕ, Bool, not, List, [], ◌∷◌, Option, None, Some, map, filter}
use Rattle.std.specs.Prelude.{if◌then◌else◌}
use Rattle.std.specs.List.{flat_map}
use Rattle.std.specs.Ordering.{on}
use Rattle.std.specs.declared.cmp.Ordering.{Ordering}
use Rattle.lake_values.specs.declared.names.Name.{Name}
use Rattle.lake_values.specs.Names.{name_cmp, same_name, is_ascending}
use Rattle.lake_values.specs.Texts.{same_text}
use Rattle.sql_model.specs.Listing.{placed}
use Rattle.manifest_block.specs.declared.items.Item.{Item}
use Rattle.manifest_block.specs.declared.items.Item.TheVariants.{Add, Remove, SetVector}
use Rattle.table_snapshot.specs.declared.files.Dated.{Dated}
use Rattle.table_snapshot.specs.declared.files.FileRow.{FileRow}

-- by name
abbrev pub file_cmp : FileRow → FileRow → Ordering
file_cmp = on (λ f. f.file) name_cmp

-- each file stands before the next by its name
abbrev pub in_order : List FileRow → Bool
in_order files = is_ascending (map (λ f. f.file) files)

abbrev pub is_file : Name → FileRow → Bool
is_file name f = same_name name f.file

abbrev pub without_file : Name → List FileRow → List FileRow
without_file name files = filter (λ f. not (is_file name f)) files

-- the file with this vector, if it has the name
abbrev pub with_vector : Name → Name → ℕ → FileRow → FileRow
with_vector name vector removed f =
    if is_file name f then record f { vector = Some (vector, removed) } else f

abbrev pub item_table : Item → List ℕ
item_table (Add table cell part file rows) = table
item_table (Remove table file) = table
item_table (SetVector table file vector removed) = table

abbrev pub item_file : Item → Name
item_file (Add table cell part file rows) = file
item_file (Remove table file) = file
item_file (SetVector table file vector removed) = file

-- the items of a table
abbrev pub items_of : List ℕ → List Item → List Item
items_of table items = filter (λ i. same_text (item_table i) table) items

abbrev pub new_file : ℕ → ℕ → ℕ → Name → ℕ → FileRow
new_file seq cell part file rows = record {
  file = file;
  seq = seq;
  part = part;
  cell = cell;
  rows = rows;
  vector = None;
}

-- What an item of this commit makes of the files of its table. Commit 0 stands for what isn't
-- committed.
abbrev pub after_item : ℕ → List FileRow → Item → List FileRow
after_item seq files (Add table cell part file rows) =
    placed file_cmp (new_file seq cell part file rows) (without_file file files)
after_item seq files (Remove table file) = without_file file files
after_item seq files (SetVector table file vector removed) =
    map (with_vector file vector removed) files

-- what the items of a table make of its files, one after another
abbrev pub replay : ℕ → List Item → List FileRow → List FileRow
replay seq [] files = files
replay seq (i ∷ is) files = replay seq is (after_item seq files i)

-- all items of a manifest
abbrev pub items_in : Dated → List Item
items_in m = flat_map (λ block. block) m.blocks

-- what a manifest makes of a table's files
abbrev pub replay_manifest : List ℕ → Dated → List FileRow → List FileRow
replay_manifest table m files = replay m.seq (items_of table (items_in m)) files

-- what the manifests of commits make of a table's files, one after another
abbrev pub replay_dated : List ℕ → List Dated → List FileRow → List FileRow
replay_dated table [] files = files
replay_dated table (m ∷ ms) files = replay_dated table ms (replay_manifest table m files)

-- the name of a vector, if there is one
abbrev pub vector_names : Option (Name × ℕ) → List Name
vector_names None = []
vector_names (Some v) = v.0 ∷ []

-- the names of the files and their vectors
abbrev pub names_in : List FileRow → List Name
names_in files = flat_map (λ f. f.file ∷ vector_names f.vector) files
