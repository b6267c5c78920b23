-- What the items of a statement are: for each file of what it sees of a table the rows that it
-- removes, and a file of the rows that it adds for each cell.
use Rattle.std.specs.Prelude.{◌≡◌, ℕ, Bool, true, false, not, List, [], ◌∷◌, filter}
use Rattle.std.specs.List.{AllByRecursion}
use Rattle.lake_values.specs.declared.names.Name.{Name}
use Rattle.lake_values.specs.declared.values.Value.{Value}
use Rattle.sql_model.specs.Changes.{is_nil}
use Rattle.data_cell.specs.Live.{live_rows}
use Rattle.manifest_block.specs.declared.items.Item.{Item}
use Rattle.manifest_block.specs.declared.items.Item.TheVariants.{Remove, SetVector}
use Rattle.table_snapshot.specs.declared.files.FileRow.{FileRow}
use Rattle.table_snapshot.specs.Files.{is_file}
use Rattle.file_laws.specs.Contents.{Contents, live_of}

-- a statement's removals: which rows it removes, and for each file the name and the count of the
-- vector that it writes where some rows stay
pub record Removal : Type 0 where
  pub matches : List Value → Bool
  pub vector : Name → Name × ℕ

-- no row of the file is removed
abbrev pub removes_none : Contents → Removal → FileRow → Bool
removes_none c r f = is_nil (filter r.matches (live_of c f))

-- no row of the file stays
abbrev pub leaves_none : Contents → Removal → FileRow → Bool
leaves_none c r f = is_nil (filter (λ row. not (r.matches row)) (live_of c f))

-- what it says of a file: nothing, that no row stays, or which vector the file has
abbrev pub items_by : Bool → Bool → List ℕ → Removal → FileRow → List Item
items_by true none table r f = []
items_by false true table r f = Remove table f.file ∷ []
items_by false false table r f = SetVector table f.file (r.vector f.file).0 (r.vector f.file).1 ∷ []

-- the items of the removal from a file
abbrev pub mark_items : Contents → List ℕ → Removal → FileRow → List Item
mark_items c table r f = items_by (removes_none c r f) (leaves_none c r f) table r f

-- where some rows of the file are removed and some stay, its new vector holds what is gone then
abbrev pub IsVectorBy : Bool → Bool → Contents → Removal → FileRow → Type 0
IsVectorBy false false c r f =
    live_rows (c.gone (r.vector f.file).0) (c.rows f.file)
    ≡ filter (λ row. not (r.matches row)) (live_of c f)
IsVectorBy none leaves c r f = Unit {0}

-- the same, by which rows of the file are removed
abbrev pub HasVector : Contents → Removal → FileRow → Type 0
HasVector c r f = IsVectorBy (removes_none c r f) (leaves_none c r f) c r f

-- no two files have one name
abbrev pub HaveOwnNames : List FileRow → Type 0
HaveOwnNames [] = Unit {0}
HaveOwnNames (f ∷ fs) = AllByRecursion (λ g. is_file f.file g ≡ false) fs × HaveOwnNames fs
