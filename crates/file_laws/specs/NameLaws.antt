-- The names that a table has by the rows of a catalogue.
use Rattle.std.specs.Prelude.{◌≡◌, Bool, false, ◌&&◌, ◌||◌, not, List, [], ◌∷◌}
use Rattle.std.specs.List.{list_any}
use Rattle.lake_values.specs.declared.names.Name.{Name}
use Rattle.lake_values.specs.Names.{is_among}
use Rattle.table_snapshot.specs.declared.files.FileRow.{FileRow}
use Rattle.table_snapshot.specs.Files.{items_of, replay}
use Rattle.table_snapshot.specs.Files.{names_in}
use Rattle.file_laws.specs.Touching.{Row, replay_rows}

-- a row drops the name
abbrev pub drops : Name → List Row → Bool
drops name rows = list_any (λ r. is_among name r.dropped) rows

-- a row adds the name, and none behind it drops it
abbrev pub has_name : Name → List Row → Bool
has_name name [] = false
has_name name (r ∷ rs) = has_name name rs || is_among name r.added && not (drops name rs)

-- the row's lists are the names that its table gains and loses by the commit
pub record GainsAndLoses (old new : List FileRow) (r : Row) : Type 0 where
  pub gains :
      (name : Name)
      → is_among name r.added ≡ (is_among name (names_in new) && not (is_among name (names_in old)))
  pub loses :
      (name : Name)
      → is_among name r.dropped
      ≡ (is_among name (names_in old) && not (is_among name (names_in new)))

-- each row tells what its items change of the files that the rows before it left
abbrev pub NamesInTurn : List FileRow → List Row → Type 0
NamesInTurn files [] = Unit {0}
NamesInTurn files (r ∷ rs) =
    let new = replay r.seq (items_of r.table r.items) files in
    GainsAndLoses files new r × NamesInTurn new rs

-- the names of a table's files are those that it has by the rows
abbrev pub NamesAreByRows : Type 0
NamesAreByRows =
    (rows : List Row) → NamesInTurn [] rows → (name : Name)
    → is_among name (names_in (replay_rows rows [])) ≡ has_name name rows
