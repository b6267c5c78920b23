-- Files with their names, as a map lists them.
use Rattle.std.specs.Prelude.{◌≡◌, true, List, map}
use Rattle.std.specs.Map.{values_of}
use Rattle.lake_values.specs.declared.names.Name.{Name}
use Rattle.table_snapshot.specs.declared.files.FileRow.{FileRow}
use Rattle.table_snapshot.specs.Files.{in_order}

-- each file behind its name
abbrev pub named : List FileRow → List (Name × FileRow)
named files = map (λ f. (f.file, f)) files

-- entries of files in order, each at its file's name
pub record AreByName (entries : List (Name × FileRow)) : Type 0 where
  pub names : entries ≡ named (values_of entries)
  pub order : in_order (values_of entries) ≡ true
