-- Names of blobs: which of them a version or a transaction may have.
use Rattle.std.specs.Prelude.{◌==◌, Bool, ◌||◌, not, List, ◌++◌, filter}
use Rattle.lake_values.specs.Names.{kind_rank, is_among}
use Rattle.lake_values.specs.declared.names.Name.{Name}

-- what holds rows, or tells which of them are gone
abbrev pub holds_rows : Name → Bool
holds_rows name = kind_rank name.kind == 0 || kind_rank name.kind == 1

abbrev pub is_checkpoint : Name → Bool
is_checkpoint name = kind_rank name.kind == 3

-- the names of a version after a commit that drops these and adds those
abbrev pub names_after : List Name → List Name → List Name → List Name
names_after dropped added names = filter (λ n. not (is_among n dropped)) names ++ added
