use Rattle.std.proofs.Common.{◌≡◌, take}
use Rattle.std.specs.BTreeSet.{keys}
use Rattle.lake_values.specs.declared.names.Name.{Name}
use Rattle.lake_values.specs.Names.{is_among}
use Rattle.table_snapshot.specs.Files.{names_in}
use Rattle.table_snapshot.proofs.names.names_of.Given as goal

abbrev pub invariant-loop-file : goal.invariant-loop-file
invariant-loop-file l =
    (q : Name) → is_among q (keys l.names) ≡ is_among q (names_in (take l.file-index l.file-items))
