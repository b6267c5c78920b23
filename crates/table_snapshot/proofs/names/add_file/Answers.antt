use Rattle.std.proofs.Common.{◌≡◌, ◌||◌, ◌++◌, Bool, Option, true, false, List, [], refl, sym, ap, ◌∙◌}
use Rattle.lake_values.specs.declared.names.Name.{Name}
use Rattle.lake_values.specs.Names.{is_among, same_name}
use Rattle.table_snapshot.specs.Files.{vector_names}
use Rattle.table_snapshot.proofs.NameSets.{both_names}
use Rattle.table_snapshot.proofs.names.add_file.Goals as goal

pub returns-in_ok-add-2 : goal.returns-in_ok-add-2
returns-in_ok-add-2 c = λ q.
    c.in_ok-add-2.ensures q
    ∙ ap (λ (b : Bool). b || same_name q c.in-Some.vector) (c.in_ok-add.ensures q)
    ∙ both_names q _ c.args.file.now.file _ _ c.in-Some.is
