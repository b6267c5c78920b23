use Rattle.std.proofs.Common.{◌≡◌, ap, ◌∙◌}
use Rattle.std.specs.BTreeMap.{insert_entry}
use Rattle.lake_values.specs.contracts.names.NameOrd.TheImpl as order
use Rattle.sql_model.specs.Listing.{placed}
use Rattle.table_snapshot.specs.Files.{file_cmp, without_file}
use Rattle.table_snapshot.specs.NamedFiles.{named}
use Rattle.table_snapshot.proofs.MapChanges.{entry_put, values_are, are_by_name}
use Rattle.table_snapshot.proofs.by_name.ByName.put.Goals as goal

lists : (c : goal.In_ok-insert) → c.insert.new.self.entries ≡ named
    (placed file_cmp c.args.file (without_file c.args.file.file c.args.self.now))
lists c =
    rw (← c.self.view_is) (c.in_ok-insert.ensures.entries ∙ ap
    (λ es. insert_entry order.ghosts.cmp es c.args.file.file c.args.file)
    c.self.invariant.names ∙ entry_put c.args.file _ c.self.invariant.order)

pub invariant_of-self-2 : goal.invariant_of-self-2
invariant_of-self-2 c =
    are_by_name _ (placed file_cmp c.args.file (without_file c.args.file.file c.args.self.now))
    (lists c) c.insert.ensures.ordered

pub returns : goal.returns
returns c =
    values_are _ (placed file_cmp c.args.file (without_file c.args.file.file c.args.self.now))
    (lists c)
