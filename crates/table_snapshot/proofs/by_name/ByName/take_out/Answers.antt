use Rattle.std.proofs.Common.{◌≡◌, ap, ◌∙◌}
use Rattle.std.specs.Map.{remove_entry}
use Rattle.table_snapshot.specs.Files.{without_file}
use Rattle.table_snapshot.specs.NamedFiles.{named}
use Rattle.table_snapshot.proofs.MapChanges.{entry_out, values_are, are_by_name}
use Rattle.table_snapshot.proofs.by_name.ByName.take_out.Goals as goal

lists : (c : goal.After-remove) → c.remove.new.self.entries ≡ named
    (without_file c.args.name.now c.args.self.now)
lists c =
    rw (← c.self.view_is) (c.remove.ensures.entries ∙ ap (remove_entry _) c.self.invariant.names ∙
    entry_out c.args.name.now _ c.self.invariant.order)

pub invariant_of-self : goal.invariant_of-self
invariant_of-self c =
    are_by_name _ (without_file c.args.name.now c.args.self.now) (lists c) c.remove.ensures.ordered

pub returns : goal.returns
returns c = values_are _ (without_file c.args.name.now c.args.self.now) (lists c)
