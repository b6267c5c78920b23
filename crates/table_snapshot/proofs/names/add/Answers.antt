use Rattle.std.proofs.Common.{◌≡◌, ◌||◌, Bool, sym, ap, ◌∙◌}
use Rattle.lake_values.specs.Names.{same_name}
use Rattle.table_snapshot.proofs.NameSets.{among_keys, with_name}
use Rattle.table_snapshot.proofs.names.add.Goals as goal

pub returns : goal.returns
returns c = λ q.
    sym (among_keys q c.insert.new.self.keys)
    ∙ with_name c.args.name q _ _ (c.in_ok-insert.ensures.updates.0 q)
    ∙ ap (λ (b : Bool). b || same_name q c.args.name) (among_keys q c.args.names.now.keys)
