use Rattle.std.proofs.Common.{◌≡◌, IsTrue, drop}
use Rattle.std.specs.List.{list_all}
use Rattle.sql_model.specs.Form.{is_item}
use Rattle.sql_model.specs.Mentions as mention
use Rattle.sql_binder.specs.Noting.{noted}
use Rattle.sql_binder.proofs.names.Names.items.Given as goal

abbrev pub invariant-loop-item : goal.invariant-loop-item
invariant-loop-item l = record {
  told : noted l.self.schemas.now l.faults (mention.each (mention.in_item l.scope) (drop l.item-index l.items)) ≡ noted l.self.schemas.now l.initial.faults (mention.each (mention.in_item l.scope) l.items);
  form : IsTrue (list_all is_item (drop l.item-index l.items));
}
