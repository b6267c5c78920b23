use Rattle.std.proofs.Common.{◌≡◌, IsTrue, drop}
use Rattle.std.specs.List.{list_all}
use Rattle.sql_model.specs.Form.{are_names}
use Rattle.sql_model.specs.Mentions as mention
use Rattle.sql_binder.specs.Noting.{noted}
use Rattle.sql_binder.proofs.names.Names.references.Given as goal

abbrev pub invariant-loop-reference : goal.invariant-loop-reference
invariant-loop-reference l = record {
  told : noted l.self.schemas.now l.faults (mention.each (mention.in_ref l.scope) (drop l.reference-index l.references)) ≡ noted l.self.schemas.now l.initial.faults (mention.each (mention.in_ref l.scope) l.references);
  form : IsTrue (list_all are_names (drop l.reference-index l.references));
}
