use Rattle.std.proofs.Common.{◌≡◌, IsTrue, drop}
use Rattle.std.specs.List.{list_all}
use Rattle.sql_model.specs.Form.{is_set}
use Rattle.sql_model.specs.Mentions as mention
use Rattle.sql_binder.specs.Noting.{noted}
use Rattle.sql_binder.proofs.names.Names.sets.Given as goal

abbrev pub invariant-loop-place : goal.invariant-loop-place
invariant-loop-place l = record {
  told : noted l.self.schemas.now l.faults (mention.in_sets l.scope (drop l.place l.sets)) ≡ noted l.self.schemas.now l.initial.faults (mention.in_sets l.scope l.sets);
  form : IsTrue (list_all is_set (drop l.place l.sets));
}
