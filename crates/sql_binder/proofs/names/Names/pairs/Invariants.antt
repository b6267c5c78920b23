use Rattle.std.proofs.Common.{◌≡◌, IsTrue, drop}
use Rattle.std.specs.List.{list_all}
use Rattle.sql_model.specs.Form.{is_pair}
use Rattle.sql_model.specs.Mentions as mention
use Rattle.sql_binder.specs.Noting.{noted}
use Rattle.sql_binder.proofs.names.Names.pairs.Given as goal

abbrev pub invariant-loop-pair : goal.invariant-loop-pair
invariant-loop-pair l = record {
  told : noted l.self.schemas.now l.faults (mention.each (mention.in_pair l.scope) (drop l.pair-index l.pairs)) ≡ noted l.self.schemas.now l.initial.faults (mention.each (mention.in_pair l.scope) l.pairs);
  form : IsTrue (list_all is_pair (drop l.pair-index l.pairs));
}
