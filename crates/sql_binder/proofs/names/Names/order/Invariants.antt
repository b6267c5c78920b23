use Rattle.std.proofs.Common.{◌≡◌, drop}
use Rattle.sql_model.specs.Mentions as mention
use Rattle.sql_binder.specs.Noting.{noted}
use Rattle.sql_binder.proofs.names.Names.order.Given as goal

abbrev pub invariant-loop-key : goal.invariant-loop-key
invariant-loop-key l = noted l.self.schemas.now l.faults (mention.each (λ k. mention.one (mention.key (mention.output_names l.scope l.query) k.by)) (drop l.key-index l.query.order)) ≡ noted l.self.schemas.now l.initial.faults (mention.each (λ k. mention.one (mention.key (mention.output_names l.scope l.query) k.by)) l.query.order)
