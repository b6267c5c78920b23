use Rattle.std.proofs.Common.{◌+◌}
use Rattle.std.proofs.lemmas.List.{take_rest}
use Rattle.sql_binder.proofs.SetNames.{noted_set, form_behind}
use Rattle.sql_binder.proofs.names.Names.sets.Goals as goal

pub loop-place-preserved : goal.loop-place-preserved
loop-place-preserved c = record {
  told = noted_set c.args.self.now.schemas.now c.args.scope.now c.args.sets.now c.loop-place.place c.index-sets-place.result _ c.loop-place.faults c.set.new.faults c.args.faults.now
      c.loop-place-test.true c.index-sets-place.is (take_rest c.args.sets.now (c.loop-place.place + 1)) c.in_ok-set.ensures c.loop-place.invariant.told;
  form = form_behind c.args.sets.now c.loop-place.place c.index-sets-place.result c.loop-place-test.true c.loop-place.invariant.form;
}
