use Rattle.std.proofs.Common.{◌<◌, length, refl, arith}
use Rattle.lake_core.proofs.OpenLemmas.{kept_at}
use Rattle.lake_core.proofs.transactions.put_room.Goals as goal

pub returns : goal.returns
returns c =
    let within : c.args.place < length c.args.running.now.items = omega (arith, c.requires, c.args.running.now.ok.0) in
    kept_at c.args.room c.args.running.now.items c.args.place c.index_mut.result.now _ c.index_mut.ensures.value within refl
