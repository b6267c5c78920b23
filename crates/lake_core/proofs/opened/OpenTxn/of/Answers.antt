use Rattle.lake_core.proofs.OpenLemmas.{opened_is}
use Rattle.lake_core.proofs.opened.OpenTxn.of.Goals as goal

pub returns : goal.returns
returns c = λ o is. opened_is o c.args.transaction.now c.is_unchanged.result is c.is_unchanged.ensures
