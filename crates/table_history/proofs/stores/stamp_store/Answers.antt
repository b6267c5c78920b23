use Rattle.std.proofs.Common.{sym}
use Rattle.table_history.specs.Stores.{stored}
use Rattle.table_history.proofs.StoreLemmas.{unnamed_stays}
use Rattle.table_history.proofs.stores.stamp_store.Goals as goal

pub returns-else-names-clause-store : goal.returns-else-names-clause-store
returns-else-names-clause-store c =
    unnamed_stays c.args.version c.args.seq c.args.marks.now c.args.removed.now (stored c.args.store.now) c.requires.names (sym c.if-names.ensures)
