-- What a lake says of an open transaction.
use Rattle.std.specs.Prelude.{not}
use Rattle.sql_model.specs.Changes.{is_unchanged}
use Rattle.lake_model.specs.State.{Transaction}
use Rattle.lake_core.specs.declared.opened.OpenTxn.{OpenTxn}

abbrev pub opened : Transaction → OpenTxn
opened t = record { explicit = t.explicit; txn = t.number; snapshot = t.snapshot; parts = t.parts; changed = not (is_unchanged t.pending) }
