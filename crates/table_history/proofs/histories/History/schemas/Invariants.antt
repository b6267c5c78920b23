use Rattle.std.proofs.Common.{◌≡◌, ◌++◌, map, drop}
use Rattle.sql_model.specs.Writing.{schemas_of}
use Rattle.table_history.specs.Stores.{stored, tables_at}
use Rattle.table_history.proofs.histories.History.schemas.Given as goal

abbrev pub invariant-loop-store : goal.invariant-loop-store
invariant-loop-store l = l.schemas.items ++ schemas_of (tables_at l.version (map stored (drop l.store-index l.store-items))) ≡ schemas_of (tables_at l.version (map stored l.store-items))
