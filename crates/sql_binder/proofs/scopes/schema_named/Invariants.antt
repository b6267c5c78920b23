use Rattle.std.proofs.Common.{◌≡◌, drop}
use Rattle.sql_model.specs.Scopes.{schema_named}
use Rattle.sql_binder.proofs.scopes.schema_named.Given as goal

abbrev pub invariant-loop-entry : goal.invariant-loop-entry
invariant-loop-entry l = schema_named l.name (drop l.entry-index l.schemas) ≡ schema_named l.name l.schemas
