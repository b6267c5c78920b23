use Rattle.std.proofs.Common.{◌≡◌, drop}
use Rattle.sql_model.specs.Scopes.{fits, found_from}
use Rattle.sql_binder.proofs.scopes.named.Given as goal

abbrev pub invariant-loop-place : goal.invariant-loop-place
invariant-loop-place l = found_from l.place (fits l.table l.column) (drop l.place l.scope) ≡ found_from 0 (fits l.table l.column) l.scope
