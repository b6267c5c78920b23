use Rattle.std.proofs.Common.{◌≡◌, drop}
use Rattle.std.specs.List.{list_any}
use Rattle.sql_model.specs.Scopes.{fits}
use Rattle.sql_binder.proofs.scopes.fits_some.Given as goal

abbrev pub invariant-loop-heading : goal.invariant-loop-heading
invariant-loop-heading l = list_any (fits l.table l.column) (drop l.heading-index l.scope) ≡ list_any (fits l.table l.column) l.scope
