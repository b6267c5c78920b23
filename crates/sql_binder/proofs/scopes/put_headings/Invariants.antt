use Rattle.std.proofs.Common.{◌≡◌, ◌++◌, drop}
use Rattle.sql_model.specs.Scopes.{headings}
use Rattle.sql_binder.proofs.scopes.put_headings.Given as goal

abbrev pub invariant-loop-column : goal.invariant-loop-column
invariant-loop-column l = l.scope.items ++ headings l.name (drop l.column-index l.columns) ≡ l.initial.scope.items ++ headings l.name l.columns
