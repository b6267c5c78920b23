use Rattle.std.proofs.Common.{◌≡◌, ◌≤◌, ◌*◌, ◌++◌, length, drop}
use Rattle.sql_model.specs.Scopes.{scope_of}
use Rattle.sql_binder.proofs.scopes.joined_scope.Given as goal

abbrev pub invariant-loop-source : goal.invariant-loop-source
invariant-loop-source l = record {
  told : l.scope.items ++ scope_of l.schemas (drop l.source-index l.sources) ≡ scope_of l.schemas l.sources;
  few : length l.scope.items ≤ 64 * l.source-index;
}
