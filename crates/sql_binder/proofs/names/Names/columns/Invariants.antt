use Rattle.std.proofs.Common.{◌≡◌, drop}
use Rattle.sql_model.specs.Mentions as mention
use Rattle.sql_binder.specs.Noting.{noted}
use Rattle.sql_binder.proofs.names.Names.columns.Given as goal

abbrev pub invariant-loop-place : goal.invariant-loop-place
invariant-loop-place l = noted l.self.schemas.now l.faults (mention.in_columns (drop l.place l.columns)) ≡ noted l.self.schemas.now l.initial.faults (mention.in_columns l.columns)
