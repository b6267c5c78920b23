use Rattle.std.proofs.Common.{◌≡◌, ◌++◌, map, drop}
use Rattle.sql_model.specs.Versions.{rows_of}
use Rattle.lake_session.specs.Lending.{tables_seen}
use Rattle.lake_session.proofs.lending.tables_lent.Given as goal

abbrev pub invariant-loop-name : goal.invariant-loop-name
invariant-loop-name l = tables_seen l.tables.items ++ map (rows_of l.lent) (drop l.name-index l.names) ≡ map (rows_of l.lent) l.names
