use Rattle.std.proofs.Common.{◌≡◌, ◌++◌, drop}
use Rattle.plain_query.specs.Databases.{rows_lent}
use Rattle.lake_session.specs.Lending.{tables_seen}
use Rattle.lake_session.proofs.lending.slices_of.Given as goal

abbrev pub invariant-loop-rows : goal.invariant-loop-rows
invariant-loop-rows l = rows_lent (λ r. r.row.now) l.slices.items ++ tables_seen (drop l.rows-index l.tables) ≡ tables_seen l.tables
