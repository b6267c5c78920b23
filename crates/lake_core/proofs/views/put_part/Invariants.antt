use Rattle.std.proofs.Common.{◌≡◌, ◌++◌, map, drop}
use Rattle.sql_model.specs.Changes.{marked}
use Rattle.table_history.specs.Stores.{marked_of}
use Rattle.lake_core.proofs.views.put_part.Given as goal

abbrev pub invariant-loop-row : goal.invariant-loop-row
invariant-loop-row l = map (marked_of l.table) l.rows.items ++ map (marked l.table l.schema 0 l.part.part) (drop l.row-index l.part.rows)
    ≡ map (marked_of l.table) l.fn.rows.items ++ map (marked l.table l.schema 0 l.part.part) l.part.rows
