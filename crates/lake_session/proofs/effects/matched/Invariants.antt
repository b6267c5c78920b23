use Rattle.std.proofs.Common.{◌≡◌, ◌++◌, map, drop}
use Rattle.sql_model.specs.Writing as writing
use Rattle.table_history.specs.Stores.{marked_of}
use Rattle.lake_session.proofs.effects.matched.Given as goal

abbrev pub invariant-loop-row : goal.invariant-loop-row
invariant-loop-row l =
    let marked = map (marked_of l.table) in
    (l.old.items ++ writing.matched l.guards l.computed (marked (drop l.row-index l.rows)) ≡ writing.matched l.guards l.computed (marked l.rows))
    × (writing.conditions_fit l.guards l.computed (marked (drop l.row-index l.rows)) ≡ writing.conditions_fit l.guards l.computed (marked l.rows))
