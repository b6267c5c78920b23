use Rattle.std.proofs.Common.{◌≡◌, ◌++◌, map, drop, flat_map}
use Rattle.sql_model.specs.Changes.{added_to}
use Rattle.table_history.specs.Stores.{marked_of}
use Rattle.lake_core.specs.Rooms.{empty_table}
use Rattle.lake_core.proofs.views.put_added.Given as goal

abbrev pub invariant-loop-part : goal.invariant-loop-part
invariant-loop-part l = map (marked_of l.table) l.rows.items ++ flat_map (added_to (empty_table l.table l.schema) 0) (drop l.part-index l.added)
    ≡ map (marked_of l.table) l.fn.rows.items ++ flat_map (added_to (empty_table l.table l.schema) 0) l.added
