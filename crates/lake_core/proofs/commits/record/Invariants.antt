use Rattle.std.proofs.Common.{◌≡◌, ◌+◌, ◌≤◌, ◌++◌, length, map}
use Rattle.lake_core.specs.Rooms.{stamped}
use Rattle.lake_core.specs.Catalogs.{IsBehind}
use Rattle.lake_core.proofs.commits.record.Given as goal

abbrev pub invariant-loop-row : goal.invariant-loop-row
invariant-loop-row l = record {
  rows : l.catalog.rows ++ map (stamped l.seq) l.row-iterator.rest.items ≡ l.fn.catalog.rows ++ map (stamped l.seq) l.fn.rows.items;
  behind : IsBehind l.catalog.rows l.seq;
  spare : length l.row-iterator.rest.items ≤ l.catalog.spare;
  used : l.fn.catalog.spare + length l.row-iterator.rest.items ≤ l.catalog.spare + length l.fn.rows.items;
}
