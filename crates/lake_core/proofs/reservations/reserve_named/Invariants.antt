use Rattle.std.proofs.Common.{◌≡◌, ℕ, List, true, take}
use Rattle.std.specs.List.{list_any}
use Rattle.lake_values.specs.Texts.{same_text}
use Rattle.table_history.specs.Histories.{KeepsRoom, has_spare_rows}
use Rattle.lake_core.specs.Rooms.{rows_needed}
use Rattle.lake_core.proofs.reservations.reserve_named.Given as goal

abbrev pub invariant-loop-place : goal.invariant-loop-place
invariant-loop-place l = record {
  first : l.history.first ≡ l.fn.history.first;
  tables : l.history.tables ≡ l.fn.history.tables;
  keeps : KeepsRoom l.fn.history l.history;
  room : (name : List ℕ) → list_any (λ a. same_text a.table name) (take l.place l.named) ≡ true → has_spare_rows l.history.spares name (rows_needed l.running l.added l.more name) ≡ true;
}
