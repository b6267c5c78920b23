use Rattle.std.proofs.Common.{◌≡◌, ◌+◌, ◌∙◌, ℕ, List, true, length, ap, sym}
use Rattle.sql_model.specs.declared.changes.Added.{Added}
use Rattle.table_history.specs.Histories.{has_spare_rows, rows_for}
use Rattle.lake_tests.proofs.Rooms.{two_parts}
use Rattle.lake_tests.proofs.history_tests.two_parts.Goals as goal

pub returns-clause-room : goal.returns-clause-room
returns-clause-room c = λ name.
    let spares = c.reserve.new.self.spares in
    let table = c.in_ok-table.table in
    let room : has_spare_rows spares table (length c.in_ok-one.one.rows + length c.in_ok-other.other.rows) ≡ true =
    ap (λ (n : ℕ). has_spare_rows spares table (n + length c.in_ok-other.other.rows)) (ap (length {_}) (sym c.rows.ensures))
    ∙ ap (λ (n : ℕ). has_spare_rows spares table (length c.rows.result.now + n)) (ap (length {_}) (sym c.rows-2.ensures))
    ∙ c.in_ok-reserve.ensures.room in
    ap (λ (added : List Added). has_spare_rows spares name (rows_for name added)) c.in_ok-vec.ensures.items
    ∙ two_parts spares table c.in_ok-one.one c.in_ok-other.other c.in_ok-one.ensures c.in_ok-other.ensures room name
