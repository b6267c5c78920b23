use Rattle.std.proofs.Common.{◌≡◌, List, Ok, map, sym, ap, ◌∙◌}
use Rattle.lake_values.specs.declared.values.Value.{Value}
use Rattle.table_history.specs.declared.kept.ViewRow.{ViewRow}
use Rattle.sql_model.specs.declared.changes.Change.{Change}
use Rattle.sql_model.specs.declared.replies.Reply.TheVariants.{Rows}
use Rattle.sql_model.specs.Versions.{rows_of}
use Rattle.sql_model.specs.Writing as writing
use Rattle.plain_query.specs.Databases.{rows_lent}
use Rattle.lake_session.proofs.effects.queried.Goals as goal

pub returns-in-Ok-clause-effect : goal.returns-in-Ok-clause-effect
returns-in-Ok-clause-effect c =
    let slices = rw c.as_slice-2.ensures.value at c.in_ok-slices.ensures in
    let cells : ViewRow → List Value = λ r. r.row.now in
    let is_database : map (rows_of c.args.lent.now) c.args.query.now.tables ≡ rows_lent cells c.as_slice-3.result.now =
    ap (map (rows_of c.args.lent.now)) (sym c.as_slice.ensures) ∙ sym c.in_ok-tables.ensures ∙ sym slices ∙ ap (rows_lent cells) (sym c.as_slice-3.ensures.value) in
    ap writing.queried (c.in-Ok.ensures.rows (rows_of c.args.lent.now) is_database)
    ∙ ap (λ (change : Change). Ok (Rows c.in-Ok.rows, change)) (sym c.no_change.ensures)

pub returns-in-Err-TooManyRows-clause-refused : goal.returns-in-Err-TooManyRows-clause-refused
returns-in-Err-TooManyRows-clause-refused c =
    let slices = rw c.as_slice-2.ensures.value at c.in_ok-slices.ensures in
    let cells : ViewRow → List Value = λ r. r.row.now in
    let is_database : map (rows_of c.args.lent.now) c.args.query.now.tables ≡ rows_lent cells c.as_slice-3.result.now =
    ap (map (rows_of c.args.lent.now)) (sym c.as_slice.ensures) ∙ sym c.in_ok-tables.ensures ∙ sym slices ∙ ap (rows_lent cells) (sym c.as_slice-3.ensures.value) in
    ap writing.queried (c.in-Err-TooManyRows.ensures.too_many (cc) (rows_of c.args.lent.now) is_database)

pub returns-in-Err-Arith-clause-refused : goal.returns-in-Err-Arith-clause-refused
returns-in-Err-Arith-clause-refused c =
    let slices = rw c.as_slice-2.ensures.value at c.in_ok-slices.ensures in
    let cells : ViewRow → List Value = λ r. r.row.now in
    let is_database : map (rows_of c.args.lent.now) c.args.query.now.tables ≡ rows_lent cells c.as_slice-3.result.now =
    ap (map (rows_of c.args.lent.now)) (sym c.as_slice.ensures) ∙ sym c.in_ok-tables.ensures ∙ sym slices ∙ ap (rows_lent cells) (sym c.as_slice-3.ensures.value) in
    ap writing.queried (c.in-Err-Arith.ensures.arithmetic (cc) (rows_of c.args.lent.now) is_database)
