use Rattle.std.proofs.Common.{◌∙◌, ◌++◌, ap, sym, map, flat_map, filter, List}
use Rattle.std.specs.Option.{option_copied}
use Rattle.sql_model.specs.declared.changes.MarkedRow.{MarkedRow}
use Rattle.sql_model.specs.Changes.{added_to, marked_cmp, without}
use Rattle.sql_model.specs.Versions.{Tables, marked_rows_of}
use Rattle.lake_values.specs.Texts.{same_text}
use Rattle.table_history.specs.Histories.{change_from, tables_in}
use Rattle.table_history.specs.Stores.{marked_of}
use Rattle.table_history.specs.declared.kept.ViewRow.{ViewRow}
use Rattle.lake_core.specs.Rooms.{empty_table}
use Rattle.lake_core.proofs.ViewLemmas.{no_rows_changed, rows_changed}
use Rattle.lake_core.proofs.views.Lent.rows.Goals as goal

pub returns-in_default : goal.returns-in_default
returns-in_default c =
    let name = c.args.table.now in
    let l = c.self.inside in
    let t = l.transaction.now in
    let tables = tables_in l.history.now t.snapshot in
    ap (λ (rs : List ViewRow). map (marked_of name) rs) c.new.ensures.items ∙ no_rows_changed name (change_from t.removed.items t.added.items) tables (sym c.schema.ensures ∙ ap (λ (o : _). option_copied o) c.in_default.is)
    ∙ ap (λ (ts : Tables). marked_rows_of name ts) c.self.view_is

pub returns : goal.returns
returns c =
    let name = c.args.table.now in
    let l = c.self.inside in
    let t = l.transaction.now in
    let schema = c.in-Some.schema.now in
    let tables = tables_in l.history.now t.snapshot in
    let back = flat_map (added_to (empty_table name schema) 0) in
    c.in_ok-put_added.ensures
    ∙ ap (λ (ms : List MarkedRow). ms ++ back c.as_slice.result.now) c.in_ok-rows.ensures
    ∙ (λ i. without marked_cmp (marked_rows_of name tables) (filter (λ (m : MarkedRow). same_text m.mark.table name) (c.as_slice-removed.ensures.value i)) ++ back (c.as_slice.ensures.value i))
    ∙ rows_changed name schema (change_from t.removed.items t.added.items) tables (sym c.schema.ensures ∙ ap (λ (o : _). option_copied o) c.in-Some.is)
    ∙ ap (λ (ts : Tables). marked_rows_of name ts) c.self.view_is
