use Rattle.std.proofs.Common.{◌∙◌, sym}
use Rattle.write_set_catalog.proofs.ConflictLemmas.{writes_where_any}
use Rattle.write_set_catalog.proofs.conflicts.row_writes_one.Goals as goal

pub returns-then-not-is_empty : goal.returns-then-not-is_empty
returns-then-not-is_empty c =
    c.name_table.ensures
    ∙ sym (writes_where_any c.args.row.now c.args.marks.now
    (λ none. let so = c.is_empty.ensures.1 none in cc))
