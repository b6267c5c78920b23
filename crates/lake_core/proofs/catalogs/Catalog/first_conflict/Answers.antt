use Rattle.std.proofs.Common.{◌∙◌, List, ap, filter, nat_lt, subst}
use Rattle.std.specs.Prelude.{IfNone, IfSome}
use Rattle.lake_core.specs.declared.rows.CatRow.{CatRow}
use Rattle.lake_core.specs.Catalogs.{Catalogued}
use Rattle.lake_core.specs.Rows.{HasNoConflict, IsFirstConflict}
use Rattle.lake_core.proofs.ConflictLemmas.{found_among, none_among}
use Rattle.lake_core.proofs.catalogs.Catalog.first_conflict.Goals as goal

pub returns-clause-found : goal.returns-clause-found
returns-clause-found c =
    let P : List CatRow → Type 0 = λ rows. IfSome c.first_writer.result (IsFirstConflict c.args.snapshot c.args.marks.now rows) in
    subst P (ap (λ (seen : Catalogued). seen.rows) c.self.view_is)
    (found_among c.args.snapshot c.args.marks.now c.self.inside.rows.items c.later_rows.result.now c.first_writer.result c.self.invariant
    (c.later_rows.ensures ∙ ap (filter (λ (row : CatRow). nat_lt c.args.snapshot row.seq)) c.as_slice.ensures.value) c.first_writer.ensures)

pub returns-clause-none : goal.returns-clause-none
returns-clause-none c =
    let P : List CatRow → Type 0 = λ rows. IfNone c.first_writer.result (HasNoConflict c.args.snapshot c.args.marks.now rows) in
    subst P (ap (λ (seen : Catalogued). seen.rows) c.self.view_is)
    (none_among c.args.snapshot c.args.marks.now c.self.inside.rows.items c.later_rows.result.now c.first_writer.result c.self.invariant
    (c.later_rows.ensures ∙ ap (filter (λ (row : CatRow). nat_lt c.args.snapshot row.seq)) c.as_slice.ensures.value) c.first_writer.ensures)
