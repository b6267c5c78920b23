use Rattle.std.proofs.Common.{◌≡◌, ◌∙◌, ap, sym, subst}
use Rattle.std.specs.Prelude.{IfOk}
use Rattle.sql_model.specs.Scopes.{TableSchemas}
use Rattle.sql_model.specs.Versions.{Tables}
use Rattle.sql_model.specs.Writing.{schemas_of}
use Rattle.table_history.specs.Histories.{change_from, tables_in}
use Rattle.lake_core.proofs.SnapshotLemmas.{schemas_applied}
use Rattle.lake_core.proofs.views.Lent.schemas.Goals as goal

pub returns : goal.returns
returns c =
    let l = c.self.inside in
    let t = l.transaction.now in
    let same = sym (schemas_applied 0 (change_from t.removed.items t.added.items) (tables_in l.history.now t.snapshot)) ∙ ap (λ (ts : Tables). schemas_of ts) c.self.view_is in
    let Q : TableSchemas → Type 0 = λ ss. IfOk c.schemas.result (λ schemas. schemas ≡ ss) in
    subst Q same c.schemas.ensures
