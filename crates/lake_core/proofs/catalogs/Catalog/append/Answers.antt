use Rattle.std.proofs.Common.{List, ap, subst, sym}
use Rattle.lake_core.specs.declared.rows.CatRow.{CatRow}
use Rattle.lake_core.specs.Catalogs.{Catalogued, IsBehind}
use Rattle.lake_core.specs.Rows.{AreInOrder}
use Rattle.lake_core.proofs.ConflictLemmas.{in_order_more}
use Rattle.lake_core.proofs.catalogs.Catalog.append.Goals as goal

pub invariant_of-self : goal.invariant_of-self
invariant_of-self c =
    let items = rw c.unwrap.ensures at c.push.ensures.items in
    let P : List CatRow → Type 0 = λ rows. IsBehind rows c.args.row.seq in
    let behind = subst P (sym (ap (λ (seen : Catalogued). seen.rows) c.self.view_is)) c.requires.order in
    subst AreInOrder (sym items) (in_order_more c.self.inside.rows.items c.args.row c.self.invariant behind)
