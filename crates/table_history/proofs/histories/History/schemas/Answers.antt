use Rattle.std.proofs.Common.{◌∙◌, ◌++◌, List, ap, sym, map}
use Rattle.sql_model.specs.Writing.{schemas_of}
use Rattle.std.proofs.lemmas.List.{append-nil, drop_all}
use Rattle.table_history.specs.declared.stores.Store.{Store}
use Rattle.table_history.specs.Stores.{stored, tables_at}
use Rattle.table_history.proofs.HistoryLemmas.{tables_seen}
use Rattle.table_history.proofs.histories.History.schemas.Goals as goal

pub returns : goal.returns
returns c =
    let h = c.self.inside in
    let items = c.as_slice-store-items.result.now in
    let past = drop_all c.loop-store.store-index items c.loop-store-test.false in
    c.from_list.ensures
    ∙ sym (append-nil c.loop-store.schemas.items)
    ∙ ap (λ (xs : List Store). c.loop-store.schemas.items ++ schemas_of (tables_at c.args.version (map stored xs))) (sym past)
    ∙ c.loop-store.invariant
    ∙ ap (λ (xs : List Store). schemas_of (tables_at c.args.version (map stored xs))) c.as_slice-store-items.ensures.value
    ∙ ap schemas_of (sym (tables_seen h.stores.items h.first h.last c.self.invariant.first_within _ c.self.view_is c.args.version c.requires))
