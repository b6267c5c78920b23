use Rattle.std.proofs.Common.{◌∙◌, ap, sym, map}
use Rattle.sql_model.specs.Versions.{has_table}
use Rattle.table_history.specs.Histories.{History, newest_of}
use Rattle.table_history.specs.Stores.{spare_at, stored}
use Rattle.table_history.proofs.HistoryLemmas.{has_there, newest_is}
use Rattle.table_history.proofs.histories.History.has_table.Goals as goal

pub returns : goal.returns
returns c =
    let h = c.self.inside in
    let name = c.args.name.now in
    c.is_some.ensures
    ∙ has_there name h.stores.items _ c.place_of.result h.last c.as_slice.ensures.value c.place_of.ensures c.self.invariant.stamps
    ∙ ap (has_table name) (sym (newest_is (map stored h.stores.items) (map spare_at h.stores.items) h.first h.last c.self.invariant.first_within))
    ∙ ap (λ (s : History). has_table name (newest_of s)) c.self.view_is
