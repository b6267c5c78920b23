use Rattle.std.proofs.Common.{◌∙◌, ◌∷◌, [], List, ap, sym, map, subst}
use Rattle.sql_model.specs.Versions.{Tables}
use Rattle.table_history.specs.Histories.{History, has_spare_rows, last_of, newest_of}
use Rattle.table_history.specs.Stores.{IsKept, Stored, spare_at, stored, tables_at}
use Rattle.table_history.proofs.HistoryLemmas.{alone, cleared_kept, cleared_same, last_is, newest_is}
use Rattle.table_history.proofs.histories.History.forget.Goals as goal

pub invariant_of-self : goal.invariant_of-self
invariant_of-self c =
    let h = c.self.inside in
    let Q : List Stored → Type 0 = λ ts. IsKept ts h.last h.last in
    subst Q (sym c.clear_stores.ensures.stores) (cleared_kept h.first h.last c.args.marks.now (map stored h.stores.items) c.self.invariant)

pub returns-clause-first : goal.returns-clause-first
returns-clause-first c =
    let h = c.self.inside in
    sym (last_is (map stored h.stores.items) (map spare_at h.stores.items) h.first h.last c.self.invariant.first_within) ∙ ap last_of c.self.view_is

pub returns-clause-tables : goal.returns-clause-tables
returns-clause-tables c =
    let h = c.self.inside in
    let ss = map stored h.stores.items in
    alone (map stored c.clear_stores.new.stores.items) (map spare_at c.clear_stores.new.stores.items) h.last
    ∙ ap (λ (t : Tables). t ∷ [])
    (ap (tables_at h.last) c.clear_stores.ensures.stores ∙ cleared_same h.last c.args.marks.now ss c.self.invariant.stamps
    ∙ sym (newest_is ss (map spare_at h.stores.items) h.first h.last c.self.invariant.first_within) ∙ ap newest_of c.self.view_is)

pub returns-clause-keeps : goal.returns-clause-keeps
returns-clause-keeps c = λ name rows room.
    c.clear_stores.ensures.room name rows (ap (λ (s : History). has_spare_rows s.spares name rows) c.self.view_is ∙ room)
