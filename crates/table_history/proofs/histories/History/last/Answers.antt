use Rattle.std.proofs.Common.{◌∙◌, ap, sym, map, subst, arith}
use Rattle.table_history.specs.Histories.{History, IsIn, last_of}
use Rattle.table_history.specs.Stores.{spare_at, stored}
use Rattle.table_history.proofs.HistoryLemmas.{last_is}
use Rattle.table_history.proofs.histories.History.last.Goals as goal

pub returns-clause-last : goal.returns-clause-last
returns-clause-last c =
    let h = c.self.inside in
    sym (last_is (map stored h.stores.items) (map spare_at h.stores.items) h.first h.last c.self.invariant.first_within) ∙ ap last_of c.self.view_is

pub returns-clause-kept : goal.returns-clause-kept
returns-clause-kept c =
    let h = c.self.inside in
    let last = last_is (map stored h.stores.items) (map spare_at h.stores.items) h.first h.last c.self.invariant.first_within in
    let P : History → Type 0 = λ s. IsIn s h.last in
    subst P c.self.view_is (record { from = c.self.invariant.first_within; to = omega (arith, last) })
