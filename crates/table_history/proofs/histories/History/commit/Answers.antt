use Rattle.std.proofs.Common.{◌+◌, ◌<◌, ◌^◌, ◌∙◌, List, ℕ, ap, sym, map, subst, refl}
use Rattle.sql_model.specs.Changes.{applied}
use Rattle.table_history.specs.Histories.{GrowsBy, History, change_from, has_spare_rows, last_of, newest_of, rows_for}
use Rattle.table_history.specs.Stores.{HaveOwnNames, IsKept, Stored, grown_stores, history_of, spare_at, stamped_store, stored}
use Rattle.table_history.proofs.StoreLemmas.{own_kept}
use Rattle.table_history.proofs.HistoryLemmas.{commit_grows, committed_kept, last_is}
use Rattle.table_history.proofs.histories.History.commit.Goals as goal

pub add_parts-requires-clause-own_names : goal.add_parts-requires-clause-own_names
add_parts-requires-clause-own_names c =
    let h = c.self.inside in
    let P : List Stored → Type 0 = λ ss. HaveOwnNames ss in
    subst P (sym c.stamp_stores.ensures.stores) (own_kept (stamped_store h.last (h.last + 1) c.args.removed.now) (λ s. refl) (map stored h.stores.items) c.self.invariant.own_names)

pub add_parts-requires-clause-room : goal.add_parts-requires-clause-room
add_parts-requires-clause-room c = λ name.
    let spares = ap (λ (s : History). s.spares) c.self.view_is in
    ap (λ (ss : List (List ℕ × ℕ)). has_spare_rows ss name (rows_for name c.args.added.items)) (c.stamp_stores.ensures.spares ∙ spares) ∙ c.requires.room name

pub invariant_of-self : goal.invariant_of-self
invariant_of-self c =
    let h = c.self.inside in
    let ss = map stored h.stores.items in
    let last = last_is ss (map spare_at h.stores.items) h.first h.last c.self.invariant.first_within ∙ refl in
    let small : h.last + 1 < 2 ^ 62 = let P : ℕ → Type 0 = λ n. n + 1 < 2 ^ 62 in subst P (ap last_of (sym c.self.view_is) ∙ last) c.requires.small in
    let stores = c.add_parts.ensures.stores ∙ ap (grown_stores (h.last + 1) c.args.added.items) c.stamp_stores.ensures.stores in
    let Q : List Stored → Type 0 = λ ts. IsKept ts h.first (h.last + 1) in
    subst Q (sym stores) (committed_kept h.first h.last c.args.removed.now c.args.added.items ss c.self.invariant small)

pub returns-clause-made : goal.returns-clause-made
returns-clause-made c =
    let h = c.self.inside in
    let ss = map stored h.stores.items in
    let stores = c.add_parts.ensures.stores ∙ ap (grown_stores (h.last + 1) c.args.added.items) c.stamp_stores.ensures.stores in
    let made = commit_grows h.first h.last c.args.removed.now c.args.added.items ss (map spare_at h.stores.items) (map spare_at c.add_parts.new.stores.items) c.self.invariant in
    let P : History → Type 0 = λ s. GrowsBy s (history_of (grown_stores (h.last + 1) c.args.added.items (map (stamped_store h.last (h.last + 1) c.args.removed.now) ss)) (map spare_at c.add_parts.new.stores.items) h.first (h.last + 1))
    (applied (last_of s + 1) (change_from c.args.removed.now c.args.added.items) (newest_of s)) in
    let Q : List Stored → Type 0 = λ ts. GrowsBy c.args.self.now (history_of ts (map spare_at c.add_parts.new.stores.items) h.first (h.last + 1)) (applied (last_of c.args.self.now + 1) (change_from c.args.removed.now c.args.added.items) (newest_of c.args.self.now)) in
    subst Q (sym stores) (subst P c.self.view_is made)

pub returns-clause-room : goal.returns-clause-room
returns-clause-room c = λ name rows room.
    let spares = ap (λ (s : History). s.spares) c.self.view_is in
    c.add_parts.ensures.room name rows (ap (λ (ss : List (List ℕ × ℕ)). has_spare_rows ss name (rows_for name c.args.added.items + rows)) (c.stamp_stores.ensures.spares ∙ spares) ∙ room)
