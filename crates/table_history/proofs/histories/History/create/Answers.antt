use Rattle.std.proofs.Common.{◌≡◌, ◌+◌, ◌<◌, ◌^◌, ◌∙◌, ◌++◌, ◌∷◌, [], List, ℕ, ap, sym, map, subst, refl, false, arith}
use Rattle.std.proofs.lemmas.List.{map_push}
use Rattle.sql_model.specs.Versions.{has_table}
use Rattle.table_history.specs.declared.kept.Kept.{Kept}
use Rattle.table_history.specs.declared.stores.Store.{Store}
use Rattle.table_history.specs.Histories.{GrowsBy, History, has_spare_rows, last_of, newest_of}
use Rattle.table_history.specs.Stores.{IsKept, Stored, history_of, spare_at, stored, tables_at}
use Rattle.table_history.proofs.HistoryLemmas.{created_grows, created_kept, created_others, created_room, last_is, new_store, newest_is, none_new}
use Rattle.table_history.proofs.histories.History.create.Goals as goal

stores_are : (xs new : List Store) (s : Store) → new ≡ xs ++ s ∷ [] → s.rows.items ≡ [] → map stored new ≡ map stored xs ++ new_store s.name s.schema s.created ∷ []
stores_are xs new s pushed none =
    let P : List Kept → Stored = λ rows. record { name = s.name; schema = s.schema; created = s.created; rows = rows } in
    ap (λ (ys : List Store). map stored ys) pushed ∙ map_push stored xs s ∙ ap (λ (rows : List Kept). map stored xs ++ P rows ∷ []) none

pub invariant_of-self-2 : goal.invariant_of-self-2
invariant_of-self-2 c =
    let h = c.self.inside in
    let ss = map stored h.stores.items in
    let last = last_is ss (map spare_at h.stores.items) h.first h.last c.self.invariant.first_within in
    let newest = newest_is ss (map spare_at h.stores.items) h.first h.last c.self.invariant.first_within in
    let small : h.last + 1 < 2 ^ 62 = let P : ℕ → Type 0 = λ n. n + 1 < 2 ^ 62 in subst P (ap last_of (sym c.self.view_is) ∙ last) c.requires.small in
    let absent : has_table c.args.name (tables_at h.last ss) ≡ false = ap (has_table c.args.name) (sym newest ∙ ap newest_of c.self.view_is) ∙ c.requires.absent in
    let Q : List Stored → Type 0 = λ ts. IsKept ts h.first (h.last + 1) in
    subst Q (sym (stores_are h.stores.items c.push.new.self.items _ c.in_ok-push.ensures.items c.in_ok-with_capacity.ensures.items)) (created_kept c.args.name c.args.schema h.first h.last ss c.self.invariant small absent)

pub returns-clause-made : goal.returns-clause-made
returns-clause-made c =
    let h = c.self.inside in
    let ss = map stored h.stores.items in
    let spares = map spare_at c.push.new.self.items in
    let made = created_grows c.args.name c.args.schema h.first h.last ss (map spare_at h.stores.items) spares c.self.invariant in
    let P : History → Type 0 = λ s. GrowsBy s (history_of (ss ++ new_store c.args.name c.args.schema (h.last + 1) ∷ []) spares h.first (h.last + 1)) (newest_of s ++ record { name = c.args.name; schema = c.args.schema; rows = [] } ∷ []) in
    let Q : List Stored → Type 0 = λ ts. GrowsBy c.args.self.now (history_of ts spares h.first (h.last + 1)) (newest_of c.args.self.now ++ record { name = c.args.name; schema = c.args.schema; rows = [] } ∷ []) in
    subst Q (sym (stores_are h.stores.items c.push.new.self.items _ c.in_ok-push.ensures.items c.in_ok-with_capacity.ensures.items)) (subst P c.self.view_is made)

pub returns-clause-room : goal.returns-clause-room
returns-clause-room c =
    let h = c.self.inside in
    let ss = map stored h.stores.items in
    let newest = newest_is ss (map spare_at h.stores.items) h.first h.last c.self.invariant.first_within in
    let absent : has_table c.args.name (tables_at h.last ss) ≡ false = ap (has_table c.args.name) (sym newest ∙ ap newest_of c.self.view_is) ∙ c.requires.absent in
    ap (λ (ys : List Store). has_spare_rows (map spare_at ys) c.args.name c.args.rows) c.in_ok-push.ensures.items
    ∙ created_room c.args.name c.args.rows h.stores.items _ (none_new c.args.name h.last ss c.self.invariant.stamps absent) refl c.in_ok-with_capacity.ensures.len (omega (arith, c.in_ok-with_capacity.ensures.exact))

pub returns-clause-others : goal.returns-clause-others
returns-clause-others c = λ other more differ room.
    ap (λ (ys : List Store). has_spare_rows (map spare_at ys) other more) c.in_ok-push.ensures.items
    ∙ created_others other more c.self.inside.stores.items _ differ (ap (λ (s : History). has_spare_rows s.spares other more) c.self.view_is ∙ room)
