use Rattle.std.proofs.Common.{◌≡◌, ◌≤◌, ◌<◌, ◌∙◌, ap, sym, map, arith, nat_le, true, false, ℕ}
use Rattle.std.specs.Option.{option_map}
use Rattle.sql_model.specs.Versions.{Table, table_of}
use Rattle.table_history.specs.Stores.{stored}
use Rattle.table_history.proofs.PlaceLemmas.{found_at, found_nowhere}
use Rattle.table_history.proofs.HistoryLemmas.{nowhere_new, table_later, table_nowhere, table_there, tables_seen}
use Rattle.table_history.proofs.histories.History.schema.Goals as goal

pub returns-in_default : goal.returns-in_default
returns-in_default c =
    let h = c.self.inside in
    let name = c.args.table.now in
    let none = table_nowhere name c.args.version (map stored h.stores.items) (nowhere_new name h.stores.items (found_nowhere name h.stores.items _ _ c.as_slice.ensures.value c.place_of.ensures c.in_default.is)) in
    sym (ap (option_map (λ (t : Table). t.schema)) (ap (table_of name) (tables_seen h.stores.items h.first h.last c.self.invariant.first_within _ c.self.view_is c.args.version c.requires) ∙ none))

pub returns-then-store-version : goal.returns-then-store-version
returns-then-store-version c =
    let h = c.self.inside in
    let name = c.args.table.now in
    let at = found_at name h.stores.items _ _ c.in-Some.place c.as_slice.ensures.value c.place_of.ensures c.in-Some.is in
    let some = table_there name c.args.version h.stores.items c.in-Some.place c.index-store.result.now at c.index-store.ensures (so c.index-store.result.now.created c.args.version c.if-store-version.true) in
    sym (ap (option_map (λ (t : Table). t.schema)) (ap (table_of name) (tables_seen h.stores.items h.first h.last c.self.invariant.first_within _ c.self.view_is c.args.version c.requires) ∙ some))
  where
    so : (m n : ℕ) → m ≤ n → nat_le m n ≡ true
    so m n h = grind arith

pub returns-else-store-version : goal.returns-else-store-version
returns-else-store-version c =
    let h = c.self.inside in
    let name = c.args.table.now in
    let at = found_at name h.stores.items _ _ c.in-Some.place c.as_slice.ensures.value c.place_of.ensures c.in-Some.is in
    let none = table_later name c.args.version h.stores.items c.in-Some.place c.index-store.result.now c.self.invariant.own_names at c.index-store.ensures (not_so c.index-store.result.now.created c.args.version c.if-store-version.false) in
    sym (ap (option_map (λ (t : Table). t.schema)) (ap (table_of name) (tables_seen h.stores.items h.first h.last c.self.invariant.first_within _ c.self.view_is c.args.version c.requires) ∙ none))
  where
    not_so : (m n : ℕ) → n < m → nat_le m n ≡ false
    not_so m n h = grind arith
