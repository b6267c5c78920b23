use Rattle.std.proofs.Common.{◌≡◌, ◌≤◌, ◌<◌, ◌∙◌, ap, sym, map, filter, arith, nat_le, true, false, Option, Ok, Err, IfOk, ℕ, List, []}
use Rattle.std.specs.Option.{option_map_or}
use Rattle.sql_model.specs.declared.changes.MarkedRow.{MarkedRow}
use Rattle.sql_model.specs.Changes.{marked_cmp, without}
use Rattle.sql_model.specs.Versions.{Table, table_of, marked_rows_of}
use Rattle.lake_values.specs.Texts.{same_text}
use Rattle.table_history.specs.declared.kept.ViewRow.{ViewRow}
use Rattle.table_history.specs.Histories.{tables_in}
use Rattle.table_history.specs.Strikes.{struck, times}
use Rattle.table_history.specs.Stores.{marked_of, rows_at, stored}
use Rattle.table_history.proofs.PlaceLemmas.{found_at, found_nowhere, named_at}
use Rattle.table_history.proofs.HistoryLemmas.{nowhere_new, table_later, table_nowhere, table_there, tables_seen, without_nothing, struck_here}
use Rattle.table_history.proofs.histories.History.rows.Goals as goal

pub returns-in_default : goal.returns-in_default
returns-in_default c =
    let h = c.self.inside in
    let name = c.args.table.now in
    let removed = filter (λ (m : MarkedRow). same_text m.mark.table name) c.args.removed.now in
    let none = table_nowhere name c.args.version (map stored h.stores.items) (nowhere_new name h.stores.items (found_nowhere name h.stores.items _ _ c.as_slice.ensures.value c.place_of.ensures c.in_default.is)) in
    let rows : marked_rows_of name (tables_in c.args.self.now c.args.version) ≡ [] =
    ap (λ (o : Option Table). option_map_or (λ t. t.rows) o []) (ap (table_of name) (tables_seen h.stores.items h.first h.last c.self.invariant.first_within _ c.self.view_is c.args.version c.requires.kept) ∙ none) in
    ap (map (marked_of name)) c.new.ensures.items ∙ sym (ap (λ (rs : List MarkedRow). without marked_cmp rs removed) rows ∙ without_nothing removed)

pub returns-then-version-store : goal.returns-then-version-store
returns-then-version-store c =
    let h = c.self.inside in
    let name = c.args.table.now in
    let removed = filter (λ (m : MarkedRow). same_text m.mark.table name) c.args.removed.now in
    let at = found_at name h.stores.items _ _ c.in-Some.place c.as_slice.ensures.value c.place_of.ensures c.in-Some.is in
    let none = table_later name c.args.version h.stores.items c.in-Some.place c.index-store.result.now c.self.invariant.own_names at c.index-store.ensures (not_so c.index-store.result.now.created c.args.version c.if-version-store.true) in
    let rows : marked_rows_of name (tables_in c.args.self.now c.args.version) ≡ [] =
    ap (λ (o : Option Table). option_map_or (λ t. t.rows) o []) (ap (table_of name) (tables_seen h.stores.items h.first h.last c.self.invariant.first_within _ c.self.view_is c.args.version c.requires.kept) ∙ none) in
    ap (map (marked_of name)) c.new-then-version-store.ensures.items ∙ sym (ap (λ (rs : List MarkedRow). without marked_cmp rs removed) rows ∙ without_nothing removed)
  where
    not_so : (m n : ℕ) → n < m → nat_le m n ≡ false
    not_so m n h = grind arith

pub returns : goal.returns
returns c =
    let h = c.self.inside in
    let name = c.args.table.now in
    let version = c.args.version in
    let s = c.index-store.result.now in
    let removed = filter (λ (m : MarkedRow). same_text m.mark.table name) c.args.removed.now in
    let at = found_at name h.stores.items _ _ c.in-Some.place c.as_slice.ensures.value c.place_of.ensures c.in-Some.is in
    let named : s.name ≡ name = named_at name h.stores.items c.in-Some.place s at c.index-store.ensures in
    let some = table_there name version h.stores.items c.in-Some.place s at c.index-store.ensures (so s.created version c.if-version-store.false) in
    let rows : marked_rows_of name (tables_in c.args.self.now version) ≡ rows_at version s.name s.rows.items =
    ap (λ (o : Option Table). option_map_or (λ t. t.rows) o []) (ap (table_of name) (tables_seen h.stores.items h.first h.last c.self.invariant.first_within _ c.self.view_is version c.requires.kept) ∙ some) in
    let left = struck_here version s.name c.args.removed.now s.rows.items in
    let whole : (rs : List ViewRow) → map (marked_of s.name) rs ≡ struck (times c.args.removed.now) (rows_at version s.name s.rows.items) →
    map (marked_of name) rs ≡ without marked_cmp (marked_rows_of name (tables_in c.args.self.now version)) removed =
    λ rs is. ap (λ (n : List ℕ). map (marked_of n) rs) (sym named) ∙ is ∙ left ∙ ap (λ (n : List ℕ). without marked_cmp (rows_at version s.name s.rows.items) (filter (λ (m : MarkedRow). same_text m.mark.table n) c.args.removed.now)) named
    ∙ ap (λ (ms : List MarkedRow). without marked_cmp ms removed) (sym rows) in
    elim c.rows_left.result as (λ r. IfOk r (λ rs. map (marked_of s.name) rs.items ≡ struck (times c.args.removed.now) (rows_at version s.name s.rows.items)) →
    IfOk r (λ rs. map (marked_of name) rs.items ≡ without marked_cmp (marked_rows_of name (tables_in c.args.self.now version)) removed)) [
      | Ok rs ↦ λ is. whole rs.items is
      | Err e ↦ λ is. tt
    ] c.rows_left.ensures
  where
    so : (m n : ℕ) → m ≤ n → nat_le m n ≡ true
    so m n h = grind arith
