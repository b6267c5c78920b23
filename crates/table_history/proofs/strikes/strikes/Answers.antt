use Rattle.std.proofs.Common.{◌≡◌, ◌+◌, ◌∙◌, ap, sym, get_or, set, arith, length, ℕ}
use Rattle.std.proofs.lemmas.List.{get_or_read}
use Rattle.table_history.specs.Stores.{marked_of}
use Rattle.table_history.specs.Strikes.{below, remaining}
use Rattle.table_history.proofs.StrikeLemmas.{past_remaining, none_remaining, some_remaining, remaining_less, less_than_all, same_place, within_set}
use Rattle.table_history.proofs.strikes.strikes.Goals as goal

pub returns-then-first-removed-clause-struck : goal.returns-then-first-removed-clause-struck
returns-then-first-removed-clause-struck c =
    sym (past_remaining _ c.args.removed.now c.args.used.now.items c.requires.ascending (sym c.place_of-first.ensures.place ∙ c.if-first-removed.true))

pub returns-then-is_at-clause-struck : goal.returns-then-is_at-clause-struck
returns-then-is_at-clause-struck c =
    let used = get_or_read c.args.used.now.items c.place_of-first.result c.index.result.now (omega arith) c.index.ensures 0 in
    let here = sym (same_place _ c.args.removed.now c.args.used.now.items _ _ c.place_of-first.ensures.place used) ∙ sym c.is_at.ensures ∙ c.if-is_at.true in
    sym (some_remaining _ c.args.removed.now c.args.used.now.items c.requires.ascending here)

pub returns-then-is_at-clause-used : goal.returns-then-is_at-clause-used
returns-then-is_at-clause-used c =
    let x = marked_of c.args.table.now c.args.row.now in
    let rows = c.args.removed.now in
    let used = c.args.used.now.items in
    let at = c.place_of-first.result in
    let here = sym (same_place x rows used at _ c.place_of-first.ensures.place (get_or_read used at c.index.result.now (omega arith) c.index.ensures 0)) ∙ sym c.is_at.ensures ∙ c.if-is_at.true in
    let was : c.index_mut.result.now ≡ get_or used at 0 = get_or_read used at c.index_mut.result.now (omega arith) c.index_mut.ensures.value 0 in
    let now : set used at (c.index_mut.result.now + 1) ≡ set used (below x rows) (get_or used (below x rows) 0 + 1) =
    ap (λ (n : ℕ). set used at (n + 1)) was ∙ ap (λ (n : ℕ). set used n (get_or used n 0 + 1)) c.place_of-first.ensures.place in
    ap (remaining rows) now ∙ (λ i y. remaining_less x rows used c.requires.ascending (omega (arith, sym c.place_of-first.ensures.place)) here y i)

pub returns-then-is_at-clause-within : goal.returns-then-is_at-clause-within
returns-then-is_at-clause-within c =
    let x = marked_of c.args.table.now c.args.row.now in
    let rows = c.args.removed.now in
    let used = c.args.used.now.items in
    let at = c.place_of-first.result in
    let here = sym (same_place x rows used at _ c.place_of-first.ensures.place (get_or_read used at c.index.result.now (omega arith) c.index.ensures 0)) ∙ sym c.is_at.ensures ∙ c.if-is_at.true in
    let was : c.index_mut.result.now ≡ get_or used at 0 = get_or_read used at c.index_mut.result.now (omega arith) c.index_mut.ensures.value 0 in
    let same : get_or used at 0 ≡ get_or used (below x rows) 0 = ap (λ (n : ℕ). get_or used n 0) c.place_of-first.ensures.place in
    let most = less_than_all x rows used c.requires.ascending here in
    within_set (length rows) used at (c.index_mut.result.now + 1) c.requires.within (omega (arith, was, same, most))

pub returns-clause-struck : goal.returns-clause-struck
returns-clause-struck c =
    let used = get_or_read c.args.used.now.items c.place_of-first.result c.index.result.now (omega arith) c.index.ensures 0 in
    let not = sym (same_place _ c.args.removed.now c.args.used.now.items _ _ c.place_of-first.ensures.place used) ∙ sym c.is_at.ensures ∙ c.if-is_at.false in
    sym (none_remaining _ c.args.removed.now c.args.used.now.items c.requires.ascending not)
