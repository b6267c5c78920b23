use Rattle.std.proofs.Common.{◌≤◌, ◌++◌, ◌∙◌, List, ℕ, ap, sym, subst, arith, length, map}
use Rattle.std.specs.List.{AllByRecursion}
use Rattle.std.proofs.lemmas.List.{length-replicate}
use Rattle.sql_model.specs.declared.changes.MarkedRow.{MarkedRow}
use Rattle.table_history.specs.declared.kept.Kept.{Kept}
use Rattle.table_history.specs.declared.kept.ViewRow.{ViewRow}
use Rattle.table_history.specs.Stores.{marked_of, rows_at}
use Rattle.table_history.specs.Strikes.{remaining, struck}
use Rattle.table_history.proofs.StrikeLemmas.{unused_all, unused_remaining}
use Rattle.table_history.proofs.stores.Store.rows_left.Goals as goal

pub loop-kept-init : goal.loop-kept-init
loop-kept-init c =
    let n = length c.args.removed.now in
    let name = c.args.self.now.name in
    record {
      done = ap (λ (rows : List ViewRow). map (marked_of name) rows ++ struck (remaining c.args.removed.now c.in_ok-used.used.items) (rows_at c.args.version name c.as_slice-kept-items.result.now)) c.new-rows.ensures.items
          ∙ ap (λ (ks : List Kept). struck (remaining c.args.removed.now c.in_ok-used.used.items) (rows_at c.args.version name ks)) c.as_slice-kept-items.ensures.value
          ∙ ap (λ (count : MarkedRow → ℕ). struck count (rows_at c.args.version name c.args.self.now.rows.items)) (ap (remaining c.args.removed.now) c.in_ok-used.ensures ∙ unused_remaining c.args.removed.now n);
      used = omega (arith, c.in_ok-used.used.ok.0, ap (λ (xs : List ℕ). length xs) c.in_ok-used.ensures, length-replicate {A = ℕ} n 0);
      within = let P : List ℕ → Type 0 = λ used. AllByRecursion (λ k. k ≤ n) used in subst P (sym c.in_ok-used.ensures) (unused_all n n);
    }
