use Rattle.std.proofs.Common.{◌≤◌, ◌∙◌, List, ℕ, ap, refl, sym, subst, arith, length}
use Rattle.std.specs.List.{AllByRecursion}
use Rattle.std.proofs.lemmas.List.{length-replicate}
use Rattle.sql_model.specs.declared.changes.MarkedRow.{MarkedRow}
use Rattle.table_history.specs.Stores.{stamped}
use Rattle.table_history.specs.Strikes.{remaining}
use Rattle.table_history.proofs.StrikeLemmas.{unused_all, unused_remaining}
use Rattle.table_history.proofs.stores.stamp_rows.Goals as goal

pub loop-i-init : goal.loop-i-init
loop-i-init c =
    let n = length c.args.removed.now in
    record {
      done = ap (λ (count : MarkedRow → ℕ). stamped c.args.table.now c.args.version c.args.seq count c.args.rows.now.items) (ap (remaining c.args.removed.now) c.requires.used ∙ unused_remaining c.args.removed.now n);
      len = refl;
      capacity = refl;
      used = omega (arith, c.args.used.now.ok.0, ap (λ (xs : List ℕ). length xs) c.requires.used, length-replicate {A = ℕ} n 0);
      within = let P : List ℕ → Type 0 = λ used. AllByRecursion (λ k. k ≤ n) used in subst P (sym c.requires.used) (unused_all n n);
    }
