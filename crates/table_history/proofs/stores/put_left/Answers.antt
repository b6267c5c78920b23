use Rattle.std.proofs.Common.{◌∙◌, ap, sym, nat_lt, List, map, ◌++◌}
use Rattle.sql_model.specs.declared.changes.MarkedRow.{MarkedRow}
use Rattle.table_history.specs.Stores.{marked_of}
use Rattle.table_history.specs.Strikes.{less, remaining}
use Rattle.table_history.proofs.StoreLemmas.{put_struck, put_left}
use Rattle.table_history.proofs.stores.put_left.Goals as goal

pub returns-in_ok-push-clause-rows : goal.returns-in_ok-push-clause-rows
returns-in_ok-push-clause-rows c =
    let count = remaining c.args.removed.now c.args.used.now.items in
    let lent = c.lend-row.ensures c.args.table.now in
    put_left c.args.version c.args.table.now c.args.kept.now count (sym c.if-not-stands.ensures)
    (ap (λ (m : MarkedRow). nat_lt 0 (count m)) (sym lent) ∙ sym c.if-not-strikes.ensures.struck) _ c.if-not-strikes.ensures.used c.args.rows.now.items _ c.lend-row.result c.in_ok-push.ensures.items lent

pub returns-else-not-strikes-clause-rows : goal.returns-else-not-strikes-clause-rows
returns-else-not-strikes-clause-rows c =
    let count = remaining c.args.removed.now c.args.used.now.items in
    let lent = c.lend-row.ensures c.args.table.now in
    let rest = put_struck c.args.version c.args.table.now c.args.kept.now count (sym c.if-not-stands.ensures)
    (ap (λ (m : MarkedRow). nat_lt 0 (count m)) (sym lent) ∙ sym c.if-not-strikes.ensures.struck) _ (c.if-not-strikes.ensures.used ∙ ap (λ (m : MarkedRow). less m count) lent) in
    λ ks. ap (λ (ms : List MarkedRow). map (marked_of c.args.table.now) c.args.rows.now.items ++ ms) (rest ks)
