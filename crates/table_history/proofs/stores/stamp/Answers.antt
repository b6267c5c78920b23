use Rattle.std.proofs.Common.{◌∙◌, ap, sym, nat_lt}
use Rattle.sql_model.specs.declared.changes.MarkedRow.{MarkedRow}
use Rattle.table_history.specs.Strikes.{less, remaining}
use Rattle.table_history.proofs.StoreLemmas.{stamp_gone, stamp_left, stamp_out}
use Rattle.table_history.proofs.stores.stamp.Goals as goal

pub returns-then-strikes-clause-rows : goal.returns-then-strikes-clause-rows
returns-then-strikes-clause-rows c =
    let count = remaining c.args.removed.now c.args.used.now.items in
    let lent = c.lend.ensures c.args.table.now in
    stamp_gone c.args.version c.args.table.now c.args.kept.now count c.args.seq (sym c.if-not-stands.ensures)
    (ap (λ (m : MarkedRow). nat_lt 0 (count m)) (sym lent) ∙ sym c.if-strikes.ensures.struck) _ (c.if-strikes.ensures.used ∙ ap (λ (m : MarkedRow). less m count) lent)

pub returns-else-strikes-clause-rows : goal.returns-else-strikes-clause-rows
returns-else-strikes-clause-rows c =
    let count = remaining c.args.removed.now c.args.used.now.items in
    let lent = c.lend.ensures c.args.table.now in
    stamp_left c.args.version c.args.table.now c.args.kept.now count c.args.seq
    (ap (λ (m : MarkedRow). nat_lt 0 (count m)) (sym lent) ∙ sym c.if-strikes.ensures.struck) _ c.if-strikes.ensures.used

pub returns-then-not-stands-clause-rows : goal.returns-then-not-stands-clause-rows
returns-then-not-stands-clause-rows c =
    stamp_out c.args.version c.args.table.now c.args.kept.now (remaining c.args.removed.now c.args.used.now.items) c.args.seq (sym c.if-not-stands.ensures)
