use Rattle.std.proofs.Common.{map, sym, ◌∙◌}
use Rattle.std.proofs.lemmas.Result.{IfOk-weaker}
use Rattle.op_aggregate.proofs.Leading.{one_group_alone, groups_by_key}
use Rattle.op_aggregate.proofs.groups.grouped.Goals as goal

pub returns-then-is_empty : goal.returns-then-is_empty
returns-then-is_empty g c =
    IfOk-weaker c.one_group.result _ _ (λ made is. is ∙ sym (one_group_alone c.args.columns.now (map g.C.Cells.cells c.args.rows.now) c.if-is_empty.ensures)) c.one_group.ensures

pub returns : goal.returns
returns g c =
    IfOk-weaker c.grouped_by_key.result _ _ (λ made is. is ∙ sym (groups_by_key c.args.columns.now (map g.C.Cells.cells c.args.rows.now) c.if-is_empty.ensures)) c.grouped_by_key.ensures
