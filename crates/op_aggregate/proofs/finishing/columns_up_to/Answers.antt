use Rattle.std.proofs.Common.{[], ◌∷◌, ◌++◌, sym, ap, ◌∙◌, arith}
use Rattle.std.specs.List.{range_with_len}
use Rattle.op_aggregate.proofs.Finals.{range_next}
use Rattle.op_aggregate.proofs.finishing.columns_up_to.Goals as goal

pub loop-column-preserved : goal.loop-column-preserved
loop-column-preserved c =
    c.in_ok-push.ensures.items ∙ ap (λ l. l ++ c.loop-column.column ∷ []) c.loop-column.invariant ∙ sym (range_next c.loop-column.column)

pub returns : goal.returns
returns c = c.loop-column.invariant ∙ ap (range_with_len 0) (omega arith)
