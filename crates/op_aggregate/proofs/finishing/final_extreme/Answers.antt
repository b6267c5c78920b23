use Rattle.std.proofs.Common.{◌≡◌, true, false, map, sym, ◌∙◌, arith}
use Rattle.row_evaluation.specs.Aggregates.{kept_by}
use Rattle.op_aggregate.proofs.Finals.{column_fits, summary_behind}
use Rattle.op_aggregate.proofs.finishing.final_extreme.Goals as goal

pub returns-in_err-extreme_of : goal.returns-in_err-extreme_of
returns-in_err-extreme_of g c =
    let never : true ≡ false = sym (column_fits c.args.place (map g.C.Cells.cells c.args.rows.now)) ∙ c.in_err-extreme_of.ensures.overflow in
    absurd (cc)

pub returns-clause-value : goal.returns-clause-value
returns-clause-value g c =
    c.in_ok-to_value.ensures ∙ c.in_ok-extreme_of.ensures.value ∙ summary_behind (kept_by c.args.extreme) c.args.place 0 c.args.place (map g.C.Cells.cells c.args.rows.now) (omega arith)
