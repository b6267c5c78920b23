use Rattle.std.proofs.Common.{◌≡◌, ◌+◌, true, false, map, drop, refl, sym, ap, ◌∙◌, arith}
use Rattle.std.proofs.lemmas.Result.{IfOk-weaker}
use Rattle.lake_values.specs.Order.{number_of}
use Rattle.sql_model.specs.Evaluation.{is_64_bits}
use Rattle.sql_model.specs.Groups.{sum_of_both, summary}
use Rattle.row_evaluation.specs.Aggregates.{totalled}
use Rattle.op_aggregate.specs.Partials.{column, whole}
use Rattle.op_aggregate.proofs.Finals.{column_fits, summary_behind}
use Rattle.op_aggregate.proofs.finishing.final_sum.Goals as goal

pub returns-in_err-high : goal.returns-in_err-high
returns-in_err-high g c =
    let never : true ≡ false = sym (column_fits c.args.place (map g.C.Cells.cells c.args.rows.now)) ∙ c.in_err-high.ensures.overflow in
    absurd (cc)

pub returns-in_err-low : goal.returns-in_err-low
returns-in_err-low g c =
    let never : true ≡ false = sym (column_fits (c.args.place + 1) (map g.C.Cells.cells c.args.rows.now)) ∙ c.in_err-low.ensures.overflow in
    absurd (cc)

pub returns : goal.returns
returns g c =
    let rows = map g.C.Cells.cells c.args.rows.now in
    let high = c.in_ok-high.ensures.value ∙ summary_behind sum_of_both c.args.place 0 c.args.place rows (omega arith) in
    let low = c.in_ok-low.ensures.value ∙ summary_behind sum_of_both c.args.place 1 (c.args.place + 1) rows refl in
    let same = ap (λ v. whole v (totalled c.in_ok-low.low)) high ∙ ap (λ v. whole (summary sum_of_both (column 0 (map (drop c.args.place) rows))) v) low in
    record {
      value = IfOk-weaker c.whole.result _ _ (λ v is. is ∙ same) c.whole.ensures.value;
      fits = IfOk-weaker c.whole.result _ _ (λ v fit. ap (λ w. is_64_bits (number_of w)) (sym same) ∙ fit) c.whole.ensures.fits;
      overflow = λ err. ap (λ w. is_64_bits (number_of w)) (sym same) ∙ c.whole.ensures.overflow err;
    }
