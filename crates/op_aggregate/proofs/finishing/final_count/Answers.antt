use Rattle.std.proofs.Common.{◌≡◌, true, false, map, drop, sym, ap, ◌∙◌, arith}
use Rattle.std.proofs.lemmas.Result.{IfOk-weaker}
use Rattle.lake_values.specs.Order.{number_of}
use Rattle.lake_values.specs.declared.values.Value.TheVariants.{Int}
use Rattle.sql_model.specs.Evaluation.{is_64_bits}
use Rattle.sql_model.specs.Groups.{sum_of_both}
use Rattle.op_aggregate.specs.Partials.{column}
use Rattle.op_aggregate.proofs.Finals.{column_fits, summary_behind, total_is}
use Rattle.op_aggregate.proofs.finishing.final_count.Goals as goal

pub returns-in_err-total : goal.returns-in_err-total
returns-in_err-total g c =
    let never : true ≡ false = sym (column_fits c.args.place (map g.C.Cells.cells c.args.rows.now)) ∙ c.in_err-total.ensures.overflow in
    absurd (cc)

pub returns : goal.returns
returns g c =
    let same = ap number_of (c.in_ok-total.ensures.value ∙ summary_behind sum_of_both c.args.place 0 c.args.place (map g.C.Cells.cells c.args.rows.now) (omega arith)) ∙ total_is (column 0 (map (drop c.args.place) (map g.C.Cells.cells c.args.rows.now))) in
    record {
      value = IfOk-weaker c.number_value.result _ _ (λ v is. is ∙ ap Int same) c.number_value.ensures.value;
      fits = IfOk-weaker c.number_value.result _ _ (λ v fit. ap is_64_bits (sym same) ∙ fit) c.number_value.ensures.fits;
      overflow = λ err. ap is_64_bits (sym same) ∙ c.number_value.ensures.overflow err;
    }
