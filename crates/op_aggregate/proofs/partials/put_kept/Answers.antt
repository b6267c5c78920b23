use Rattle.std.proofs.Common.{rules, ◌≡◌, false, map, sym, ◌∙◌, arith}
use Rattle.std.proofs.lemmas.List.{length-map}
use Rattle.sql_model.specs.Groups.{aggregate_fits}
use Rattle.op_aggregate.proofs.Fitting.{others_fit}
use Rattle.op_aggregate.proofs.partials.put_kept.Goals as goal

pub returns-in_err-value-clause-overflow : goal.returns-in_err-value-clause-overflow
returns-in_err-value-clause-overflow g c =
    let rows = map g.C.Cells.cells c.args.rows.now in
    let many = length-map c.args.rows.now g.C.Cells.cells in
    let same = others_fit c.args.agg.now c.in_default.not-Sum rows (omega (arith, many)) in
    let unfit = λ (e : aggregate_fits rows c.args.agg.now ≡ false). sym same ∙ e in
    search (rules, unfit)
