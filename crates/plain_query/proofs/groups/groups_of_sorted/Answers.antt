use Rattle.std.proofs.Common.{rules, ◌++◌, map, refl, sym, ap, arith}
use Rattle.sql_model.specs.Groups as spec
use Rattle.plain_query.proofs.Runs.{keys_rise, first_group, run_has_first, some_columns, next_made, next_fits, whole_unfit}
use Rattle.plain_query.proofs.groups.groups_of_sorted.Goals as goal

pub loop-first-init : goal.loop-first-init
loop-first-init g c =
    let rows = map g.C.Cells.cells c.args.rows.now in (
      ap (λ made. made ++ spec.groups c.args.keys.now c.args.aggs.now rows) c.new-made.ensures.items,
      refl {a = spec.groups_fit c.args.keys.now c.args.aggs.now rows},
      keys_rise c.args.keys.now g.C.Cells.cells c.args.rows.now c.requires.sorted,
    )

pub returns-in_err-group_row-clause-overflow : goal.returns-in_err-group_row-clause-overflow
returns-in_err-group_row-clause-overflow g c =
    let step = first_group c.args.keys.now (some_columns c.args.keys.now c.requires.some) c.args.aggs.now g.C.Cells.cells c.run_length.result c.in-Some.first.now c.split_at.result.0.now c.split_at.result.1.now c.loop-first.rest.now
    (sym c.in-Some.ensures.value) c.run_length.ensures.value c.split_at.ensures.front c.split_at.ensures.back c.loop-first.invariant.2 in
    let unfit = whole_unfit step (spec.groups_fit c.args.keys.now c.args.aggs.now (map g.C.Cells.cells c.args.rows.now)) c.loop-first.invariant.1 in
    search (rules, unfit)

pub loop-first-smaller : goal.loop-first-smaller
loop-first-smaller g c =
    let some = run_has_first c.args.keys.now g.C.Cells.cells c.run_length.result c.in-Some.first.now c.loop-first.rest.now (sym c.in-Some.ensures.value) c.run_length.ensures.value in
    omega arith

pub loop-first-preserved : goal.loop-first-preserved
loop-first-preserved g c =
    let step = first_group c.args.keys.now (some_columns c.args.keys.now c.requires.some) c.args.aggs.now g.C.Cells.cells c.run_length.result c.in-Some.first.now c.split_at.result.0.now c.split_at.result.1.now c.loop-first.rest.now
    (sym c.in-Some.ensures.value) c.run_length.ensures.value c.split_at.ensures.front c.split_at.ensures.back c.loop-first.invariant.2 in (
      next_made step (spec.groups c.args.keys.now c.args.aggs.now (map g.C.Cells.cells c.args.rows.now)) _ _ _ _ c.in_ok-key.ensures c.in_ok-group_row.ensures.value c.in_ok-push.ensures.items c.loop-first.invariant.0,
      next_fits step (spec.groups_fit c.args.keys.now c.args.aggs.now (map g.C.Cells.cells c.args.rows.now)) c.in_ok-group_row.ensures.fits c.loop-first.invariant.1,
      step.rise,
    )
