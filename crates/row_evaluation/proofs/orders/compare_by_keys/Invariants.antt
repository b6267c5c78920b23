use Rattle.std.proofs.Common.{◌≡◌, drop}
use Rattle.sql_model.specs.Query.{order_cmp}
use Rattle.row_evaluation.proofs.orders.compare_by_keys.Given as goal

abbrev pub invariant-loop-key : goal.invariant-loop-key
invariant-loop-key g l =
    let a = g.C.Cells.cells l.a in
    let b = g.C.Cells.cells l.b in
    order_cmp (drop l.key-index l.keys) a b ≡ order_cmp l.keys a b
