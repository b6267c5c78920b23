use Rattle.std.proofs.Common.{drop, arith}
use Rattle.lake_values.proofs.Ties.{IsBytes-drop}
use Rattle.column_file.proofs.LentColumns.{are_tables}
use Rattle.column_file.proofs.decode.read_file.Goals as goal

pub rows_from-requires : goal.rows_from-requires
rows_from-requires c =
    rw c.deref-2.ensures.value
    (are_tables c.in_ok-count.count c.in_ok-rows.rows c.in_ok-rows.next (drop c.in_ok-rows.next c.args.bytes.now) c.in_ok-columns.columns.items c.in_ok-columns.next (drop c.in_ok-columns.next c.args.bytes.now)
    (IsBytes-drop c.in_ok-rows.next c.args.bytes.now (λ i. omega (arith, c.type_inv.bytes i))) c.in_ok-columns.ensures.exact)
