use Rattle.std.specs.Cmp.{on_total, then_total, nat_cmp_total}
use Rattle.lake_values.specs.Names.{kind_rank}
use Rattle.lake_values.proofs.laws.names_in_order.Goals as goal

-- src/laws.rt:26:1
pub returns-clause-total : goal.returns-clause-total
returns-clause-total c =
    then_total (on_total (λ n. kind_rank n.kind) nat_cmp_total)
    (then_total (on_total (λ n. n.txn) nat_cmp_total)
    (then_total (on_total (λ n. n.part) nat_cmp_total) (then_total (on_total (λ n. n.task) nat_cmp_total) (on_total (λ n. n.attempt) nat_cmp_total))))
