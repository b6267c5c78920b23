use Rattle.std.proofs.Common.{arith, rules}
use Rattle.std.specs.Ordering.{is_lt}
use Rattle.std.proofs.lemmas.List.Sorted.{IsPartitionPoint-from_clause}
use Rattle.sql_model.specs.Changes.{marked_cmp}
use Rattle.table_history.specs.Stores.{marked_of}
use Rattle.table_history.proofs.StrikeLemmas.{parted, point_below}
use Rattle.table_history.proofs.strikes.place_of.Goals as goal

pub returns-clause-place : goal.returns-clause-place
returns-clause-place c =
    let x = marked_of c.args.table.now c.args.row.now in
    let rows = c.args.removed.now in
    let split = IsPartitionPoint-from_clause (λ m. is_lt (marked_cmp m x)) _ _ c.partition_point.ensures.partitioned (parted x rows c.requires) (λ a r q k. search rules) in
    point_below x rows _ c.partition_point.ensures.bound (λ k d h. split.0 k d (omega arith) h) (λ k d h less. split.1 k d h less)
