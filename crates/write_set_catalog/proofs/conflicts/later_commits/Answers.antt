use Rattle.std.proofs.Common.{◌∙◌, leb, rules}
use Rattle.std.proofs.lemmas.List.Sorted.{IsPartitionPoint-from_clause, IsPartitionedBy-leb}
use Rattle.write_set_catalog.specs.Catalogs.{ToldCommit}
use Rattle.write_set_catalog.proofs.ConflictLemmas.{later_are, rises}
use Rattle.write_set_catalog.proofs.conflicts.later_commits.Goals as goal

pub returns : goal.returns
returns g c =
    let parted = IsPartitionedBy-leb (λ (r : ToldCommit). r.seq) c.args.commits.now c.args.snapshot
    (rises c.args.commits.now c.requires) in
    let point = IsPartitionPoint-from_clause (λ r. leb r.seq c.args.snapshot) _ _
    c.partition_point-before.ensures.partitioned parted (λ a r q k. search rules) in
    c.split_at.ensures.back ∙ later_are c.args.commits.now c.args.snapshot
    c.partition_point-before.result c.partition_point-before.ensures.bound point
