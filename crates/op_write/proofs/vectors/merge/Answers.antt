use Rattle.std.proofs.Common.{subst}
use Rattle.std.specs.List.Sorted.{IsStrictlyIncreasing}
use Rattle.op_write.proofs.Unions.{merged_positions}
use Rattle.op_write.proofs.vectors.merge.Goals as goal

pub returns : goal.returns
returns c =
    let ascending = subst IsStrictlyIncreasing c.positions-positions.ensures.list
    c.positions-positions.ensures.ascending in
    merged_positions c.args.rows c.args.before.now c.args.gone.now c.in_ok-positions.positions
    ascending c.requires.before c.requires.gone c.in_ok-positions.ensures
