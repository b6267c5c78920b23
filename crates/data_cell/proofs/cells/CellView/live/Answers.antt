use Rattle.std.proofs.Common.{arith}
use Rattle.data_cell.proofs.Walks.{count_left}
use Rattle.data_cell.proofs.cells.CellView.live.Goals as goal

pub overflow_sub-result : goal.overflow_sub-result
overflow_sub-result c =
    let both = count_left c.self.inside.gone.now c.self.inside.rows.now c.len.ensures.ascending c.self.invariant.positions in
    omega (arith, both, c.len.ensures.count)

pub returns : goal.returns
returns c =
    let both = count_left c.self.inside.gone.now c.self.inside.rows.now c.len.ensures.ascending c.self.invariant.positions in
    rw (← c.self.view_is) (omega (arith, both, c.len.ensures.count))
