use Rattle.std.proofs.Common.{◌≤◌, length}
use Rattle.data_cell.specs.Live.{NoneLive}
use Rattle.data_cell.proofs.Walks.{IsRest}
use Rattle.data_cell.proofs.cells.CellView.next_live.Given as goal

abbrev pub invariant-loop-more : goal.invariant-loop-more
invariant-loop-more l = (l.from ≤ l.position) × IsRest l.position l.self.gone l.rest × NoneLive l.self.gone l.from l.position

abbrev pub decreases-loop-more : goal.decreases-loop-more
decreases-loop-more l = length l.rest
