use Rattle.std.proofs.Common.{◌≡◌, take}
use Rattle.data_cell.specs.Live.{live_rows}
use Rattle.data_cell.proofs.Walks.{IsRest}
use Rattle.data_cell.proofs.cells.CellView.packet.Given as goal

abbrev pub invariant-loop-place : goal.invariant-loop-place
invariant-loop-place l =
    (l.packet.width ≡ l.self.width) × (l.packet.rows ≡ live_rows l.self.gone (take l.place l.self.rows)) × IsRest l.place l.self.gone l.rest
