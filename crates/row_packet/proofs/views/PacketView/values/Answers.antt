use Rattle.std.proofs.Common.{◌≡◌, List, length, subst, ap, ◌∙◌, get_or}
use Rattle.lake_values.specs.declared.values.Value.{Value}
use Rattle.row_packet.specs.Packets.{PacketRows, HaveWidth}
use Rattle.row_packet.proofs.Lookups.{length_read}
use Rattle.row_packet.proofs.views.PacketView.values.Goals as goal

pub returns-clause-width : goal.returns-clause-width
returns-clause-width c =
    ap (λ (row : List Value). length row) c.values.ensures
    ∙ length_read c.args.self.now.width c.args.self.now.rows c.args.row c.index-rows-row.result (subst (λ (p : PacketRows). HaveWidth p.width p.rows) c.self.view_is c.self.invariant) c.requires (subst (λ (p : PacketRows). c.index-rows-row.result ≡ get_or p.rows c.args.row c.index-rows-row.result) c.self.view_is c.index-rows-row.is)
