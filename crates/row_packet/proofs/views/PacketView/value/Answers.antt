use Rattle.std.proofs.Common.{◌∙◌, arith}
use Rattle.row_packet.proofs.Lookups.{value_read}
use Rattle.row_packet.proofs.views.PacketView.value.Goals as goal

pub returns-clause-value : goal.returns-clause-value
returns-clause-value c =
    c.lend.ensures.value ∙ value_read _ c.values-values.result.now c.args.column c.index-values-column.result c.values-values.ensures.values (omega (arith, c.values-values.ensures.width, c.requires.column)) c.index-values-column.is
