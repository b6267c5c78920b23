use Rattle.std.proofs.Common.{List, subst, sym, ap, ◌∙◌}
use Rattle.lake_values.specs.declared.values.Value.{Value}
use Rattle.sql_model.specs.Query.{limited}
use Rattle.row_packet.specs.Packets.{HaveWidth}
use Rattle.op_rows.proofs.Widths.{limited_width}
use Rattle.op_rows.proofs.orders.top.Goals as goal

pub packet_of-requires : goal.packet_of-requires
packet_of-requires c =
    subst (λ (rows : List (List Value)). HaveWidth c.width.result rows)
    (sym (c.within.ensures ∙ ap (λ (rows : List (List Value)). limited c.args.limit rows) c.as_slice.ensures.value))
    (limited_width c.width.result c.args.limit c.args.packet.now.rows c.in_ok-rows.rows.items c.width.ensures.each c.in_ok-rows.ensures.permutation)
