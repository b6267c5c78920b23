use Rattle.sql_parser.proofs.Begins.{item_begins}
use Rattle.sql_parser.proofs.items.SelectItemMember.is_next.Goals as goal

pub returns-else-is_at_aggregate : goal.returns-else-is_at_aggregate
returns-else-is_at_aggregate c = rw (item_begins c.args.parser.now, ← c.is_at_aggregate.ensures, c.if-is_at_aggregate.false) c.is_at_expression.ensures
