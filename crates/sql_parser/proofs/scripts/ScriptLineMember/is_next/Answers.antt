use Rattle.std.proofs.Common.{refl}
use Rattle.sql_parser.proofs.Begins.{line_begins}
use Rattle.sql_parser.proofs.scripts.ScriptLineMember.is_next.Goals as goal

pub returns-else-is_at_session : goal.returns-else-is_at_session
returns-else-is_at_session c = rw (line_begins c.args.parser.now, ← c.is_at_session.ensures, c.if-is_at_session.false) c.is_at_statement.ensures

pub returns-then-is_at_session : goal.returns-then-is_at_session
returns-then-is_at_session c = rw (line_begins c.args.parser.now, ← c.is_at_session.ensures, c.if-is_at_session.true) refl
