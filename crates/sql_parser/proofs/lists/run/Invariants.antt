use Rattle.std.proofs.Common.{None, Some, length}
use Rattle.grammar_laws.specs.Grammars.{many}
use Rattle.sql_parser.specs.Ahead.{reading, most_levels}
use Rattle.sql_parser.proofs.ListLoops.{Completes}
use Rattle.sql_parser.proofs.lists.run.Given as goal

abbrev pub invariant-loop-room : goal.invariant-loop-room
invariant-loop-room g l =
    Completes l.room None g.M.Member.form (reading most_levels (many (Some l.fn.most) None g.M.Member.form) l.fn.parser) l.fn.parser l.members.items l.parser

abbrev pub decreases-loop-room : goal.decreases-loop-room
decreases-loop-room g l = length l.parser.tokens
