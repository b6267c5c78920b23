use Rattle.std.proofs.Common.{Some, length}
use Rattle.grammar_laws.specs.Grammars.{listed}
use Rattle.sql_parser.specs.Ahead.{reading, most_levels}
use Rattle.sql_parser.specs.Separators.{separator_class}
use Rattle.sql_parser.proofs.ListLoops.{Completes}
use Rattle.sql_parser.proofs.lists.list_with_capacity.Given as goal

abbrev pub invariant-loop-separator : goal.invariant-loop-separator
invariant-loop-separator g l =
    Completes l.room (Some (separator_class l.separator)) g.M.Member.form (reading most_levels (listed l.fn.most (separator_class l.separator) g.M.Member.form) l.fn.parser) l.fn.parser
    l.members.items l.parser

abbrev pub decreases-loop-separator : goal.decreases-loop-separator
decreases-loop-separator g l = length l.parser.tokens
