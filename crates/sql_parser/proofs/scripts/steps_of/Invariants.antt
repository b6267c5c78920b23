use Rattle.std.proofs.Common.{◌≡◌, length}
use Rattle.sql_parser.specs.Grammar.{steps_from}
use Rattle.sql_parser.proofs.scripts.steps_of.Given as goal

abbrev pub invariant-loop-line : goal.invariant-loop-line
invariant-loop-line l = (l.place ≡ length l.yielded) × (l.steps.items ≡ steps_from 1 l.yielded)
