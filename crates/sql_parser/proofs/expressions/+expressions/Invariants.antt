use Rattle.std.proofs.Common.{◌+◌, ◌*◌, ◌-◌, length}
use Rattle.sql_parser.proofs.Chains.{Completes}
use Rattle.sql_parser.proofs.Ranks.{rank}
use Rattle.sql_parser.proofs.expressions.+expressions.Given as goal

abbrev pub decreases-parenthesized : goal.decreases-parenthesized
decreases-parenthesized l = 15 * l.levels

abbrev pub decreases-negated : goal.decreases-negated
decreases-negated l = 15 * l.levels

abbrev pub decreases-factor : goal.decreases-factor
decreases-factor l = 15 * l.levels + 1

abbrev pub decreases-operand : goal.decreases-operand
decreases-operand l = 15 * l.levels + (rank l.chain - 1)

abbrev pub decreases-chain_of : goal.decreases-chain_of
decreases-chain_of l = 15 * l.levels + rank l.chain

abbrev pub decreases-sum : goal.decreases-sum
decreases-sum l = 15 * l.levels + 6

abbrev pub decreases-tested : goal.decreases-tested
decreases-tested l = 15 * l.levels + 7

abbrev pub decreases-predicate : goal.decreases-predicate
decreases-predicate l = 15 * l.levels + 8

abbrev pub decreases-negation : goal.decreases-negation
decreases-negation l = 15 * l.levels + 9

abbrev pub decreases-disjunction : goal.decreases-disjunction
decreases-disjunction l = 15 * l.levels + 14

abbrev pub invariant-chain_of-loop-chain : goal.invariant-chain_of-loop-chain
invariant-chain_of-loop-chain l = Completes l.levels l.chain l.fn.parser l.left l.parser

abbrev pub decreases-chain_of-loop-chain : goal.decreases-chain_of-loop-chain
decreases-chain_of-loop-chain l = length l.parser.tokens
