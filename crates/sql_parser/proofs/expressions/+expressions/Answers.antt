use Rattle.std.proofs.Common.{◌∙◌, ◌-◌, sym, arith}
use Rattle.std.proofs.lemmas.Result.{err_from_is_err_and}
use Rattle.sql_tokens.specs.declared.keywords.Keyword.TheVariants as keyword
use Rattle.sql_tokens.specs.declared.signs.Sign.TheVariants as sign
use Rattle.sql_parser.specs.Grammar.{the, key_operator, binary_op, operand, chain, negated, parenthesized, negation, disjunction}
use Rattle.sql_parser.specs.Ahead.{reading}
use Rattle.sql_parser.proofs.Chains.{chain_goes_on, chain_shrinks, chain_ends, operator_stops, operand_stops}
use Rattle.sql_parser.proofs.Levels.{negated_reads, negated_unopened, negated_stops, negated_too_deep, parenthesized_reads, parenthesized_stops, parenthesized_unclosed, parenthesized_too_deep}
use Rattle.sql_parser.proofs.Stopping.{stops_by}
use Rattle.sql_parser.proofs.expressions.+expressions.Goals as goal

pub chain_of-loop-chain-preserved : goal.chain_of-loop-chain-preserved
chain_of-loop-chain-preserved t c =
    rw c.in_ok-left-2.ensures
    (chain_goes_on c.args.levels c.args.chain c.args.parser.now c.loop-chain.parser c.binary_op.new.parser c.operand-in-loop-chain.new.parser c.loop-chain.left c.in_ok-op.op c.in_ok-right.right
    c.loop-chain.invariant (sym c.is_at_binary_op.ensures ∙ c.loop-chain-test.true) c.in_ok-op.ensures.reads c.in_ok-right.ensures.reads (c.in_ok-right.ensures.ending ∙ c.in_ok-op.ensures.ending))

pub chain_of-loop-chain-smaller : goal.chain_of-loop-chain-smaller
chain_of-loop-chain-smaller t c =
    chain_shrinks c.args.levels c.args.chain c.loop-chain.parser c.binary_op.new.parser c.operand-in-loop-chain.new.parser c.in_ok-op.op c.in_ok-right.right
    c.in_ok-op.ensures.reads c.in_ok-right.ensures.reads

pub chain_of-returns-clause-reads : goal.chain_of-returns-clause-reads
chain_of-returns-clause-reads t c =
    chain_ends c.args.levels c.args.chain c.args.parser.now c.loop-chain.parser c.loop-chain.left c.loop-chain.invariant (sym c.is_at_binary_op.ensures ∙ c.loop-chain-test.false)

pub chain_of-returns-in_err-op-clause-reads : goal.chain_of-returns-in_err-op-clause-reads
chain_of-returns-in_err-op-clause-reads t c =
    let p = err_from_is_err_and c.from_residual-in_err-op.result c.from_residual-in_err-op.ensures.1 in
    rw (p.1, p.2)
    (stops_by (reading 0 (binary_op c.args.chain) c.loop-chain.parser) (reading c.args.levels (chain c.args.chain) c.args.parser.now)
    (λ e. operator_stops c.args.levels c.args.chain c.args.parser.now c.loop-chain.parser c.loop-chain.left e c.loop-chain.invariant (sym c.is_at_binary_op.ensures ∙ c.loop-chain-test.true))
    c.in_err-op.field-0.0 c.binary_op.new.parser c.in_err-op.ensures.reads)

pub chain_of-returns-in_err-right-clause-reads : goal.chain_of-returns-in_err-right-clause-reads
chain_of-returns-in_err-right-clause-reads t c =
    let p = err_from_is_err_and c.from_residual-in_err-right.result c.from_residual-in_err-right.ensures.1 in
    rw (p.1, p.2)
    (stops_by (reading c.args.levels (operand c.args.chain) c.binary_op.new.parser) (reading c.args.levels (chain c.args.chain) c.args.parser.now)
    (λ e. operand_stops c.args.levels c.args.chain c.args.parser.now c.loop-chain.parser c.binary_op.new.parser c.loop-chain.left c.in_ok-op.op e c.loop-chain.invariant
    (sym c.is_at_binary_op.ensures ∙ c.loop-chain-test.true) c.in_ok-op.ensures.reads)
    c.in_err-right.field-0.0 c.operand-in-loop-chain.new.parser c.in_err-right.ensures.reads)

pub negated-returns-clause-reads : goal.negated-returns-clause-reads
negated-returns-clause-reads t c =
    rw c.in_ok-new.ensures
    (negated_reads c.args.levels c.args.parser.now c.key_operator.new.self c.negation.new.parser c.in_ok-inner.inner c.in_ok-key_operator.ensures.reads (omega arith) c.in_ok-inner.ensures.reads)

pub negated-returns-in_err-inner-clause-reads : goal.negated-returns-in_err-inner-clause-reads
negated-returns-in_err-inner-clause-reads t c =
    let p = err_from_is_err_and c.from_residual-in_err-inner.result c.from_residual-in_err-inner.ensures.1 in
    rw (p.1, p.2)
    (stops_by (reading (c.args.levels - 1) negation c.key_operator.new.self) (reading c.args.levels negated c.args.parser.now)
    (λ e. negated_stops c.args.levels c.args.parser.now c.key_operator.new.self e c.in_ok-key_operator.ensures.reads (omega arith))
    c.in_err-inner.field-0.0 c.negation.new.parser c.in_err-inner.ensures.reads)

pub parenthesized-returns-clause-reads : goal.parenthesized-returns-clause-reads
parenthesized-returns-clause-reads t c =
    parenthesized_reads c.args.levels c.args.parser.now c.sign.new.self c.disjunction.new.parser c.sign-2.new.self c.in_ok-inner.inner c.in_ok-sign.ensures.reads (omega arith)
    c.in_ok-inner.ensures.reads c.in_ok-sign-2.ensures.reads

pub parenthesized-returns-in_err-inner-clause-reads : goal.parenthesized-returns-in_err-inner-clause-reads
parenthesized-returns-in_err-inner-clause-reads t c =
    let p = err_from_is_err_and c.from_residual-in_err-inner.result c.from_residual-in_err-inner.ensures.1 in
    rw (p.1, p.2)
    (stops_by (reading (c.args.levels - 1) disjunction c.sign.new.self) (reading c.args.levels parenthesized c.args.parser.now)
    (λ e. parenthesized_stops c.args.levels c.args.parser.now c.sign.new.self e c.in_ok-sign.ensures.reads (omega arith))
    c.in_err-inner.field-0.0 c.disjunction.new.parser c.in_err-inner.ensures.reads)

pub parenthesized-returns-in_err-sign-2-clause-reads : goal.parenthesized-returns-in_err-sign-2-clause-reads
parenthesized-returns-in_err-sign-2-clause-reads t c =
    let p = err_from_is_err_and c.from_residual-in_err-sign-2.result c.from_residual-in_err-sign-2.ensures.1 in
    rw (p.1, p.2)
    (stops_by (reading 0 (the sign.CloseParenthesis) c.disjunction.new.parser) (reading c.args.levels parenthesized c.args.parser.now)
    (λ e. parenthesized_unclosed c.args.levels c.args.parser.now c.sign.new.self c.disjunction.new.parser c.in_ok-inner.inner e c.in_ok-sign.ensures.reads (omega arith) c.in_ok-inner.ensures.reads)
    c.in_err-sign-2.field-0.0 c.sign-2.new.self c.in_err-sign-2.ensures.reads)

pub parenthesized-returns-then-levels-eq0-clause-reads : goal.parenthesized-returns-then-levels-eq0-clause-reads
parenthesized-returns-then-levels-eq0-clause-reads t c = parenthesized_too_deep c.args.levels c.args.parser.now (sym c.is_at_sign.ensures ∙ c.if-not-is_at_sign.false) c.if-levels-eq0.true

pub negated-returns-then-levels-eq0-clause-reads : goal.negated-returns-then-levels-eq0-clause-reads
negated-returns-then-levels-eq0-clause-reads t c = negated_too_deep c.args.levels c.args.parser.now (sym c.is_at_keyword.ensures ∙ c.if-not-is_at_keyword.false) c.if-levels-eq0.true

pub negated-returns-in_err-key_operator-clause-reads : goal.negated-returns-in_err-key_operator-clause-reads
negated-returns-in_err-key_operator-clause-reads t c =
    let p = err_from_is_err_and c.from_residual.result c.from_residual.ensures.1 in
    rw (p.1, p.2)
    (stops_by (reading 0 (key_operator keyword.Not) c.args.parser.now) (reading c.args.levels negated c.args.parser.now)
    (λ e. negated_unopened c.args.levels c.args.parser.now e) c.in_err-key_operator.field-0.0 c.key_operator.new.self c.in_err-key_operator.ensures.reads)
