use Rattle.std.proofs.Common.{◌∙◌, arith}
use Rattle.sql_tokens.proofs.Growing.{fold-one_more}
use Rattle.sql_tokens.proofs.numbers.value_of.Goals as goal

pub loop-digit-preserved : goal.loop-digit-preserved
loop-digit-preserved c = record {
  bound = omega arith;
  same = c.loop-digit.invariant.same ∙ fold-one_more 9223372036854775809 c.loop-digit.value c.longer-value.result c.loop-digit.digit-index c.args.digits.now c.loop-digit-test.true c.longer-value.ensures;
}
