use Rattle.std.proofs.Common.{◌∙◌, sym, arith}
use Rattle.sql_tokens.proofs.Scanning.{scan_at-gap}
use Rattle.sql_tokens.proofs.next.behind_gaps.Goals as goal

pub loop-size-preserved : goal.loop-size-preserved
loop-size-preserved c = record {
  behind = omega arith;
  within = omega (arith, c.split_at.ensures.back_len, c.in-Some.ensures.within);
  same =
      c.loop-size.invariant.same
      ∙ scan_at-gap c.loop-size.place c.in-Some.size c.args.bytes.now c.split_at.result.1.now c.split_at.ensures.back
      (sym c.in-Some.ensures.value) c.in-Some.ensures.within.0 c.in-Some.ensures.within.1;
}
