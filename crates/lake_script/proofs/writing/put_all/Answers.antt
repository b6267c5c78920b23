use Rattle.std.proofs.Common.{arith}
use Rattle.lake_script.proofs.Streams.{appends_taken}
use Rattle.lake_script.proofs.writing.put_all.Goals as goal

pub loop-taken-preserved : goal.loop-taken-preserved
loop-taken-preserved g c = record {
  within = omega (arith, c.split_at.ensures.back_len, c.in-Ok.ensures.bound);
  written = appends_taken _ _ _ _ _ _ _ c.split_at.ensures.back c.loop-taken.invariant.written c.in-Ok.ensures.appended;
  faults = omega arith;
  idle = omega arith;
}
