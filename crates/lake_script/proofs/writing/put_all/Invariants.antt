use Rattle.std.proofs.Common.{◌-◌, ◌≤◌, length, take}
use Rattle.std.specs.Io.KnownBytes.{Appends}
use Rattle.lake_script.proofs.writing.put_all.Given as goal

abbrev pub invariant-loop-taken : goal.invariant-loop-taken
invariant-loop-taken g l = record {
  within : l.taken ≤ length l.bytes;
  written : Appends (g.K.Sink.written l.fn.out) (g.K.Sink.written l.out) (take l.taken l.bytes);
  faults : g.K.Sink.faults l.fn.out ≤ g.K.Sink.faults l.out;
  idle : g.K.Sink.idle l.fn.out ≤ g.K.Sink.idle l.out;
}

abbrev pub decreases-loop-taken : goal.decreases-loop-taken
decreases-loop-taken g l = length l.bytes - l.taken
