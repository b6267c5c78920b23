use Rattle.std.proofs.Common.{◌≡◌, ◌≤◌}
use Rattle.lake_script.proofs.Between.{IsBetween}
use Rattle.lake_script.proofs.Progress.{Progress}
use Rattle.lake_script.proofs.running.run_all.Given as goal

abbrev pub invariant-loop-step : goal.invariant-loop-step
invariant-loop-step g l = record {
  progress : Progress (g.K.Sink.written l.fn.out) (g.K.Sink.written l.out) l.lake.entries l.steps l.step-index;
  between : IsBetween l.lake l.step-index;
  sessions : l.sessions ≡ l.fn.sessions;
  faults : g.K.Sink.faults l.fn.out ≤ g.K.Sink.faults l.out;
  idle : g.K.Sink.idle l.fn.out ≤ g.K.Sink.idle l.out;
}
