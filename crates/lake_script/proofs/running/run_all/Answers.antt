use Rattle.std.proofs.Common.{List, length, ap, sym, subst, arith, ⊎_elim}
use Rattle.sql_model.specs.declared.scripts.Step.{Step}
use Rattle.lake_script.specs.Headline.{HasHalted, HasBegun}
use Rattle.lake_script.proofs.Between.{may_run, one_ran}
use Rattle.lake_script.proofs.Progress.{halts, begins, begins_before, next_runnable, one_more, step_is}
use Rattle.lake_script.proofs.Seats.{is_own, is_unspent, ports_kept, sessions_kept}
use Rattle.lake_script.proofs.running.run_all.Goals as goal

pub run_step-requires-clause-own : goal.run_step-requires-clause-own
run_step-requires-clause-own g c κs within =
    let is = step_is c.as_slice-steps.result.now c.loop-step.step-index _ _ c.step-item.is c.in-One.is in
    is_own _ _ c.in-One.n _ c.loop-step.invariant.sessions c.requires.sessions
    (next_runnable _ _ _ c.as_slice-steps.result.now c.loop-step.step-index c.in-One.n c.loop-step.invariant.progress c.loop-step-test.true is) c.requires.seated

pub run_step-requires-clause-unspent : goal.run_step-requires-clause-unspent
run_step-requires-clause-unspent g c κs within =
    let is = step_is c.as_slice-steps.result.now c.loop-step.step-index _ _ c.step-item.is c.in-One.is in
    is_unspent _ _ c.in-One.n _ c.loop-step.invariant.sessions c.requires.sessions
    (next_runnable _ _ _ c.as_slice-steps.result.now c.loop-step.step-index c.in-One.n c.loop-step.invariant.progress c.loop-step-test.true is) c.requires.seated

pub run_step-requires-clause-may_run : goal.run_step-requires-clause-may_run
run_step-requires-clause-may_run g c κs within =
    may_run c.loop-step.lake c.loop-step.step-index c.in-One.n.session c.loop-step.invariant.between c.loop-step.invariant.progress.few
    (omega (arith, c.loop-step-test.true, c.requires.few, ap length c.as_slice-steps.ensures))

pub returns-in-Err-clause-halted : goal.returns-in-Err-clause-halted
returns-in-Err-clause-halted g c =
    λ stopped.
    let P : List Step → Type 0 = λ steps. HasHalted (g.K.Sink.written c.args.out.now) (g.K.Sink.written c.run_step.new.out) c.run_step.new.lake.entries steps in
    subst P c.as_slice-steps.ensures
    (halts _ _ _ c.loop-step.lake _ c.as_slice-steps.result.now c.loop-step.step-index c.in-One.n c.loop-step.invariant.progress c.loop-step-test.true
    (step_is c.as_slice-steps.result.now c.loop-step.step-index _ _ c.step-item.is c.in-One.is)
    (c.in-Err.ensures.stopped stopped))

pub returns-in-Err-clause-no_memory : goal.returns-in-Err-clause-no_memory
returns-in-Err-clause-no_memory g c =
    λ out_of_memory.
    let P : List Step → Type 0 = λ steps. HasBegun (g.K.Sink.written c.args.out.now) (g.K.Sink.written c.run_step.new.out) steps in
    let is = step_is c.as_slice-steps.result.now c.loop-step.step-index _ _ c.step-item.is c.in-One.is in
    subst P c.as_slice-steps.ensures
    (⊎_elim
    (λ same. begins_before _ _ _ c.loop-step.lake c.run_step.new.lake c.as_slice-steps.result.now c.loop-step.step-index c.in-One.n c.loop-step.invariant.progress c.loop-step-test.true is
    (ap g.K.Sink.written (sym same)))
    (λ stopped. begins _ _ _ c.loop-step.lake c.run_step.new.lake c.as_slice-steps.result.now c.loop-step.step-index c.in-One.n c.loop-step.invariant.progress c.loop-step-test.true is stopped)
    (c.in-Err.ensures.no_memory out_of_memory))

pub returns-in-Err-clause-ports : goal.returns-in-Err-clause-ports
returns-in-Err-clause-ports g c =
    let is = step_is c.as_slice-steps.result.now c.loop-step.step-index _ _ c.step-item.is c.in-One.is in
    ports_kept _ _ c.in-One.n _ c.loop-step.invariant.sessions c.requires.sessions
    (next_runnable _ _ _ c.as_slice-steps.result.now c.loop-step.step-index c.in-One.n c.loop-step.invariant.progress c.loop-step-test.true is) c.run_step.new.session c.run_step.ensures.port

pub loop-step-preserved : goal.loop-step-preserved
loop-step-preserved g c =
    let is = step_is c.as_slice-steps.result.now c.loop-step.step-index _ _ c.step-item.is c.in-One.is in record {
      progress = one_more _ _ _ c.loop-step.lake _ c.as_slice-steps.result.now c.loop-step.step-index c.in-One.n c.loop-step.invariant.progress c.loop-step-test.true is c.in_default-run_step.ensures.ok;
      between = one_ran _ _ _ _ _ c.loop-step.invariant.between c.in_default-run_step.ensures.ok.ran c.run_step.ensures.leaves;
      sessions =
          sessions_kept _ _ c.in-One.n _ c.loop-step.invariant.sessions c.requires.sessions
          (next_runnable _ _ _ c.as_slice-steps.result.now c.loop-step.step-index c.in-One.n c.loop-step.invariant.progress c.loop-step-test.true is) c.run_step.new.session c.in_default-run_step.ensures.session;
      faults = omega (arith, c.loop-step.invariant.faults, c.run_step.ensures.faults_never_fall);
      idle = omega (arith, c.loop-step.invariant.idle, c.run_step.ensures.idle_never_falls);
    }
