use Rattle.std.proofs.Common.{ℕ, ◌<◌, ◌≤◌, length, take, inr, sym, subst, arith}
use Rattle.std.specs.Io.KnownBytes.{Appends}
use Rattle.lake_session.specs.Runs.{MayRun}
use Rattle.lake_script.specs.declared.writing.RunEnd.{RunEnd}
use Rattle.lake_script.specs.declared.writing.RunEnd.TheVariants.{NoMemory, WriteFault}
use Rattle.lake_script.proofs.Stopping.{at_error, at_ok, leaves_of, ran_in, ran_of, stopped_in, text_shown}
use Rattle.lake_script.proofs.running.run_step.Goals as goal

pub execute-requires-clause-session : goal.execute-requires-clause-session
execute-requires-clause-session g c κs within =
    let P : ℕ → Type 0 = λ s. MayRun c.args.lake.now s in subst P (sym c.requires.own) c.requires.may_run

pub returns-clause-ok : goal.returns-clause-ok
returns-clause-ok g c =
    at_ok _ RunEnd c.put_all.result _ _
    (ran_in _ _ _ c.in_ok-reply.reply c.as_slice.result.now _ _ (ran_of _ _ c.args.n.now _ _ c.requires.own c.in_ok-reply.ensures.ran)
    (text_shown _ _ _ _ _ c.as_slice.ensures.value c.in_ok-reply_text.ensures.ok c.new-text.ensures.items)) c.put_all.ensures.ok

pub returns-clause-stopped : goal.returns-clause-stopped
returns-clause-stopped g c =
    λ failed.
    let bytes = c.as_slice.result.now in
    let part = at_error _ RunEnd c.put_all.result WriteFault ((k : ℕ) × (k < length bytes) × Appends (g.K.Sink.written c.args.out.now) (g.K.Sink.written c.put_all.new.out) (take k bytes)) failed c.put_all.ensures.part in
    stopped_in _ _ _ c.in_ok-reply.reply bytes _ _ (ran_of _ _ c.args.n.now _ _ c.requires.own c.in_ok-reply.ensures.ran)
    (text_shown _ _ _ _ _ c.as_slice.ensures.value c.in_ok-reply_text.ensures.ok c.new-text.ensures.items) ◌<◌ part

pub returns-clause-no_memory : goal.returns-clause-no_memory
returns-clause-no_memory g c =
    λ out_of_memory.
    let bytes = c.as_slice.result.now in
    let part = at_error _ RunEnd c.put_all.result NoMemory ((k : ℕ) × (k < length bytes) × Appends (g.K.Sink.written c.args.out.now) (g.K.Sink.written c.put_all.new.out) (take k bytes)) out_of_memory c.put_all.ensures.part in
    inr (stopped_in _ _ _ c.in_ok-reply.reply bytes _ _ (ran_of _ _ c.args.n.now _ _ c.requires.own c.in_ok-reply.ensures.ran)
    (text_shown _ _ _ _ _ c.as_slice.ensures.value c.in_ok-reply_text.ensures.ok c.new-text.ensures.items) ◌≤◌ (part.0, omega (arith, part.1), part.2))

pub returns-in_err-reply-clause-leaves : goal.returns-in_err-reply-clause-leaves
returns-in_err-reply-clause-leaves g c = leaves_of _ _ _ _ c.requires.own c.execute.ensures.leaves

pub returns-in_err-reply_text-clause-leaves : goal.returns-in_err-reply_text-clause-leaves
returns-in_err-reply_text-clause-leaves g c = leaves_of _ _ _ _ c.requires.own c.execute.ensures.leaves

pub returns-clause-leaves : goal.returns-clause-leaves
returns-clause-leaves g c = leaves_of _ _ _ _ c.requires.own c.execute.ensures.leaves
