use Rattle.std.proofs.Common.{ℕ, inr, subst}
use Rattle.std.specs.Io.KnownBytes.{Appends}
use Rattle.lake_script.specs.Checks.{WritesFewer, line_of_count}
use Rattle.lake_script.proofs.Counting.{checked, checked_less, fault_of}
use Rattle.lake_script.proofs.checking.check_words.Goals as goal

pub returns-in-Ok-put_count-clause-ends : goal.returns-in-Ok-put_count-clause-ends
returns-in-Ok-put_count-clause-ends g c =
    let P : ℕ → Type 0 = λ k. Appends (g.K.Sink.written c.args.out.now) (g.K.Sink.written c.put_count.new.out) (line_of_count k) in (
      c.is_check.ensures.0 c.if-not-is_check.false,
      checked c.in-Ok.script _ _ _ _ c.in-Ok.ensures.in_turn c.in-Ok.ensures.script (subst P c.len.ensures c.in-Ok-put_count.ensures.ok),
    )

pub returns-in-Err-WriteFault-clause-ends : goal.returns-in-Err-WriteFault-clause-ends
returns-in-Err-WriteFault-clause-ends g c =
    let P : ℕ → Type 0 = λ k. WritesFewer (g.K.Sink.written c.args.out.now) (g.K.Sink.written c.put_count.new.out) (line_of_count k) in (
      c.is_check.ensures.0 c.if-not-is_check.false,
      checked_less c.in-Ok.script _ _ _ _ c.in-Ok.ensures.in_turn c.in-Ok.ensures.script (subst P c.len.ensures c.in-Err-WriteFault.ensures.part),
      fault_of c.put_count.result c.in-Err-WriteFault.field-0 _ c.in-Err-WriteFault.is c.in-Err-WriteFault.field-0-is c.put_count.ensures.fault,
    )

pub returns-clause-ends : goal.returns-clause-ends
returns-clause-ends g c =
    let P : ℕ → Type 0 = λ k. WritesFewer (g.K.Sink.written c.args.out.now) (g.K.Sink.written c.put_count.new.out) (line_of_count k) in (
      c.is_check.ensures.0 c.if-not-is_check.false,
      inr (checked_less c.in-Ok.script _ _ _ _ c.in-Ok.ensures.in_turn c.in-Ok.ensures.script (subst P c.len.ensures c.in-Err-NoMemory.ensures.part)),
    )
