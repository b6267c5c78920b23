-- How many statements a script has that was read.
use Rattle.std.proofs.Common.{◌≡◌, ℕ, suc, ◌+◌, List, [], ◌∷◌, Option, Result, Err, length, refl, sym, ap, subst, ◌∙◌}
use Rattle.std.specs.Prelude.{IsErrOf}
use Rattle.std.specs.Io.KnownBytes.{Appends}
use Rattle.sql_model.specs.declared.scripts.Step.{Step}
use Rattle.sql_model.specs.declared.scripts.Step.TheVariants.{One, Parallel}
use Rattle.lake_model.specs.Following.{statements}
use Rattle.lake_script.specs.declared.writing.RunEnd.{RunEnd}
use Rattle.lake_script.specs.declared.writing.RunEnd.TheVariants.{WriteFault}
use Rattle.lake_script.specs.Checks.{check_text, line_of_count, WritesFewer}
use Rattle.lake_script.specs.Headline.{ReadsScript}
use Rattle.lake_script.specs.Scripts.{AreInTurn}

one_each : (place : ℕ) (steps : List Step) → AreInTurn place steps → length (statements steps) ≡ length steps
one_each place [] turn = refl
one_each place (One n ∷ steps) turn = ap (λ (k : ℕ). suc k) (one_each (place + 1) steps turn.2)
one_each place (Parallel group ∷ steps) turn = absurd turn

-- the line that names the number of steps names that of the statements
line_is : (script steps : List Step) → AreInTurn 1 script → steps ≡ script → line_of_count (length script) ≡ check_text steps
line_is script steps turn same = ap line_of_count (sym (one_each 1 script turn) ∙ ap (λ (xs : List Step). length (statements xs)) (sym same))

pub checked : (script : List Step) (old new before after : Option (List ℕ)) → AreInTurn 1 script → ReadsScript (λ steps. steps ≡ script) old new → Appends before after (line_of_count (length script)) →
    ReadsScript (λ steps. Appends before after (check_text steps)) old new
checked script old new before after turn reads wrote =
    record { bytes = reads.bytes; steps = reads.steps; whole = reads.whole; is_script = reads.is_script; holds = subst (Appends before after) (line_is script reads.steps turn reads.holds) wrote }

pub checked_less : (script : List Step) (old new before after : Option (List ℕ)) → AreInTurn 1 script → ReadsScript (λ steps. steps ≡ script) old new → WritesFewer before after (line_of_count (length script)) →
    ReadsScript (λ steps. WritesFewer before after (check_text steps)) old new
checked_less script old new before after turn reads wrote =
    record { bytes = reads.bytes; steps = reads.steps; whole = reads.whole; is_script = reads.is_script; holds = subst (WritesFewer before after) (line_is script reads.steps turn reads.holds) wrote }

-- a fault of the sink was said of the end that came
pub fault_of : {X : Type 0} (r : Result X RunEnd) (end : RunEnd) (P : Type 0) → r ≡ Err end → end ≡ WriteFault → (IsErrOf r WriteFault → P) → P
fault_of {X} r end P is ends said = said (is ∙ ap Err ends)
