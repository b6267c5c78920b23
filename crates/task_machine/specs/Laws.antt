-- What the verdicts mean, and that a finished task stays as it is.
use Rattle.std.specs.Prelude.{◌≡◌, ℕ, ◌≤◌, ◌<◌, ◌⊎◌, true, false, [], None, IsSome}
use Rattle.task_machine.specs.declared.words.How.{How}
use Rattle.task_machine.specs.declared.words.How.TheVariants.{Good, Fault, Beaten}
use Rattle.task_machine.specs.declared.words.State.TheVariants as state
use Rattle.task_machine.specs.declared.words.Verdict.TheVariants as verdict
use Rattle.task_machine.specs.Progress.{IsProgress, Progress, lost, may_start, reported, runs}
use Rattle.task_machine.specs.Progress.{state_of, verdict_of, without}

-- An attempt that doesn't run is late, and changes nothing.
abbrev pub LateChangesNothing : Type 0
LateChangesNothing =
    (attempt : ℕ) (how : How) (p : Progress) → runs attempt p.running ≡ false
    → (verdict_of attempt how p ≡ verdict.Late) × (reported attempt how p ≡ p)

-- A good report of one that runs wins.
abbrev pub GoodWins : Type 0
GoodWins =
    (attempt : ℕ) (p : Progress) → runs attempt p.running ≡ true
    → (verdict_of attempt Good p ≡ verdict.Won)
    × (state_of (reported attempt Good p) ≡ state.Done attempt)

-- The third fault spends the task.
abbrev pub ThirdFaultSpends : Type 0
ThirdFaultSpends =
    (attempt : ℕ) (p : Progress) → runs attempt p.running ≡ true → p.winner ≡ None → p.faults ≡ 2
    → (verdict_of attempt Fault p ≡ verdict.Spent)
    × (state_of (reported attempt Fault p) ≡ state.Spent)

-- The first two faults leave it to be tried again, and so does one who was beaten.
abbrev pub OthersAreRetried : Type 0
OthersAreRetried =
    (attempt : ℕ) (p : Progress) → runs attempt p.running ≡ true
    → (p.faults < 2 → verdict_of attempt Fault p ≡ verdict.Retry)
    × (verdict_of attempt Beaten p ≡ verdict.Retry)

-- Where no other attempt runs, it is ready again.
abbrev pub IsReadyAgain : Type 0
IsReadyAgain =
    (attempt : ℕ) (how : How) (p : Progress) → p.ready ≡ true → p.winner ≡ None → p.faults ≤ 2
    → verdict_of attempt how p ≡ verdict.Retry → without attempt p.running ≡ []
    → state_of (reported attempt how p) ≡ state.Ready

-- one attempt won, or three faults were taken
abbrev pub IsFinished : Progress → Type 0
IsFinished p = IsSome p.winner ⊎ (3 ≤ p.faults)

-- No report and no lost server changes a finished task, and no attempt of it is started.
abbrev pub FinishedStays : Type 0
FinishedStays =
    (p : Progress) → IsProgress p → IsFinished p
    → ((attempt : ℕ) (how : How) → reported attempt how p ≡ p)
    × ((server : ℕ) → lost server p ≡ p)
    × ((server : ℕ) → may_start server p ≡ false)
