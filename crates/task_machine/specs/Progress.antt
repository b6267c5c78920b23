-- What is known of a task, and how each call changes it.
use Rattle.std.specs.Prelude.{◌≡◌, ℕ, ◌≤◌, ◌+◌, ◌==◌, ◌||◌, ◌++◌, Bool, true, false, not, nat_le}
use Rattle.std.specs.Prelude.{List, [], ◌∷◌, filter, Option, Some, None, IsSome}
use Rattle.task_machine.specs.declared.words.How.{How}
use Rattle.task_machine.specs.declared.words.How.TheVariants.{Good, Fault, Beaten}
use Rattle.task_machine.specs.declared.words.Placed.{Placed}
use Rattle.task_machine.specs.declared.words.State.{State}
use Rattle.task_machine.specs.declared.words.State.TheVariants as state
use Rattle.task_machine.specs.declared.words.Verdict.{Verdict}
use Rattle.task_machine.specs.declared.words.Verdict.TheVariants as verdict

-- whether its inputs are there, its attempts so far, its faults that weren't late, the attempts
-- that run, and who won
pub record Progress : Type 0 where
  pub ready : Bool
  pub assigns : ℕ
  pub faults : ℕ
  pub running : List Placed
  pub winner : Option ℕ

-- no attempt so far
abbrev pub untouched : Bool → Progress
untouched ready = record { ready = ready; assigns = 0; faults = 0; running = []; winner = None }

-- its state

-- by the winner, whether three faults were taken, what runs, and whether the inputs are there
abbrev pub state_by : Option ℕ → Bool → List Placed → Bool → State
state_by (Some winner) spent running ready = state.Done winner
state_by None true running ready = state.Spent
state_by None false (x ∷ xs) ready = state.Running
state_by None false [] true = state.Ready
state_by None false [] false = state.Blocked

abbrev pub state_of : Progress → State
state_of p = state_by p.winner (nat_le 3 p.faults) p.running p.ready

-- a further attempt

abbrev pub starts_in : State → List Placed → ℕ → Bool
starts_in state.Ready running server = true
starts_in state.Running (x ∷ []) server = not (x.server == server)
starts_in state.Running [] server = false
starts_in state.Running (x ∷ y ∷ xs) server = false
starts_in state.Blocked running server = false
starts_in (state.Done winner) running server = false
starts_in state.Spent running server = false

-- the task is ready, or one attempt of it runs, on another server
abbrev pub may_start : ℕ → Progress → Bool
may_start server p = starts_in (state_of p) p.running server

abbrev pub readied : Progress → Progress
readied p = record p { ready = true }

abbrev pub started : ℕ → Progress → Progress
started server p = record p {
  assigns = p.assigns + 1;
  running = p.running ++ record { attempt = p.assigns + 1; server = server } ∷ [];
}

-- a report

-- the attempt runs
abbrev pub runs : ℕ → List Placed → Bool
runs attempt [] = false
runs attempt (x ∷ xs) = (x.attempt == attempt) || runs attempt xs

-- the verdict, by whether the attempt runs and whether two faults were taken before
abbrev pub verdict_by : Bool → How → Bool → Verdict
verdict_by false how two = verdict.Late
verdict_by true Good two = verdict.Won
verdict_by true Fault true = verdict.Spent
verdict_by true Fault false = verdict.Retry
verdict_by true Beaten two = verdict.Retry

abbrev pub verdict_of : ℕ → How → Progress → Verdict
verdict_of attempt how p = verdict_by (runs attempt p.running) how (nat_le 2 p.faults)

-- those that run besides this attempt
abbrev pub without : ℕ → List Placed → List Placed
without attempt running = filter (λ x. not (x.attempt == attempt)) running

abbrev pub faults_after : How → ℕ → ℕ
faults_after Good faults = faults
faults_after Fault faults = faults + 1
faults_after Beaten faults = faults

-- what a verdict leaves
abbrev pub reported_by : Verdict → ℕ → How → Progress → Progress
reported_by verdict.Late attempt how p = p
reported_by verdict.Won attempt how p = record p { running = []; winner = Some attempt }
reported_by verdict.Spent attempt how p =
    record p { faults = faults_after how p.faults; running = [] }
reported_by verdict.Retry attempt how p =
    record p { faults = faults_after how p.faults; running = without attempt p.running }

abbrev pub reported : ℕ → How → Progress → Progress
reported attempt how p = reported_by (verdict_of attempt how p) attempt how p

-- a lost server

-- an attempt runs on the server
abbrev pub runs_on : ℕ → List Placed → Bool
runs_on server [] = false
runs_on server (x ∷ xs) = (x.server == server) || runs_on server xs

-- those that run on other servers
abbrev pub off : ℕ → List Placed → List Placed
off server running = filter (λ x. not (x.server == server)) running

abbrev pub lost : ℕ → Progress → Progress
lost server p = record p { running = off server p.running }

-- What holds of every task: it takes no more than three faults, runs no attempt after the third or
-- once one has won, and was never started before its inputs are there.
pub record IsProgress (p : Progress) : Type 0 where
  pub few : p.faults ≤ 3
  pub spent : 3 ≤ p.faults → p.running ≡ []
  pub done : IsSome p.winner → p.running ≡ []
  pub fresh : p.ready ≡ false → p ≡ untouched false

-- what runs at a place for one attempt
abbrev pub held : Option Placed → List Placed
held None = []
held (Some x) = x ∷ []
