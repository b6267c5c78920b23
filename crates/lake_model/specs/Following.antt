-- When a chronicle follows a script: each statement stands in it once, in its session's order, rightly answered.
use Rattle.std.specs.Prelude.{◌≡◌, ◌≢◌, ℕ, ◌≤◌, ◌==◌, ◌⊎◌, Bool, true, false, ◌||◌, ◌&&◌, List, [], ◌∷◌, map, filter, if◌then◌else◌, MatchBool}
use Rattle.std.specs.List.{AllByRecursion, flat_map}
use Rattle.lake_model.specs.declared.entries.Fact.{Fact}
use Rattle.lake_model.specs.declared.entries.Fact.TheVariants as fact
use Rattle.sql_model.specs.declared.scripts.Numbered.{Numbered}
use Rattle.sql_model.specs.declared.scripts.Step.{Step}
use Rattle.sql_model.specs.declared.scripts.Step.TheVariants.{One, Parallel}
use Rattle.sql_model.specs.declared.statements.Statement.{Statement}
use Rattle.sql_model.specs.declared.statements.Statement.TheVariants.{Create, Begin, Commit, RollBack, Insert, Select, Update, Delete, Compact, Checkpoint, Collect}
use Rattle.lake_model.specs.State.{State, Noted, opening, is_inside, stated}
use Rattle.lake_model.specs.Allowed.{IsLegalFrom}
use Rattle.lake_model.specs.Answers.{IsRight}
use Rattle.sql_model.specs.StatementKinds.{is_commit}
use Rattle.sql_model.specs.Listing.{IsOneOf}

-- the kinds of entries
pub data EntryKind : Type 0 where
  created : EntryKind
  began : EntryKind
  ran : EntryKind
  committed : EntryKind
  conflict : EntryKind
  ended : EntryKind
  rolled_back : EntryKind
  refused : EntryKind
  failed : EntryKind
  compacted : EntryKind
  checkpointed : EntryKind
  collected : EntryKind

abbrev pub kind_of : Fact → EntryKind
kind_of (fact.Created table schema seq) = created
kind_of (fact.Began explicit txn snapshot) = began
kind_of (fact.Ran reply change) = ran
kind_of (fact.Committed seq added dropped) = committed
kind_of (fact.Conflict seq) = conflict
kind_of fact.Ended = ended
kind_of fact.RolledBack = rolled_back
kind_of (fact.Refused cause) = refused
kind_of (fact.Failed cause) = failed
kind_of (fact.Compacted table cells marks seq added dropped) = compacted
kind_of (fact.Checkpointed table at name) = checkpointed
kind_of (fact.Collected names floor) = collected

-- where a session stands before a statement: inside a transaction that BEGIN opened, or outside
pub data Situation : Type 0 where
  inside : Situation
  outside : Situation

abbrev pub situation : State → ℕ → Situation
situation st session = if is_inside st session then inside else outside

abbrev pub one_entry : List EntryKind → List (List EntryKind)
one_entry kinds = map (λ k. k ∷ []) kinds

-- the sequences of entries of a statement that reads or changes rows
abbrev pub row_sequences : Situation → List (List EntryKind)
row_sequences inside = one_entry (ran ∷ refused ∷ failed ∷ [])
row_sequences outside =
    (began ∷ refused ∷ []) ∷ (began ∷ failed ∷ []) ∷
    (began ∷ ran ∷ ended ∷ []) ∷ (began ∷ ran ∷ committed ∷ []) ∷
    (began ∷ ran ∷ conflict ∷ []) ∷ (began ∷ ran ∷ failed ∷ []) ∷ []

-- the sequences of entries of a statement that compacts or checkpoints, where it ends by one of these
abbrev pub upkeep_sequences : List EntryKind → Situation → List (List EntryKind)
upkeep_sequences ends inside = one_entry (refused ∷ [])
upkeep_sequences ends outside = map (λ k. began ∷ k ∷ []) ends

-- the sequences of entries that a statement may have
abbrev pub entry_sequences : Situation → Statement → List (List EntryKind)
entry_sequences situation (Create table columns distribution) = one_entry (created ∷ refused ∷ [])
entry_sequences situation Begin = one_entry (began ∷ refused ∷ [])
entry_sequences situation Commit = one_entry (ended ∷ committed ∷ conflict ∷ failed ∷ refused ∷ [])
entry_sequences situation RollBack = one_entry (rolled_back ∷ refused ∷ [])
entry_sequences situation (Insert table rows) = row_sequences situation
entry_sequences situation (Select q) = row_sequences situation
entry_sequences situation (Update table sets filter) = row_sequences situation
entry_sequences situation (Delete table filter) = row_sequences situation
entry_sequences situation (Compact table) = upkeep_sequences (refused ∷ failed ∷ ended ∷ conflict ∷ compacted ∷ []) situation
entry_sequences situation (Checkpoint table) = upkeep_sequences (refused ∷ failed ∷ checkpointed ∷ []) situation
entry_sequences situation (Collect retain) = one_entry (collected ∷ failed ∷ refused ∷ [])

abbrev pub is_ran : Fact → Bool
is_ran (fact.Created table schema seq) = false
is_ran (fact.Began explicit txn snapshot) = false
is_ran (fact.Ran reply change) = true
is_ran (fact.Committed seq added dropped) = false
is_ran (fact.Conflict seq) = false
is_ran fact.Ended = false
is_ran fact.RolledBack = false
is_ran (fact.Refused cause) = false
is_ran (fact.Failed cause) = false
is_ran (fact.Compacted table cells marks seq added dropped) = false
is_ran (fact.Checkpointed table at name) = false
is_ran (fact.Collected names floor) = false

abbrev pub is_failed : Fact → Bool
is_failed (fact.Created table schema seq) = false
is_failed (fact.Began explicit txn snapshot) = false
is_failed (fact.Ran reply change) = false
is_failed (fact.Committed seq added dropped) = false
is_failed (fact.Conflict seq) = false
is_failed fact.Ended = false
is_failed fact.RolledBack = false
is_failed (fact.Refused cause) = false
is_failed (fact.Failed cause) = true
is_failed (fact.Compacted table cells marks seq added dropped) = false
is_failed (fact.Checkpointed table at name) = false
is_failed (fact.Collected names floor) = false

-- an entry that failed inside an explicit transaction ends it exactly where its statement is COMMIT
abbrev pub EndsRightly : State → Statement → Noted → Type 0
EndsRightly st x e = MatchBool (is_failed e.entry.fact && is_inside st e.entry.session) (e.ends ≡ is_commit x) (Unit {0})

-- the entry is the session's, and answers the statement in the state before it
pub record IsAnswer
    (told : Bool) (n : Numbered) (before : Bool) (st : State) (e : Noted) : Type 0 where
  pub session : e.entry.session ≡ n.session
  pub right : IsRight told st e.entry.session before n.statement e.entry.fact
  pub ends : EndsRightly st n.statement e

-- each entry answers the statement
abbrev pub AnswerFrom : Bool → Numbered → Bool → List (State × Noted) → Type 0
AnswerFrom told n before [] = Unit {0}
AnswerFrom told n before (p ∷ ps) =
    IsAnswer told n before p.0 p.1 × AnswerFrom told n (before || is_ran p.1.entry.fact) ps

-- where the session stands before the first of its entries
abbrev pub situation_before : ℕ → List (State × Noted) → Situation
situation_before session [] = outside
situation_before session (p ∷ ps) = situation p.0 session

-- the entries of a statement, each with the state before it
pub record IsRun (told : Bool) (n : Numbered) (run : List (State × Noted)) : Type 0 where
  pub kinds : IsOneOf (entry_sequences (situation_before n.session run) n.statement) (map (λ p. kind_of p.1.entry.fact) run)
  pub answers : AnswerFrom told n false run

abbrev pub statements_of : Step → List Numbered
statements_of (One n) = n ∷ []
statements_of (Parallel group) = group

abbrev pub statements : List Step → List Numbered
statements x = flat_map statements_of x

-- the entries at a place, each with the state before it
abbrev pub run_at : ℕ → List (State × Noted) → List (State × Noted)
run_at place entries = filter (λ p. p.1.entry.place == place) entries

-- the entries at a place from a state on, each with the state before it
abbrev pub run_of : ℕ → State → List Noted → List (State × Noted)
run_of place st entries = run_at place (stated st entries)

abbrev pub places : List Numbered → List ℕ
places ns = map (λ n. n.place) ns

-- a block of the script has both places
abbrev pub ShareBlock : List Step → ℕ → ℕ → Type 0
ShareBlock [] p q = ⊥
ShareBlock (step ∷ x) p q = (IsOneOf (places (statements_of step)) p × IsOneOf (places (statements_of step)) q) ⊎ ShareBlock x p q

-- f may stand behind e: its place isn't before, or another session of the same block made it
abbrev pub MayFollow : List Step → Noted → Noted → Type 0
MayFollow x e f = (e.entry.place ≤ f.entry.place) ⊎ (ShareBlock x e.entry.place f.entry.place × (e.entry.session ≢ f.entry.session))

abbrev pub IsInOrder : List Step → List Noted → Type 0
IsInOrder x [] = Unit {0}
IsInOrder x (e ∷ es) = AllByRecursion (MayFollow x e) es × IsInOrder x es

-- From a state on each statement's entries are one of its sequences, rightly answered; no other
-- entry stands there; and the statements stand in order.
pub record FollowsFrom
    (told : Bool) (st : State) (entries : List Noted) (x : List Step) : Type 0 where
  pub runs : AllByRecursion (λ n. IsRun told n (run_of n.place st entries)) (statements x)
  pub no_others : AllByRecursion (λ e. IsOneOf (places (statements x)) e.entry.place) entries
  pub order : IsInOrder x entries

-- a chronicle follows a script from the first entry on
abbrev pub Follows : Bool → List Noted → List Step → Type 0
Follows told entries x = FollowsFrom told opening entries x

-- what a statement adds behind the entries that lead to st: its own entries, allowed there and
-- rightly answered
pub record IsAnswered (told : Bool) (st : State) (n : Numbered) (run : List Noted) : Type 0 where
  pub legal : IsLegalFrom told st run
  pub own : AllByRecursion (λ e. e.entry.place ≡ n.place) run
  pub right : IsRun told n (stated st run)
