-- In a state, one entry answers a statement without a failure, but for the names of blobs in it.
use Rattle.std.proofs.Common.{◌≡◌, ◌≢◌, ℕ, ◌+◌, ◌<◌, ◌≤◌, Bool, true, false, not, ◌&&◌, List, [], ◌∷◌, None, Some, Option, Ok, Err, Result, refl, sym, ap, ◌∙◌, is_some, true≢false, if◌then◌else◌}
use Rattle.std.specs.Prelude.{IsSomeAnd, IsNone, MatchBool}
use Rattle.std.specs.Option.{option_map_or}
use Rattle.lake_values.specs.declared.names.Kind.TheVariants.{File}
use Rattle.lake_values.specs.declared.names.Name.{Name}
use Rattle.lake_values.specs.Schemas.{TableColumns}
use Rattle.sql_model.specs.declared.changes.Change.{Change}
use Rattle.lake_model.specs.declared.entries.Fact.{Fact}
use Rattle.lake_model.specs.declared.entries.Fact.TheVariants.{Created, Began, Ran, Committed, Conflict, Ended, RolledBack, Refused, Failed, Compacted, Checkpointed, Collected}
use Rattle.sql_model.specs.declared.changes.Mark.{Mark}
use Rattle.sql_model.specs.declared.replies.Refusal.{Refusal}
use Rattle.sql_model.specs.declared.replies.Refusal.TheVariants.{NoTransaction}
use Rattle.sql_model.specs.declared.replies.Reply.{Reply}
use Rattle.sql_model.specs.declared.statements.Statement.{Statement}
use Rattle.sql_model.specs.declared.statements.Statement.TheVariants.{Create, Begin, Commit, RollBack, Insert, Select, Update, Delete, Compact, Checkpoint, Collect}
use Rattle.sql_model.specs.Changes.{is_unchanged, version_after}
use Rattle.sql_model.specs.Units.{units_of, units_of_compaction}
use Rattle.lake_model.specs.Compactions.{due, marks_in}
use Rattle.lake_model.specs.Conflicts.{first_conflict}
use Rattle.sql_model.specs.Writing.{Effect}
use Rattle.lake_model.specs.State.{State, Transaction, last, newest, version_at, transaction, with_version, with_part, turned, ended, after_fact}
use Rattle.lake_model.specs.Refusals.{refusal, result_of}
use Rattle.lake_model.specs.Allowed.{IsAllowedFact, MayCommit, MayConflict, MayCompact, MayCheckpoint}
use Rattle.lake_model.specs.Answers.{IsRight, IsCreateOf, IsConflictOf, IsEndOf, IsCompactionOf, IsCollectionOf, commits, floor_after}
use Rattle.sql_model.specs.Creating.{schema_of}
use Rattle.sql_model.specs.StatementKinds.{reads_rows, runs_alone}
use Rattle.lake_model.specs.Following.{is_failed}
use Rattle.lake_model.specs.Text.{reply_after}

-- facts and states without the names of blobs, and so without checkpoints

abbrev pub no_name : Name
no_name = record { kind = File; txn = 0; part = 0; task = 0; attempt = 0 }

abbrev pub bare : Fact → Fact
bare (Committed seq added dropped) = Committed seq [] []
bare (Compacted table cells marks seq added dropped) = Compacted table cells marks seq [] []
bare (Checkpointed table at name) = Checkpointed table at no_name
bare (Collected names floor) = Collected [] floor
bare f = f

abbrev pub bare_state : State → State
bare_state st = record st { names = []; checks = [] }

pub reply_bare : (x : Statement) (before : Option Reply) (f : Fact) → reply_after x before f ≡ reply_after x before (bare f)
reply_bare x before (Committed seq added dropped) = refl
reply_bare x before (Compacted table cells marks seq added dropped) = refl
reply_bare x before (Checkpointed table at name) = refl
reply_bare x before (Collected names floor) = refl
reply_bare x before f = refl

-- the state after a fact, without names
abbrev pub next : ℕ → Fact → State → State
next session f st = bare_state (after_fact session false f st)

ran_bare : (session : ℕ) (reply : Reply) (change : Change) (st : State) (o : Option Transaction)
    → bare_state (option_map_or (λ t. turned session (with_part reply change t) st) o st) ≡ bare_state (option_map_or (λ t. turned session (with_part reply change t) (bare_state st)) o (bare_state st))
ran_bare session reply change st None = refl
ran_bare session reply change st (Some t) = refl

commit_bare : (session : ℕ) (dropped added : List Name) (st : State) (o : Option Transaction)
    → bare_state (option_map_or (λ t. ended session (with_version (version_after (last st + 1) t.pending t.worn (newest st)) dropped added st)) o st)
    ≡ bare_state (option_map_or (λ t. ended session (with_version (version_after (last st + 1) t.pending t.worn (newest st)) [] [] (bare_state st))) o (bare_state st))
commit_bare session dropped added st None = refl
commit_bare session dropped added st (Some t) = refl

part_bare : (session : ℕ) (t : Transaction) (st : State) (stays : Bool)
    → bare_state (if stays then turned session (record t { parts = t.parts + 1 }) st else ended session st)
    ≡ bare_state (if stays then turned session (record t { parts = t.parts + 1 }) (bare_state st) else ended session (bare_state st))
part_bare session t st true = refl
part_bare session t st false = refl

stop_bare : (session : ℕ) (ends : Bool) (st : State) (o : Option Transaction)
    → bare_state (option_map_or (λ t. if t.explicit && not ends then turned session (record t { parts = t.parts + 1 }) st else ended session st) o st)
    ≡ bare_state (option_map_or (λ t. if t.explicit && not ends then turned session (record t { parts = t.parts + 1 }) (bare_state st) else ended session (bare_state st)) o (bare_state st))
stop_bare session ends st None = refl
stop_bare session ends st (Some t) = part_bare session t st (t.explicit && not ends)

-- the names in a state and in a fact matter for the names of the next state alone
pub next_bare : (session : ℕ) (ends : Bool) (f : Fact) (st : State) → is_failed f ≡ false → bare_state (after_fact session ends f st) ≡ next session (bare f) (bare_state st)
next_bare session ends (Created table schema seq) st sure = refl
next_bare session ends (Began explicit txn snapshot) st sure = refl
next_bare session ends (Ran reply change) st sure = ran_bare session reply change st (transaction st session)
next_bare session ends (Committed seq added dropped) st sure = commit_bare session dropped added st (transaction st session)
next_bare session ends (Conflict seq) st sure = refl
next_bare session ends Ended st sure = refl
next_bare session ends RolledBack st sure = refl
next_bare session ends (Refused cause) st sure = stop_bare session false st (transaction st session)
next_bare session ends (Failed cause) st sure = absurd cc
next_bare session ends (Compacted table cells marks seq added dropped) st sure = refl
next_bare session ends (Checkpointed table at name) st sure = refl
next_bare session ends (Collected names floor) st sure = refl

-- the entry that ends a transaction which has changed what it wanted
abbrev pub ended_by : Option ℕ → ℕ → Fact
ended_by None seq = Committed seq [] []
ended_by (Some n) seq = Conflict n

abbrev pub end_of : State → Transaction → Fact
end_of st t = if is_unchanged t.pending then Ended else ended_by (first_conflict st t.snapshot (units_of t.pending)) (last st + 1)

abbrev pub end_at : State → Option Transaction → Fact
end_at st o = option_map_or (end_of st) o Ended

-- the entry that ends a compaction
abbrev pub compacted_by : Option ℕ → Fact → Fact
compacted_by None done = done
compacted_by (Some n) done = Conflict n

abbrev pub compaction_of : State → List ℕ → Transaction → List ℕ → Fact
compaction_of st table t [] = Ended
compaction_of st table t (c ∷ cs) =
    let marks = marks_in table (c ∷ cs) (version_at st t.snapshot).tables in
    let done = Compacted table (c ∷ cs) marks (last st + 1) [] [] in
    compacted_by (first_conflict st t.snapshot (units_of_compaction table)) done

abbrev pub compaction_at : State → List ℕ → Option Transaction → Fact
compaction_at st table o = option_map_or (λ t. compaction_of st table t (due table (version_at st t.snapshot))) o Ended

abbrev pub ran_of : Result Effect Refusal → Fact
ran_of (Ok effect) = Ran effect.0 effect.1
ran_of (Err cause) = Refused cause

-- the entry that answers a statement which isn't refused
abbrev pub unrefused : State → ℕ → Statement → Fact
unrefused st session (Create table columns distribution) = Created table (schema_of columns distribution) (last st + 1)
unrefused st session Begin = Began true (st.last_number + 1) (last st)
unrefused st session Commit = end_at st (transaction st session)
unrefused st session RollBack = RolledBack
unrefused st session (Insert table rows) = ran_of (result_of st session (Insert table rows))
unrefused st session (Select q) = ran_of (result_of st session (Select q))
unrefused st session (Update table sets filter) = ran_of (result_of st session (Update table sets filter))
unrefused st session (Delete table filter) = ran_of (result_of st session (Delete table filter))
unrefused st session (Compact table) = compaction_at st table (transaction st session)
unrefused st session (Checkpoint table) = Checkpointed table (option_map_or (λ t. t.snapshot) (transaction st session) 0) no_name
unrefused st session (Collect retain) = Collected [] (floor_after st retain)

abbrev pub if_unrefused : Option Refusal → Fact → Fact
if_unrefused None f = f
if_unrefused (Some cause) f = Refused cause

-- the entry that answers a statement which opens no transaction for itself, or has opened it
abbrev pub answer : State → ℕ → Statement → Fact
answer st session x = if_unrefused (refusal st session x) (unrefused st session x)

pub answer_bare : (st : State) (session : ℕ) (x : Statement) → answer st session x ≡ answer (bare_state st) session x
answer_bare st session x = refl

pub end_bare : (st : State) (session : ℕ) → end_at st (transaction st session) ≡ end_at (bare_state st) (transaction (bare_state st) session)
end_bare st session = refl

-- which end a transaction has follows from its state

pub end_ended : (st : State) (o : Option Transaction) → IsSomeAnd o (λ t. is_unchanged t.pending ≡ true) → Ended ≡ end_at st o
end_ended st None may = absurd may
end_ended st (Some t) may = rw may refl

pub end_committed : (st : State) (seq : ℕ) (added dropped : List Name) (o : Option Transaction)
    → IsSomeAnd o (MayCommit true st seq added dropped) → Committed seq [] [] ≡ end_at st o
end_committed st seq added dropped None may = absurd may
end_committed st seq added dropped (Some t) may =
    rw (may.changed, may.free) (ap (λ (n : ℕ). Committed n [] []) may.next)

changed_conflict : (st : State) (seq : ℕ) (t : Transaction) (unchanged : Bool) → MatchBool unchanged ((t.snapshot < seq) × (seq ≤ last st)) (first_conflict st t.snapshot (units_of t.pending) ≡ Some seq) → unchanged ≡ false
    → first_conflict st t.snapshot (units_of t.pending) ≡ Some seq
changed_conflict st seq t true may changed = absurd cc
changed_conflict st seq t false may changed = may

pub end_conflict : (st : State) (seq : ℕ) (o : Option Transaction) → IsSomeAnd o (MayConflict st seq) → IsSomeAnd o (λ t. is_unchanged t.pending ≡ false) → Conflict seq ≡ end_at st o
end_conflict st seq None may changed = absurd may
end_conflict st seq (Some t) may changed = let first = changed_conflict st seq t (is_unchanged t.pending) may changed in rw (changed, first) refl

-- which end a compaction has follows from its state

abbrev due_at : State → List ℕ → Option Transaction → List ℕ
due_at st table o = option_map_or (λ t. due table (version_at st t.snapshot)) o []

abbrev conflict_at : State → List ℕ → Option Transaction → Option ℕ
conflict_at st table o =
    option_map_or (λ t. first_conflict st t.snapshot (units_of_compaction table)) o None

compaction_ended : (st : State) (table : List ℕ) (o : Option Transaction) → due_at st table o ≡ []
    → Ended ≡ compaction_at st table o
compaction_ended st table None none = refl
compaction_ended st table (Some t) none = rw none refl

some_due : (st : State) (table : List ℕ) (t : Transaction) (seq : ℕ) (cells : List ℕ) → cells ≢ []
    → first_conflict st t.snapshot (units_of_compaction table) ≡ Some seq
    → Conflict seq ≡ compaction_of st table t cells
some_due st table t seq [] some first = absurd (some refl)
some_due st table t seq (c ∷ cs) some first = rw first refl

compaction_conflicts : (st : State) (table : List ℕ) (seq : ℕ) (o : Option Transaction)
    → due_at st table o ≢ [] → conflict_at st table o ≡ Some seq
    → Conflict seq ≡ compaction_at st table o
compaction_conflicts st table seq None some first = absurd cc
compaction_conflicts st table seq (Some t) some first =
    some_due st table t seq (due table (version_at st t.snapshot)) some first

free_compaction : (st : State) (table : List ℕ) (t : Transaction) (cells : List ℕ) → cells ≢ []
    → first_conflict st t.snapshot (units_of_compaction table) ≡ None
    → let marks = marks_in table cells (version_at st t.snapshot).tables in
    Compacted table cells marks (last st + 1) [] [] ≡ compaction_of st table t cells
free_compaction st table t [] some free = absurd (some refl)
free_compaction st table t (c ∷ cs) some free = rw free refl

compaction_done : (st : State) (table cells : List ℕ) (marks : List Mark) (seq : ℕ)
    (added dropped : List Name) (o : Option Transaction) → conflict_at st table o ≡ None
    → IsSomeAnd o (MayCompact true st table cells marks seq added dropped)
    → Compacted table cells marks seq [] [] ≡ compaction_at st table o
compaction_done st table cells marks seq added dropped None free may = absurd may
compaction_done st table cells marks seq added dropped (Some t) free may =
    (λ i. Compacted table cells (may.all_marks i) (may.next i) [] [])
    ∙ free_compaction st table t cells may.some free
    ∙ ap (compaction_of st table t) may.all_due

-- which entry answers a statement follows from its state

open_unrefused : (o : Option Transaction) (P : Transaction → Type 0) (f : Fact) → IsSomeAnd o P → f ≡ if_unrefused (if is_some o then None else Some NoTransaction) f
open_unrefused None P f may = absurd may
open_unrefused (Some t) P f may = refl

inside_unrefused : (o : Option Transaction) (f : Fact) → option_map_or (λ t. t.explicit) o false ≡ true → f ≡ if_unrefused (if is_some o then None else Some NoTransaction) f
inside_unrefused None f may = absurd cc
inside_unrefused (Some t) f may = refl

pub none_outside : (o : Option Transaction) → IsNone o → option_map_or (λ t. t.explicit) o false ≡ false
none_outside None none = refl
none_outside (Some t) none = absurd cc

module _ (st : State) (session : ℕ) where
  free_answer : (x : Statement) (f : Fact) → refusal st session x ≡ None → f ≡ unrefused st session x → f ≡ answer st session x
  free_answer x f free is = is ∙ ap (λ (o : Option Refusal). if_unrefused o (unrefused st session x)) (sym free)

  created_answer : (x : Statement) (table : List ℕ) (schema : TableColumns) (seq : ℕ) → IsCreateOf x table schema → refusal st session x ≡ None → seq ≡ last st + 1 → Created table schema seq ≡ answer st session x
  created_answer (Create name columns distribution) table schema seq made free next =
      free_answer (Create name columns distribution) (Created table schema seq) free (λ i. Created (sym made.0 i) (made.1 i) (next i))
  created_answer x table schema seq made free next = absurd made

  begin_answer : (txn snapshot : ℕ) → IsNone (transaction st session) → txn ≡ st.last_number + 1 → snapshot ≡ last st → Began true txn snapshot ≡ answer st session Begin
  begin_answer txn snapshot none first second = rw (none_outside (transaction st session) none) (λ i. Began true (first i) (second i))

  began_answer : (x : Statement) (explicit : Bool) (txn snapshot : ℕ) → MatchBool explicit (x ≡ Begin) (runs_alone x ≡ true) → (IsNone (transaction st session) → runs_alone x ≡ true → ⊥)
      → IsNone (transaction st session) → txn ≡ st.last_number + 1 → snapshot ≡ last st → Began explicit txn snapshot ≡ answer st session x
  began_answer x true txn snapshot right opened none first second = begin_answer txn snapshot none first second ∙ sym (ap (answer st session) right)
  began_answer x false txn snapshot right opened none first second = absurd (opened none right)

  ran_answer : (x : Statement) (reply : Reply) (change : Change) → reads_rows x ≡ true → result_of st session x ≡ Ok (reply, change) → Ran reply change ≡ answer st session x
  ran_answer (Insert table rows) reply change reads is = rw is refl
  ran_answer (Select q) reply change reads is = rw is refl
  ran_answer (Update table sets filter) reply change reads is = rw is refl
  ran_answer (Delete table filter) reply change reads is = rw is refl
  ran_answer x reply change reads is = absurd cc

  committed_answer : (x : Statement) (seq : ℕ) (added dropped : List Name) → commits false x ≡ true
      → IsSomeAnd (transaction st session) (MayCommit true st seq added dropped)
      → Committed seq [] [] ≡ answer st session x
  committed_answer Commit seq added dropped right may = end_committed st seq added dropped (transaction st session) may ∙ open_unrefused (transaction st session) _ _ may
  committed_answer x seq added dropped right may = absurd cc

  conflict_answer : (x : Statement) (seq : ℕ) → IsConflictOf true st session false x seq
      → IsSomeAnd (transaction st session) (MayConflict st seq) → Conflict seq ≡ answer st session x
  conflict_answer Commit seq right may = end_conflict st seq (transaction st session) may right ∙ open_unrefused (transaction st session) _ _ may
  conflict_answer (Compact table) seq right may = free_answer (Compact table) (Conflict seq) right.0 (compaction_conflicts st table seq (transaction st session) right.1 right.2)
  conflict_answer (Insert table rows) seq right may = absurd (true≢false (sym right.0))
  conflict_answer (Update table sets filter) seq right may = absurd (true≢false (sym right.0))
  conflict_answer (Delete table filter) seq right may = absurd (true≢false (sym right.0))
  conflict_answer x seq right may = absurd right

  ended_answer : (x : Statement) → IsEndOf true st session false x
      → IsSomeAnd (transaction st session) (λ t. is_unchanged t.pending ≡ true)
      → Ended ≡ answer st session x
  ended_answer Commit right may = end_ended st (transaction st session) may ∙ open_unrefused (transaction st session) _ _ may
  ended_answer (Compact table) right may = free_answer (Compact table) Ended right.0 (compaction_ended st table (transaction st session) right.1)
  ended_answer (Insert table rows) right may = absurd (true≢false (sym right))
  ended_answer (Select q) right may = absurd (true≢false (sym right))
  ended_answer (Update table sets filter) right may = absurd (true≢false (sym right))
  ended_answer (Delete table filter) right may = absurd (true≢false (sym right))
  ended_answer x right may = absurd right

  compacted_answer : (x : Statement) (table cells : List ℕ) (marks : List Mark) (seq : ℕ)
      (added dropped : List Name) → IsCompactionOf st session x table
      → IsSomeAnd (transaction st session) (MayCompact true st table cells marks seq added dropped)
      → Compacted table cells marks seq [] [] ≡ answer st session x
  compacted_answer x table cells marks seq added dropped right may =
      free_answer x _ right.1
      (compaction_done st table cells marks seq added dropped (transaction st session) right.2 may
      ∙ sym (ap (unrefused st session) right.0))

  checkpoint_at : (at : ℕ) (o : Option Transaction) (table : List ℕ) (name : Name) → IsSomeAnd o (MayCheckpoint st table at name) → at ≡ option_map_or (λ t. t.snapshot) o 0
  checkpoint_at at None table name may = absurd may
  checkpoint_at at (Some t) table name may = may.1

  checkpointed_answer : (x : Statement) (table : List ℕ) (at : ℕ) (name : Name) → (x ≡ Checkpoint table) × (refusal st session x ≡ None)
      → IsSomeAnd (transaction st session) (MayCheckpoint st table at name) → Checkpointed table at no_name ≡ answer st session x
  checkpointed_answer x table at name right may =
      free_answer x _ right.1 (ap (λ (n : ℕ). Checkpointed table n no_name) (checkpoint_at at (transaction st session) table name may) ∙ sym (ap (unrefused st session) right.0))

  collected_answer : (x : Statement) (floor : ℕ) → IsCollectionOf st session x floor → Collected [] floor ≡ answer st session x
  collected_answer (Collect retain) floor right = free_answer (Collect retain) _ right.1 (ap (λ (n : ℕ). Collected [] n) right.0)
  collected_answer x floor right = absurd right

  -- where it is no entry that opens a transaction for the statement alone
  pub one_answer : (x : Statement) (f : Fact)
      → (IsNone (transaction st session) → runs_alone x ≡ true → ⊥)
      → IsAllowedFact true st session f → IsRight true st session false x f → is_failed f ≡ false
      → bare f ≡ answer st session x
  one_answer x (Created table schema seq) opened may right sure = created_answer x table schema seq right.0 right.1 may.2
  one_answer x (Began explicit txn snapshot) opened may right sure = began_answer x explicit txn snapshot right opened may.0 may.1 may.2
  one_answer x (Ran reply change) opened may right sure = ran_answer x reply change right.0 right.1
  one_answer x (Committed seq added dropped) opened may right sure = committed_answer x seq added dropped right may
  one_answer x (Conflict seq) opened may right sure = conflict_answer x seq right may
  one_answer x Ended opened may right sure = ended_answer x right may
  one_answer x RolledBack opened may right sure = inside_unrefused (transaction st session) RolledBack may ∙ sym (ap (answer st session) right)
  one_answer x (Refused cause) opened may right sure = rw right refl
  one_answer x (Failed cause) opened may right sure = absurd cc
  one_answer x (Compacted table cells marks seq added dropped) opened may right sure = compacted_answer x table cells marks seq added dropped right may
  one_answer x (Checkpointed table at name) opened may right sure = checkpointed_answer x table at name right may
  one_answer x (Collected names floor) opened may right sure = collected_answer x floor right
