-- In a state, one run of entries answers a statement without a failure, but for the names of blobs in it.
use Rattle.std.proofs.Common.{◌≡◌, ℕ, ◌+◌, Bool, true, false, ◌&&◌, ◌||◌, List, [], ◌∷◌, Option, map, refl, sym, ap, ◌∙◌, subst, subst₂, is_some, inl, inr, eq-eqb, if◌then◌else◌}
use Rattle.std.specs.Prelude.{IsNone}
use Rattle.std.specs.Cmp.{first_so, second_so}
use Rattle.std.specs.List.{AllByRecursion, list_all}
use Rattle.lake_model.specs.declared.entries.Fact.{Fact}
use Rattle.lake_model.specs.declared.entries.Fact.TheVariants.{Began, Ran, Committed, Conflict, Ended, Failed}
use Rattle.sql_model.specs.declared.replies.Reply.{Reply}
use Rattle.sql_model.specs.declared.scripts.Numbered.{Numbered}
use Rattle.sql_model.specs.declared.statements.Statement.{Statement}
use Rattle.sql_model.specs.declared.statements.Statement.TheVariants.{Create, Begin, Commit, RollBack, Insert, Select, Update, Delete, Compact, Checkpoint, Collect}
use Rattle.lake_model.specs.State.{State, Noted, last, transaction, after_fact, after, state_from, stated}
use Rattle.lake_model.specs.Allowed.{IsAllowed, IsAllowedFact, IsLegalFrom}
use Rattle.lake_model.specs.Answers.{IsRight, IsConflictOf, HasChange}
use Rattle.sql_model.specs.StatementKinds.{reads_rows, runs_alone}
use Rattle.lake_model.specs.Following.{EntryKind, began, ran, committed, conflict, ended, failed, kind_of, Situation, inside, outside, situation, entry_sequences, is_ran, is_failed, IsAnswer, AnswerFrom, IsRun}
use Rattle.sql_model.specs.Listing.{IsOneOf}
use Rattle.lake_model.specs.Text.{reply_after, reply_from}
use Rattle.lake_model.proofs.RightAnswers.{bare, bare_state, next, next_bare, end_at, end_bare, end_ended, end_committed, end_conflict, answer, answer_bare, one_answer, none_outside, reply_bare}

-- which kinds of entries stand in a run

abbrev is_began_kind : EntryKind → Bool
is_began_kind began = true
is_began_kind k = false

abbrev is_ran_kind : EntryKind → Bool
is_ran_kind ran = true
is_ran_kind k = false

-- it ends a statement after it ran
abbrev is_end_kind : EntryKind → Bool
is_end_kind ended = true
is_end_kind committed = true
is_end_kind conflict = true
is_end_kind failed = true
is_end_kind k = false

-- one end stands behind what ran, and nothing behind another entry
abbrev are_behind : Bool → List EntryKind → Bool
are_behind false [] = true
are_behind false (k ∷ ks) = false
are_behind true [] = false
are_behind true (k ∷ []) = is_end_kind k
are_behind true (k ∷ l ∷ ks) = false

abbrev are_opened : List EntryKind → Bool
are_opened [] = false
are_opened (k ∷ []) = false
are_opened (k ∷ l ∷ ks) = is_began_kind k && are_behind (is_ran_kind l) ks

abbrev is_one_kind : List EntryKind → Bool
is_one_kind [] = false
is_one_kind (k ∷ []) = true
is_one_kind (k ∷ l ∷ ks) = false

-- a statement either opens a transaction for itself, or has one entry
abbrev are_kinds : Bool → List EntryKind → Bool
are_kinds true ks = are_opened ks
are_kinds false ks = is_one_kind ks

-- the statement opens a transaction for itself
abbrev opens : Situation → Statement → Bool
opens inside x = false
opens outside x = runs_alone x

rows_shaped : (at : Situation) (x : Statement) → list_all (are_kinds (opens at x)) (entry_sequences at x) ≡ true
rows_shaped inside (Create table columns distribution) = refl
rows_shaped outside (Create table columns distribution) = refl
rows_shaped inside Begin = refl
rows_shaped outside Begin = refl
rows_shaped inside Commit = refl
rows_shaped outside Commit = refl
rows_shaped inside RollBack = refl
rows_shaped outside RollBack = refl
rows_shaped inside (Insert table rows) = refl
rows_shaped outside (Insert table rows) = refl
rows_shaped inside (Select q) = refl
rows_shaped outside (Select q) = refl
rows_shaped inside (Update table sets filter) = refl
rows_shaped outside (Update table sets filter) = refl
rows_shaped inside (Delete table filter) = refl
rows_shaped outside (Delete table filter) = refl
rows_shaped inside (Compact table) = refl
rows_shaped outside (Compact table) = refl
rows_shaped inside (Checkpoint table) = refl
rows_shaped outside (Checkpoint table) = refl
rows_shaped inside (Collect retain) = refl
rows_shaped outside (Collect retain) = refl

one_of_all : {X : Type 0} (p : X → Bool) (xs : List X) (x : X) → list_all p xs ≡ true → IsOneOf xs x → p x ≡ true
one_of_all p [] x all h = absurd h
one_of_all p (y ∷ ys) x all (inl same) = ap p (sym same) ∙ first_so (p y) (list_all p ys) all
one_of_all p (y ∷ ys) x all (inr h) = one_of_all p ys x (second_so (p y) (list_all p ys) all) h

-- the right run of a statement, without names

abbrev then_ends : ℕ → State → Fact → List Fact
then_ends session st (Ran reply change) =
    let st' = next session (Ran reply change) st in
    Ran reply change ∷ end_at st' (transaction st' session) ∷ []
then_ends session st f = f ∷ []

abbrev alone : State → Fact
alone st = Began false (st.last_number + 1) (last st)

abbrev right_when : Bool → State → ℕ → Statement → List Fact
right_when true st session x = alone st ∷ then_ends session (next session (alone st) st) (answer (next session (alone st) st) session x)
right_when false st session x = answer st session x ∷ []

abbrev pub right_run : State → Numbered → List Fact
right_run st n = right_when (opens (situation st n.session) n.statement) st n.session n.statement

then_nothing : (session : ℕ) (st : State) (f : Fact) → is_ran_kind (kind_of f) ≡ false → then_ends session st (bare f) ≡ bare f ∷ []
then_nothing session st (Ran reply change) other = absurd cc
then_nothing session st f other = refl

then_end : (session : ℕ) (st : State) (f : Fact) → is_ran_kind (kind_of f) ≡ true
    → then_ends session st (bare f) ≡ bare f ∷ end_at (next session (bare f) st) (transaction (next session (bare f) st) session) ∷ []
then_end session st (Ran reply change) is = refl
then_end session st f is = absurd cc

-- a fact that opens a transaction for its statement alone
alone_right : (st : State) (session : ℕ) (x : Statement) (f : Fact)
    → is_began_kind (kind_of f) ≡ true → IsAllowedFact true st session f
    → IsRight true st session false x f → runs_alone x ≡ true → f ≡ alone st
alone_right st session x (Began true txn snapshot) kind may right runs = let not_begin : false ≡ true = sym (ap runs_alone right) ∙ runs in absurd cc
alone_right st session x (Began false txn snapshot) kind may right runs = λ i. Began false (may.1 i) (may.2 i)
alone_right st session x f kind may right runs = absurd cc

ran_reads : (st : State) (session : ℕ) (before : Bool) (x : Statement) (f : Fact)
    → is_ran_kind (kind_of f) ≡ true → IsRight true st session before x f → (reads_rows x ≡ true)
    × (is_ran f ≡ true)
ran_reads st session before x (Ran reply change) kind right = (right.0, refl)
ran_reads st session before x f kind right = absurd cc

conflict_changes : (st : State) (session : ℕ) (x : Statement) (seq : ℕ) → reads_rows x ≡ true
    → IsConflictOf true st session true x seq → HasChange st session
conflict_changes st session (Insert table rows) seq reads right = right.1
conflict_changes st session (Select q) seq reads right = absurd right
conflict_changes st session (Update table sets filter) seq reads right = right.1
conflict_changes st session (Delete table filter) seq reads right = right.1
conflict_changes st session x seq reads right = absurd cc

-- the end of a statement that ran
end_right : (st : State) (session : ℕ) (x : Statement) (f : Fact) → is_end_kind (kind_of f) ≡ true
    → reads_rows x ≡ true → IsAllowedFact true st session f → IsRight true st session true x f
    → is_failed f ≡ false
    → bare f ≡ end_at st (transaction st session)
end_right st session x Ended kind reads may right sure = end_ended st (transaction st session) may
end_right st session x (Committed seq added dropped) kind reads may right sure = end_committed st seq added dropped (transaction st session) may
end_right st session x (Conflict seq) kind reads may right sure = end_conflict st seq (transaction st session) may (conflict_changes st session x seq reads right)
end_right st session x (Failed cause) kind reads may right sure = absurd cc
end_right st session x f kind reads may right sure = absurd cc

-- the entry of a statement that opens no transaction for itself, or has opened it
one_right : (st : State) (n : Numbered) (before : Bool) (e : Noted) → before ≡ false
    → (IsNone (transaction st n.session) → runs_alone n.statement ≡ true → ⊥) → IsAllowed true st e
    → IsAnswer true n before st e
    → is_failed e.entry.fact ≡ false → bare e.entry.fact ≡ answer (bare_state st) n.session n.statement
one_right st n before e first opened may answers sure =
    one_answer st n.session n.statement e.entry.fact opened
    (subst (λ (s : ℕ). IsAllowedFact true st s e.entry.fact) answers.session may)
    (subst₂ (λ (s : ℕ) (b : Bool). IsRight true st s b n.statement e.entry.fact) answers.session
    first answers.right)
    sure
    ∙ answer_bare st n.session n.statement

-- the state without names behind an entry of the statement
next_right : (st : State) (n : Numbered) (e : Noted) → e.entry.session ≡ n.session → is_failed e.entry.fact ≡ false → bare_state (after st e) ≡ next n.session (bare e.entry.fact) (bare_state st)
next_right st n e own sure = next_bare e.entry.session e.ends e.entry.fact st sure ∙ ap (λ (s : ℕ). next s (bare e.entry.fact) (bare_state st)) own

alone_opens : (session : ℕ) (ends : Bool) (st : State) → is_some (transaction (after_fact session ends (alone st) st) session) ≡ true
alone_opens session ends st = rw (eq-eqb session session refl) refl

module _ (st : State) (n : Numbered) (e : Noted)
    (kind : is_began_kind (kind_of e.entry.fact) ≡ true) (runs : runs_alone n.statement ≡ true)
    (may : IsAllowed true st e) (answers : IsAnswer true n false st e)
    (sure : is_failed e.entry.fact ≡ false) where
  opening_fact : e.entry.fact ≡ alone st
  opening_fact =
      alone_right st n.session n.statement e.entry.fact kind
      (subst (λ (s : ℕ). IsAllowedFact true st s e.entry.fact) answers.session may)
      (subst (λ (s : ℕ). IsRight true st s false n.statement e.entry.fact) answers.session
      answers.right) runs

  opening_bare : bare e.entry.fact ≡ alone (bare_state st)
  opening_bare = ap bare opening_fact

  behind_opening : bare_state (after st e) ≡ next n.session (alone (bare_state st)) (bare_state st)
  behind_opening = next_right st n e answers.session sure ∙ ap (λ (f : Fact). next n.session f (bare_state st)) opening_bare

  opened : IsNone (transaction (after st e) n.session) → ⊥
  opened none =
      let some : is_some (transaction (after st e) n.session) ≡ true =
      ap (λ (s : ℕ). is_some (transaction (after st e) s)) (sym answers.session)
      ∙ ap (λ (f : Fact). is_some (transaction (after_fact e.entry.session e.ends f st) e.entry.session)) opening_fact ∙ alone_opens e.entry.session e.ends st in
      absurd cc

  not_ran : is_ran e.entry.fact ≡ false
  not_ran = ap is_ran opening_fact

  second_right : (f : Noted) → IsAllowed true (after st e) f
      → IsAnswer true n (is_ran e.entry.fact) (after st e) f → is_failed f.entry.fact ≡ false
      → bare f.entry.fact ≡ answer (next n.session (alone (bare_state st)) (bare_state st)) n.session n.statement
  second_right f f_may f_answers f_sure =
      one_right (after st e) n (is_ran e.entry.fact) f not_ran (λ none alone. opened none) f_may f_answers f_sure ∙ ap (λ (c : State). answer c n.session n.statement) behind_opening

  two_right : (f : Noted) → is_ran_kind (kind_of f.entry.fact) ≡ false
      → IsAllowed true (after st e) f → IsAnswer true n (is_ran e.entry.fact) (after st e) f
      → is_failed f.entry.fact ≡ false
      → bare e.entry.fact ∷ bare f.entry.fact ∷ [] ≡ right_when true (bare_state st) n.session n.statement
  two_right f f_kind f_may f_answers f_sure =
      let c = next n.session (alone (bare_state st)) (bare_state st) in
      ap (λ (b : Fact). b ∷ bare f.entry.fact ∷ []) opening_bare
      ∙ ap (λ (fs : List Fact). alone (bare_state st) ∷ fs) (sym (then_nothing n.session c f.entry.fact f_kind) ∙ ap (then_ends n.session c) (second_right f f_may f_answers f_sure))

  module _ (r : Noted) (r_kind : is_ran_kind (kind_of r.entry.fact) ≡ true)
      (r_may : IsAllowed true (after st e) r)
      (r_answers : IsAnswer true n (is_ran e.entry.fact) (after st e) r)
      (r_sure : is_failed r.entry.fact ≡ false) where
    behind_ran : bare_state (after (after st e) r) ≡ next n.session (bare r.entry.fact) (next n.session (alone (bare_state st)) (bare_state st))
    behind_ran = next_right (after st e) n r r_answers.session r_sure ∙ ap (λ (c : State). next n.session (bare r.entry.fact) c) behind_opening

    has_run : (reads_rows n.statement ≡ true) × (is_ran r.entry.fact ≡ true)
    has_run = ran_reads (after st e) r.entry.session (is_ran e.entry.fact) n.statement r.entry.fact r_kind r_answers.right

    has_run_now : (is_ran e.entry.fact || is_ran r.entry.fact) ≡ true
    has_run_now = λ i. (not_ran i) || (has_run.1 i)

    third_right : (f : Noted) → is_end_kind (kind_of f.entry.fact) ≡ true
        → IsAllowed true (after (after st e) r) f
        → IsAnswer true n (is_ran e.entry.fact || is_ran r.entry.fact) (after (after st e) r) f
        → is_failed f.entry.fact ≡ false
        → let c = next n.session (bare r.entry.fact) (next n.session (alone (bare_state st)) (bare_state st)) in bare f.entry.fact ≡ end_at c (transaction c n.session)
    third_right f f_kind f_may f_answers f_sure =
        let st2 = after (after st e) r in
        end_right st2 n.session n.statement f.entry.fact f_kind has_run.0
        (subst (λ (s : ℕ). IsAllowedFact true st2 s f.entry.fact) f_answers.session f_may)
        (subst₂ (λ (s : ℕ) (b : Bool). IsRight true st2 s b n.statement f.entry.fact)
        f_answers.session has_run_now f_answers.right) f_sure
        ∙ end_bare st2 n.session ∙ ap (λ (c : State). end_at c (transaction c n.session)) behind_ran

    three_right : (f : Noted) → is_end_kind (kind_of f.entry.fact) ≡ true
        → IsAllowed true (after (after st e) r) f
        → IsAnswer true n (is_ran e.entry.fact || is_ran r.entry.fact) (after (after st e) r) f
        → is_failed f.entry.fact ≡ false
        → bare e.entry.fact ∷ bare r.entry.fact ∷ bare f.entry.fact ∷ [] ≡ right_when true (bare_state st) n.session n.statement
    three_right f f_kind f_may f_answers f_sure =
        let c = next n.session (alone (bare_state st)) (bare_state st) in
        ap (λ (b : Fact). b ∷ bare r.entry.fact ∷ bare f.entry.fact ∷ []) opening_bare
        ∙ ap (λ (fs : List Fact). alone (bare_state st) ∷ fs)
        (ap (λ (b : Fact). bare r.entry.fact ∷ b ∷ []) (third_right f f_kind f_may f_answers f_sure)
        ∙ sym (then_end n.session c r.entry.fact r_kind) ∙ ap (then_ends n.session c) (second_right r r_may r_answers r_sure))

none_behind : (b : Bool) → are_behind b [] ≡ true → b ≡ false
none_behind true e = absurd cc
none_behind false e = refl

one_behind : (b : Bool) (k : EntryKind) → are_behind b (k ∷ []) ≡ true → (b ≡ true) × (is_end_kind k ≡ true)
one_behind true k e = (refl, e)
one_behind false k e = absurd cc

more_behind : (b : Bool) (k l : EntryKind) (ks : List EntryKind) → are_behind b (k ∷ l ∷ ks) ≡ true → ⊥
more_behind true k l ks e = absurd cc
more_behind false k l ks e = absurd cc

abbrev pub bare_facts : List Noted → List Fact
bare_facts es = map (λ e. bare e.entry.fact) es

abbrev pub IsSure : Noted → Type 0
IsSure e = is_failed e.entry.fact ≡ false

abbrev kinds : List Noted → List EntryKind
kinds es = map (λ e. kind_of e.entry.fact) es

opened_run : (st : State) (n : Numbered) (es : List Noted) → runs_alone n.statement ≡ true
    → are_opened (kinds es) ≡ true → IsLegalFrom true st es → AnswerFrom true n false (stated st es)
    → AllByRecursion IsSure es
    → bare_facts es ≡ right_when true (bare_state st) n.session n.statement
opened_run st n [] runs shaped may answers sure = absurd cc
opened_run st n (e ∷ []) runs shaped may answers sure = absurd cc
opened_run st n (e ∷ f ∷ []) runs shaped may answers sure =
    two_right st n e (first_so _ _ shaped) runs may.0 answers.0 sure.0 f (none_behind _ (second_so _ _ shaped)) may.1.0 answers.1.0 sure.1.0
opened_run st n (e ∷ r ∷ f ∷ []) runs shaped may answers sure =
    let behind = one_behind _ _ (second_so _ _ shaped) in
    three_right st n e (first_so _ _ shaped) runs may.0 answers.0 sure.0 r behind.0 may.1.0 answers.1.0 sure.1.0 f behind.1 may.1.1.0 answers.1.1.0 sure.1.1.0
opened_run st n (e ∷ r ∷ f ∷ g ∷ es) runs shaped may answers sure = absurd (more_behind _ _ _ _ (second_so _ _ shaped))

no_kinds : (o : Bool) → are_kinds o [] ≡ true → ⊥
no_kinds true e = absurd cc
no_kinds false e = absurd cc

opens_alone : (at : Situation) (x : Statement) → opens at x ≡ true → runs_alone x ≡ true
opens_alone inside x e = absurd cc
opens_alone outside x e = e

-- a statement outside a transaction that opens none for itself never does
opens_none : (st : State) (session : ℕ) (x : Statement) → opens (situation st session) x ≡ false → IsNone (transaction st session) → runs_alone x ≡ true → ⊥
opens_none st session x closed none runs =
    let same : opens (situation st session) x ≡ runs_alone x = ap (λ (b : Bool). opens (if b then inside else outside) x) (none_outside (transaction st session) none) in
    absurd cc

run_when : (st : State) (n : Numbered) (es : List Noted) (o : Bool)
    → opens (situation st n.session) n.statement ≡ o → are_kinds o (kinds es) ≡ true
    → IsLegalFrom true st es → AnswerFrom true n false (stated st es) → AllByRecursion IsSure es
    → bare_facts es ≡ right_when o (bare_state st) n.session n.statement
run_when st n es true is shaped may answers sure = opened_run st n es (opens_alone (situation st n.session) n.statement is) shaped may answers sure
run_when st n [] false is shaped may answers sure = absurd cc
run_when st n (e ∷ []) false is shaped may answers sure = ap (λ (f : Fact). f ∷ []) (one_right st n false e refl (opens_none st n.session n.statement is) may.0 answers.0 sure.0)
run_when st n (e ∷ d ∷ es) false is shaped may answers sure = absurd cc

stated_kinds : (st : State) (es : List Noted) → map (λ p. kind_of p.1.entry.fact) (stated st es) ≡ kinds es
stated_kinds st [] = refl
stated_kinds st (e ∷ es) = ap (λ (ks : List EntryKind). kind_of e.entry.fact ∷ ks) (stated_kinds (after st e) es)

-- the entries of a statement are the right ones
pub run_right : (st : State) (n : Numbered) (es : List Noted) → IsLegalFrom true st es
    → IsRun true n (stated st es) → AllByRecursion IsSure es
    → bare_facts es ≡ right_run (bare_state st) n
run_right st n [] may run sure = absurd (no_kinds _ (one_of_all _ (entry_sequences outside n.statement) [] (rows_shaped outside n.statement) run.kinds))
run_right st n (e ∷ es) may run sure =
    let at = situation st n.session in
    let shaped = one_of_all _ (entry_sequences at n.statement) _ (rows_shaped at n.statement) run.kinds in
    run_when st n (e ∷ es) (opens at n.statement) refl (ap (are_kinds (opens at n.statement)) (sym (stated_kinds st (e ∷ es))) ∙ shaped) may run.answers sure

-- so is the state behind them, and what the statement answers

abbrev pub all_next : ℕ → List Fact → State → State
all_next session [] st = st
all_next session (f ∷ fs) st = all_next session fs (next session f st)

pub state_right : (st : State) (n : Numbered) (before : Bool) (es : List Noted)
    → AnswerFrom true n before (stated st es) → AllByRecursion IsSure es
    → bare_state (state_from st es) ≡ all_next n.session (bare_facts es) (bare_state st)
state_right st n before [] answers sure = refl
state_right st n before (e ∷ es) answers sure =
    state_right (after st e) n (before || is_ran e.entry.fact) es answers.1 sure.1 ∙ ap (all_next n.session (bare_facts es)) (next_right st n e answers.0.session sure.0)

pub reply_right : (x : Statement) (before : Option Reply) (st : State) (es : List Noted) → reply_from x before (map (λ p. p.1.entry.fact) (stated st es)) ≡ reply_from x before (bare_facts es)
reply_right x before st [] = refl
reply_right x before st (e ∷ es) =
    reply_right x (reply_after x before e.entry.fact) (after st e) es ∙ ap (λ (r : Option Reply). reply_from x r (bare_facts es)) (reply_bare x before e.entry.fact)
