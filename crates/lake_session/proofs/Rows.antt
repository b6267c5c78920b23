-- Which entries answer a statement that reads or changes rows.
use Rattle.std.proofs.Common.{◌≡◌, ℕ, ◌+◌, Bool, true, false, ◌||◌, List, [], ◌∷◌, None, Some, Option, Ok, Err, refl, sym, ap, ◌∙◌, subst, arith, inl, inr, if◌then◌else◌}
use Rattle.std.specs.Prelude.{Result}
use Rattle.lake_values.specs.declared.values.Value.{Value}
use Rattle.sql_model.specs.declared.bound.Bound.{Bound}
use Rattle.sql_model.specs.declared.changes.Change.{Change}
use Rattle.lake_model.specs.declared.entries.Fact.{Fact}
use Rattle.lake_model.specs.declared.entries.Fact.TheVariants as fact
use Rattle.sql_model.specs.declared.replies.Refusal.{Refusal}
use Rattle.sql_model.specs.declared.replies.Reply.{Reply}
use Rattle.sql_model.specs.declared.replies.Reply.TheVariants as reply
use Rattle.sql_model.specs.declared.statements.Statement.{Statement}
use Rattle.sql_model.specs.declared.statements.Statement.TheVariants.{Insert, Select, Update, Delete}
use Rattle.lake_model.specs.Answers.{HasChange, IsConflictOf, IsEndOf, IsRight, commits}
use Rattle.sql_model.specs.StatementKinds.{is_upkeep, is_write, reads_rows, runs_alone}
use Rattle.sql_model.specs.Binding.{answered, refused}
use Rattle.sql_model.specs.BoundForms.{bound_form}
use Rattle.sql_model.specs.Changes.{is_unchanged, no_change, pend}
use Rattle.lake_model.specs.Following.{EntryKind, Situation, began, committed, conflict, ended, entry_sequences, inside, is_failed, kind_of, outside, ran, row_sequences, situation}
use Rattle.sql_model.specs.Listing.{IsOneOf}
use Rattle.lake_model.specs.Following as following
use Rattle.lake_model.specs.Refusals.{refusal, refusal_in, result_of}
use Rattle.sql_model.specs.Scopes.{TableSchemas}
use Rattle.lake_model.specs.State.{State, Transaction, after, after_fact, is_inside, last, transaction, with_part}
use Rattle.lake_model.specs.Text.{reply_after}
use Rattle.sql_model.specs.Versions.{Tables}
use Rattle.sql_model.specs.Writing as writing
use Rattle.lake_model.proofs.Effects.{query_made}
use Rattle.lake_core.specs.declared.who.Who.{Who}
use Rattle.lake_core.specs.Facts.{answer, commitment}
use Rattle.lake_core.specs.Lakes.{IsExplicit, noted}
use Rattle.lake_session.specs.Runs.{ended_reply}
use Rattle.lake_session.proofs.Answering.{Answers, answer_at, has_change, one_answers, refusal_answers}
use Rattle.lake_session.proofs.States.{each_end, ending_none, gone, inside_of, is_ending, outside_of, ran_on, ran_there, stopped_alone, turned_some}

-- what holds of a statement that reads or changes rows

refusal_rows : (st : State) (session : ℕ) (x : Statement) → reads_rows x ≡ true → refusal st session x ≡ refusal_in (result_of st session x)
refusal_rows st session (Insert table rows) reads = refl
refusal_rows st session (Select q) reads = refl
refusal_rows st session (Update table sets filter) reads = refl
refusal_rows st session (Delete table filter) reads = refl
refusal_rows st session x reads = absurd cc

entries_rows : (x : Statement) (place : Situation) → reads_rows x ≡ true → entry_sequences place x ≡ row_sequences place
entries_rows (Insert table rows) place reads = refl
entries_rows (Select q) place reads = refl
entries_rows (Update table sets filter) place reads = refl
entries_rows (Delete table filter) place reads = refl
entries_rows x place reads = absurd cc

ends_rows : (st : State) (session : ℕ) (x : Statement) → reads_rows x ≡ true
    → IsEndOf true st session true x
ends_rows st session (Insert table rows) reads = refl
ends_rows st session (Select q) reads = refl
ends_rows st session (Update table sets filter) reads = refl
ends_rows st session (Delete table filter) reads = refl
ends_rows st session x reads = absurd cc

commits_write : (x : Statement) → is_write x ≡ true → commits true x ≡ true
commits_write (Insert table rows) write = refl
commits_write (Update table sets filter) write = refl
commits_write (Delete table filter) write = refl
commits_write x write = absurd cc

conflicts_write : (st : State) (session seq : ℕ) (x : Statement) → is_write x ≡ true
    → HasChange st session → IsConflictOf true st session true x seq
conflicts_write st session seq (Insert table rows) write change = (refl, change)
conflicts_write st session seq (Update table sets filter) write change = (refl, change)
conflicts_write st session seq (Delete table filter) write change = (refl, change)
conflicts_write st session seq x write change = absurd cc

-- its entries, where the session stands so
pub row_at : (st : State) (session : ℕ) (x : Statement) (there : Bool) (kinds : List EntryKind) → reads_rows x ≡ true → is_inside st session ≡ there → IsOneOf (row_sequences (if there then inside else outside)) kinds →
    IsOneOf (entry_sequences (situation st session) x) kinds
row_at st session x there kinds reads is one =
    let P : List (List EntryKind) → Type 0 = λ rows. IsOneOf rows kinds in
    subst P (sym (ap (λ (b : Bool). entry_sequences (if b then inside else outside) x) is ∙ entries_rows x (if there then inside else outside) reads)) one

-- a statement that changed something is a write

query_unchanged : (rows : Result (List (List Value)) Refusal) {made : writing.Effect} → writing.queried rows ≡ Ok made → no_change ≡ made.1
query_unchanged rows is = ap (λ (e : writing.Effect). e.1) (query_made rows is).1

answered_query : (judged : Option Refusal) (schemas : TableSchemas) (version : Tables) (part : ℕ) (form : Bound) (made : writing.Effect) → ((part : ℕ) (e : writing.Effect) → writing.effect_of form version part ≡ Ok e → no_change ≡ e.1) →
    writing.effect_if_bound (answered judged form) version part ≡ Ok made → no_change ≡ made.1
answered_query None schemas version part form made holds is = holds part made is
answered_query (Some cause) schemas version part form made holds is = absurd cc

select_unchanged : (version : Tables) (part : ℕ) (x : Statement) (made : writing.Effect) → reads_rows x ≡ true → is_write x ≡ false → writing.result_over version part x ≡ Ok made → no_change ≡ made.1
select_unchanged version part (Select q) made reads write is =
    answered_query (refused (writing.schemas_of version) (Select q)) (writing.schemas_of version) version part (bound_form (writing.schemas_of version) (Select q)) made (λ part e. query_unchanged _) is
select_unchanged version part (Insert table rows) made reads write is = absurd cc
select_unchanged version part (Update table sets filter) made reads write is = absurd cc
select_unchanged version part (Delete table filter) made reads write is = absurd cc
select_unchanged version part x made reads write is = absurd cc

changed_write : (version : Tables) (part : ℕ) (x : Statement) (said : Reply) (change : Change) → reads_rows x ≡ true → writing.result_over version part x ≡ Ok (said, change) → is_unchanged (pend no_change change) ≡ false → is_write x ≡ true
changed_write version part x said change reads is changed =
    elim (is_write x) as (λ b. is_write x ≡ b → b ≡ true) [
      | true ↦ λ write. refl
      | false ↦ λ no_write.
          let same : no_change ≡ change = select_unchanged version part x (said, change) reads no_write is in
          let other : true ≡ false = ap (λ (c : Change). is_unchanged (pend no_change c)) same ∙ changed in
          absurd cc
    ] refl

-- inside an explicit transaction

module _ (st : State) (who : Who) (x : Statement) (t : Transaction) (reads : reads_rows x ≡ true) (running : transaction st who.session ≡ Some t) (explicit : IsExplicit st who.session) where
  pub inside_ran : (said : Reply) (change : Change) → result_of st who.session x ≡ Ok (said, change) → Answers st who x (fact.Ran said change) [] said
  inside_ran said change is =
      one_answers st who x (fact.Ran said change) (row_at st who.session x true (ran ∷ []) reads (inside_of who.session st t running explicit).1 (inl refl)) (reads, is) refl refl
      (ran_on who.session st t said change running (inside_of who.session st t running explicit).0)

  pub inside_refused : (cause : Refusal) → result_of st who.session x ≡ Err cause → Answers st who x (fact.Refused cause) [] (reply.Refused cause)
  inside_refused cause is =
      refusal_answers st who x cause (row_at st who.session x true (following.refused ∷ []) reads (inside_of who.session st t running explicit).1 (inr (inl refl))) explicit
      (refusal_rows st who.session x reads ∙ ap refusal_in is)

-- alone, in a transaction for itself

abbrev pub begun : State → Fact
begun st = fact.Began false (st.last_number + 1) (last st)

-- the transaction that the statement begins
abbrev pub alone : State → Transaction
alone st = record { explicit = false; number = st.last_number + 1; snapshot = last st; pending = no_change; worn = []; parts = 0 }

module _ (st : State) (who : Who) (x : Statement) (reads : reads_rows x ≡ true) (outside_is : transaction st who.session ≡ None) where
  opens : runs_alone x ≡ true
  opens = ap (λ (b : Bool). b || is_upkeep x) reads

  pub alone_there : transaction (after st (noted who (begun st))) who.session ≡ Some (alone st)
  alone_there = turned_some who.session (alone st) st

  pub alone_refused : (cause : Refusal) → result_of (after st (noted who (begun st))) who.session x ≡ Err cause → Answers st who x (begun st) (fact.Refused cause ∷ []) (reply.Refused cause)
  alone_refused cause is =
      let st1 = after st (noted who (begun st)) in
      record {
        row = row_at st who.session x false (began ∷ following.refused ∷ []) reads (outside_of who.session st outside_is) (inl refl);
        right = (
          answer_at st who x false (begun st) opens refl,
          (answer_at st1 who x false (fact.Refused cause) (refusal_rows st1 who.session x reads ∙ ap refusal_in is) refl, tt),
        );
        replies = refl;
        few = omega arith;
        goes_on = gone who.session st (after_fact who.session false (fact.Refused cause) st1) (stopped_alone who.session st1 (alone st) alone_there refl);
      }

  module _ (said : Reply) (change : Change) (is : result_of (after st (noted who (begun st))) who.session x ≡ Ok (said, change)) where
    pub ran_state : State
    ran_state = after (after st (noted who (begun st))) (noted who (fact.Ran said change))

    pub is_ran_state : ran_state ≡ after (after st (noted who (begun st))) (noted who (fact.Ran said change))
    unfolding ran_state
    is_ran_state = refl

    pub ran_transaction : transaction ran_state who.session ≡ Some (with_part said change (alone st))
    unfolding ran_state
    ran_transaction = ran_there who.session (after st (noted who (begun st))) (alone st) said change alone_there

    writes : is_unchanged (with_part said change (alone st)).pending ≡ false → is_write x ≡ true
    writes changed = changed_write _ _ x said change reads is changed

    -- with the entry that ends the transaction
    alone_with : (f : Fact) → IsOneOf (row_sequences outside) (began ∷ ran ∷ kind_of f ∷ [])
        → IsRight true ran_state who.session true x f → is_failed f ≡ false
        → reply_after x (Some said) f ≡ Some (ended_reply said (answer f)) →
        transaction (after_fact who.session false f ran_state) who.session ≡ None → Answers st who x (begun st) (fact.Ran said change ∷ f ∷ []) (ended_reply said (answer f))
    unfolding ran_state
    alone_with f row right fails replies none =
        let st1 = after st (noted who (begun st)) in
        record {
          row = row_at st who.session x false (began ∷ ran ∷ kind_of f ∷ []) reads (outside_of who.session st outside_is) row;
          right = (
            answer_at st who x false (begun st) opens refl,
            (answer_at st1 who x false (fact.Ran said change) (reads, is) refl, (answer_at ran_state who x true f right fails, tt)),
          );
          replies = replies;
          few = omega arith;
          goes_on = gone who.session st (after_fact who.session false f ran_state) none;
        }

    pub alone_ended : Answers st who x (begun st) (fact.Ran said change ∷ commitment ran_state who.session ∷ []) (ended_reply said (answer (commitment ran_state who.session)))
    alone_ended =
        let session = who.session in
        let t = with_part said change (alone st) in
        let P : Fact → Type 0 = λ f. Answers st who x (begun st) (fact.Ran said change ∷ f ∷ []) (ended_reply said (answer f)) in
        subst P (sym (is_ending session ran_state t ran_transaction))
        (each_end session ran_state t (λ f. transaction (after_fact session false f ran_state) session ≡ None → P f)
        (λ same none. alone_with fact.Ended (inr (inr (inl refl))) (ends_rows ran_state session x reads) refl refl none)
        (λ changed seq none. alone_with (fact.Conflict seq) (inr (inr (inr (inr (inl refl))))) (conflicts_write ran_state session seq x (writes changed) (has_change ran_state session t ran_transaction changed)) refl refl none)
        (λ changed none. alone_with (fact.Committed (last ran_state + 1) [] []) (inr (inr (inr (inl refl)))) (commits_write x (writes changed)) refl refl none)
        (ending_none session ran_state t ran_transaction))
