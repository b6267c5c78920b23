-- Which entries answer a statement that is no statement over rows.
use Rattle.std.proofs.Common.{◌≡◌, ℕ, ◌+◌, ◌≤◌, Bool, true, false, ◌&&◌, List, [], ◌∷◌, None, Some, Option, length, map, refl, sym, ap, ◌∙◌, subst, arith, inl, inr, if◌then◌else◌}
use Rattle.std.specs.Prelude.{IsNone, IsSomeAnd, MatchBool, is_some}
use Rattle.std.specs.Option.{option_map_or, option_or}
use Rattle.lake_values.specs.declared.schemas.Column.{Column}
use Rattle.lake_model.specs.declared.entries.Fact.{Fact}
use Rattle.lake_model.specs.declared.entries.Fact.TheVariants as fact
use Rattle.sql_model.specs.declared.replies.Refusal.{Refusal}
use Rattle.sql_model.specs.declared.replies.Refusal.TheVariants.{InTransaction, NoTransaction, TableExists}
use Rattle.sql_model.specs.declared.replies.Reply.{Reply}
use Rattle.sql_model.specs.declared.replies.Reply.TheVariants as reply
use Rattle.sql_model.specs.declared.statements.Statement.{Statement}
use Rattle.sql_model.specs.declared.statements.Statement.TheVariants.{Create, Begin, Commit, RollBack}
use Rattle.lake_model.specs.Allowed.{IsAllowedRefusal}
use Rattle.lake_model.specs.Answers.{HasChange, IsRight}
use Rattle.sql_model.specs.Creating.{schema_of}
use Rattle.sql_model.specs.Changes.{is_unchanged, no_change}
use Rattle.lake_model.specs.Following.{AnswerFrom, IsAnswer, entry_sequences, is_failed, kind_of, situation}
use Rattle.sql_model.specs.Listing.{IsOneOf}
use Rattle.lake_model.specs.Refusals.{existing_table, refusal, binding_refusal}
use Rattle.sql_model.specs.Binding.{refused}
use Rattle.lake_model.specs.State.{State, Noted, Transaction, after_fact, is_inside, last, newest, state_from, stated, transaction, view_of}
use Rattle.lake_model.specs.Text.{reply_after, reply_from}
use Rattle.sql_model.specs.Versions.{empty_version, has_table}
use Rattle.sql_model.specs.Writing.{schemas_of}
use Rattle.lake_core.specs.declared.who.Who.{Who}
use Rattle.lake_core.specs.Facts.{answer, beginning, commitment, creation, ending}
use Rattle.lake_core.specs.Lakes.{IsExplicit, noted}
use Rattle.lake_session.specs.Runs.{numbered}
use Rattle.lake_session.proofs.Bindings.{allowed_plain, refused_plain}
use Rattle.lake_session.proofs.States.{GoesOn, each_end, ended_none, ending_none, gone, has_begun, inside_of, is_ending, outside_of, stopped, turned_some}

-- the entries of a session's statement
abbrev pub run_of : Who → List Fact → List Noted
run_of who facts = map (noted who) facts

-- in this state these entries, a first one and more, answer the statement so
pub record Answers (st : State) (who : Who) (x : Statement) (f : Fact) (fs : List Fact) (said : Reply) : Type 0 where
  pub row : IsOneOf (entry_sequences (situation st who.session) x) (map kind_of (f ∷ fs))
  pub right : AnswerFrom true (numbered who x) false (stated st (run_of who (f ∷ fs)))
  pub replies : reply_from x None (f ∷ fs) ≡ Some said
  pub few : length (run_of who (f ∷ fs)) ≤ 3
  pub goes_on : GoesOn st (state_from st (run_of who (f ∷ fs))) who.session

never_ends : (failed inside : Bool) (P : Type 0) → failed ≡ false → MatchBool (failed && inside) P (Unit {0})
never_ends true inside P is = absurd cc
never_ends false inside P is = tt

pub answer_at : (st : State) (who : Who) (x : Statement) (before : Bool) (f : Fact)
    → IsRight true st who.session before x f → is_failed f ≡ false
    → IsAnswer true (numbered who x) before st (noted who f)
answer_at st who x before f right fails = record { session = refl; right = right; ends = never_ends (is_failed f) (is_inside st who.session) _ fails }

-- one entry
pub one_answers : (st : State) (who : Who) (x : Statement) (f : Fact)
    → IsOneOf (entry_sequences (situation st who.session) x) (kind_of f ∷ [])
    → IsRight true st who.session false x f → is_failed f ≡ false →
    reply_after x None f ≡ Some (answer f) → GoesOn st (after_fact who.session false f st) who.session → Answers st who x f [] (answer f)
one_answers st who x f row right fails replies goes_on = record {
  row = row;
  right = (answer_at st who x false f right fails, tt);
  replies = replies;
  few = omega arith;
  goes_on = goes_on;
}

-- of an entry that is the same
pub by_fact : (st : State) (who : Who) (x : Statement) (f g : Fact) → f ≡ g → Answers st who x g [] (answer g) → Answers st who x f [] (answer f)
by_fact st who x f g same answers = let P : Fact → Type 0 = λ h. Answers st who x h [] (answer h) in subst P (sym same) answers

pub refusal_answers : (st : State) (who : Who) (x : Statement) (cause : Refusal) → IsOneOf (entry_sequences (situation st who.session) x) (kind_of (fact.Refused cause) ∷ []) → IsExplicit st who.session →
    refusal st who.session x ≡ Some cause → Answers st who x (fact.Refused cause) [] (reply.Refused cause)
refusal_answers st who x cause row explicit is = one_answers st who x (fact.Refused cause) row is refl refl (stopped who.session st explicit)

-- BEGIN

pub begin_answers : (st : State) (who : Who) → IsExplicit st who.session → Answers st who Begin (beginning st who.session true) [] (answer (beginning st who.session true))
begin_answers st who explicit =
    let session = who.session in
    let begun = fact.Began true (st.last_number + 1) (last st) in
    let fact_of : Option Transaction → Fact = λ o. if is_some o then fact.Refused InTransaction else begun in
    elim (transaction st session) as (λ o. transaction st session ≡ o → Answers st who Begin (beginning st session true) [] (answer (beginning st session true))) [
      | None ↦ λ is.
          by_fact st who Begin (beginning st session true) begun (ap fact_of is)
          (one_answers st who Begin begun (inl refl) refl refl refl
          (let t : Transaction = record { explicit = true; number = st.last_number + 1; snapshot = last st; pending = no_change; worn = []; parts = 0 } in
          has_begun session st (after_fact session false begun st) t (turned_some session t st) refl refl))
      | Some t ↦ λ is.
          let inside = (inside_of session st t is explicit).1 in
          by_fact st who Begin (beginning st session true) (fact.Refused InTransaction) (ap fact_of is)
          (refusal_answers st who Begin InTransaction (inr (inl refl)) explicit (ap (λ (b : Bool). if b then Some InTransaction else None) inside))
    ] refl

-- COMMIT and ROLLBACK

no_explicit : (st : State) (session : ℕ) → transaction st session ≡ None → IsExplicit st session
no_explicit st session is = (gone session st st is).explicit

pub commit_outside : (st : State) (who : Who) → transaction st who.session ≡ None → Answers st who Commit (fact.Refused NoTransaction) [] (reply.Refused NoTransaction)
commit_outside st who is =
    refusal_answers st who Commit NoTransaction (inr (inr (inr (inr (inl refl))))) (no_explicit st who.session is)
    (ap (λ (o : Option Transaction). if is_some o then None else Some NoTransaction) is)

pub roll_back_outside : (st : State) (who : Who) → transaction st who.session ≡ None → Answers st who RollBack (fact.Refused NoTransaction) [] (reply.Refused NoTransaction)
roll_back_outside st who is =
    refusal_answers st who RollBack NoTransaction (inr (inl refl)) (no_explicit st who.session is)
    (ap (λ (o : Option Transaction). if is_some o then None else Some NoTransaction) is)

pub has_change : (st : State) (session : ℕ) (t : Transaction) → transaction st session ≡ Some t → is_unchanged t.pending ≡ false → HasChange st session
has_change st session t is changed = let P : Option Transaction → Type 0 = λ o. IsSomeAnd o (λ t. is_unchanged t.pending ≡ false) in subst P (sym is) changed

pub commit_answers : (st : State) (who : Who) (t : Transaction) → transaction st who.session ≡ Some t → Answers st who Commit (commitment st who.session) [] (answer (commitment st who.session))
commit_answers st who t is =
    let session = who.session in
    by_fact st who Commit (commitment st session) (ending st t) (is_ending session st t is)
    (each_end session st t (λ f. GoesOn st (after_fact session false f st) session → Answers st who Commit f [] (answer f))
    (λ same on. one_answers st who Commit fact.Ended (inl refl) tt refl refl on)
    (λ changed seq on. one_answers st who Commit (fact.Conflict seq) (inr (inr (inl refl))) (has_change st session t is changed) refl refl on)
    (λ changed on. one_answers st who Commit (fact.Committed (last st + 1) [] []) (inr (inl refl)) refl refl refl on)
    (gone session st (after_fact session false (ending st t) st) (ending_none session st t is)))

pub roll_back_answers : (st : State) (who : Who) → Answers st who RollBack fact.RolledBack [] (answer fact.RolledBack)
roll_back_answers st who = one_answers st who RollBack fact.RolledBack (inl refl) refl refl refl (gone who.session st (after_fact who.session false fact.RolledBack st) (ended_none who.session st))

-- CREATE

module _ (st : State) (table : List ℕ) (columns : List Column) (distribution : Option (List ℕ)) (session : ℕ) where
  refusal_outside : transaction st session ≡ None
      → refusal st session (Create table columns distribution)
      ≡ option_or (existing_table table (newest st).tables)
      (refused [] (Create table columns distribution))
  refusal_outside is =
      let create = Create table columns distribution in
      let seen = λ (o : Option Transaction). (option_map_or (view_of st) o empty_version).tables in
      ap (λ (o : Option Transaction).
      option_or (if option_map_or (λ t. t.explicit) o false then Some InTransaction else None)
      (option_or (existing_table table (newest st).tables) (refused (schemas_of (seen o)) create)))
      is

  pub refused_inside : (t : Transaction) → transaction st session ≡ Some t → IsExplicit st session → refusal st session (Create table columns distribution) ≡ Some InTransaction
  refused_inside t is explicit =
      ap (λ (b : Bool). option_or (if b then Some InTransaction else None) (option_or (existing_table table (newest st).tables) (binding_refusal st session (Create table columns distribution))))
      (inside_of session st t is explicit).1

  pub refused_existing : transaction st session ≡ None → has_table table (newest st).tables ≡ true → refusal st session (Create table columns distribution) ≡ Some (TableExists table)
  refused_existing is there = refusal_outside is ∙ rw there refl

  pub refused_bound : transaction st session ≡ None → has_table table (newest st).tables ≡ false → (o : Option Refusal) → refused [] (Create table columns distribution) ≡ o → refusal st session (Create table columns distribution) ≡ o
  refused_bound is absent o bound = refusal_outside is ∙ rw absent bound

  -- which refusals of a CREATE the state allows
  pub create_allowed : (cause : Refusal) → IsExplicit st session → refusal st session (Create table columns distribution) ≡ Some cause → IsAllowedRefusal st session cause
  create_allowed cause explicit is =
      let P : Refusal → Type 0 = λ c. IsAllowedRefusal st session c in
      elim (transaction st session) as (λ o. transaction st session ≡ o → P cause) [
        | None ↦ λ outside.
            elim (has_table table (newest st).tables) as (λ b. has_table table (newest st).tables ≡ b → P cause) [
              | true ↦ λ there.
                  let same : TableExists table ≡ cause = (let both : Some (TableExists table) ≡ Some cause = sym (refused_existing outside there) ∙ is in cc) in
                  let Q : Option Transaction → Type 0 = λ o. IsNone o in
                  subst P same (there, subst Q (sym outside) refl)
              | false ↦ λ absent.
                  let by_columns = sym (refused_bound outside absent (refused [] (Create table columns distribution)) refl) ∙ is in
                  allowed_plain st session cause (refused_plain [] (Create table columns distribution) cause by_columns)
            ] refl
        | Some t ↦ λ running.
            let same : InTransaction ≡ cause = (let both : Some InTransaction ≡ Some cause = sym (refused_inside t running explicit) ∙ is in cc) in
            subst P same (inside_of session st t running explicit).1
      ] refl

module _ (st : State) (who : Who) (table : List ℕ) (columns : List Column) (distribution : Option (List ℕ)) (explicit : IsExplicit st who.session) where
  x : Statement
  x = Create table columns distribution

  pub create_refused : (cause : Refusal) → refusal st who.session (Create table columns distribution) ≡ Some cause → Answers st who (Create table columns distribution) (fact.Refused cause) [] (reply.Refused cause)
  create_refused cause is = refusal_answers st who (Create table columns distribution) cause (inr (inl refl)) explicit is

  pub create_answers : refused [] (Create table columns distribution) ≡ None →
      Answers st who (Create table columns distribution) (creation st who.session table (schema_of columns distribution)) [] (answer (creation st who.session table (schema_of columns distribution)))
  unfolding x
  create_answers none =
      let session = who.session in
      let schema = schema_of columns distribution in
      let made = creation st session table schema in
      let fact_of : Bool → Bool → Fact = λ inside there. if inside then fact.Refused InTransaction else if there then fact.Refused (TableExists table) else fact.Created table schema (last st + 1) in
      elim (transaction st session) as (λ o. transaction st session ≡ o → Answers st who x made [] (answer made)) [
        | None ↦ λ outside.
            elim (has_table table (newest st).tables) as (λ b. has_table table (newest st).tables ≡ b → Answers st who x made [] (answer made)) [
              | true ↦ λ there.
                  by_fact st who x made (fact.Refused (TableExists table)) (λ i. fact_of (outside_of session st outside i) (there i))
                  (create_refused (TableExists table) (refused_existing st table columns distribution session outside there))
              | false ↦ λ absent.
                  by_fact st who x made (fact.Created table schema (last st + 1)) (λ i. fact_of (outside_of session st outside i) (absent i))
                  (one_answers st who x (fact.Created table schema (last st + 1)) (inl refl) ((refl, refl), refused_bound st table columns distribution session outside absent None none) refl refl
                  (gone session st (after_fact session false (fact.Created table schema (last st + 1)) st) outside))
            ] refl
        | Some t ↦ λ running.
            by_fact st who x made (fact.Refused InTransaction) (ap (λ (b : Bool). fact_of b (has_table table (newest st).tables)) (inside_of session st t running explicit).1)
            (create_refused InTransaction (refused_inside st table columns distribution session t running explicit))
      ] refl
