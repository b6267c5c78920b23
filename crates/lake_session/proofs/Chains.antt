-- What the entries that a statement added make of a lake.
use Rattle.std.proofs.Common.{◌≡◌, ◌≢◌, ℕ, ◌+◌, ◌≤◌, Bool, true, false, ◌&&◌, List, [], ◌∷◌, ◌++◌, None, Some, Option, Ok, Err, map, refl, sym, ap, ◌∙◌, subst, arith, append_assoc, inl, inr, if◌then◌else◌}
use Rattle.std.specs.Prelude.{Result, IfOk, IsSome, OnOk, OnErr, is_some}
use Rattle.std.specs.List.{AllByRecursion}
use Rattle.std.specs.Option.{option_map_or}
use Rattle.std.proofs.lemmas.List.{append-nil}
use Rattle.lake_model.specs.declared.entries.Fact.{Fact}
use Rattle.lake_model.specs.declared.entries.Fact.TheVariants as fact
use Rattle.sql_model.specs.declared.replies.Refusal.{Refusal}
use Rattle.sql_model.specs.declared.replies.Refusal.TheVariants.{InTransaction}
use Rattle.sql_model.specs.declared.replies.Reply.{Reply}
use Rattle.sql_model.specs.declared.replies.Reply.TheVariants as reply
use Rattle.sql_model.specs.declared.statements.Statement.{Statement}
use Rattle.sql_model.specs.declared.statements.Statement.TheVariants.{Create, Begin, Commit, RollBack, Insert, Select, Update, Delete, Compact, Checkpoint, Collect}
use Rattle.lake_model.specs.Allowed.{IsLegal, IsLegalFrom}
use Rattle.sql_model.specs.StatementKinds.{reads_rows}
use Rattle.lake_model.specs.Following as following
use Rattle.lake_model.specs.Following.{EntryKind, Situation, began, collected, created, entry_sequences, inside, kind_of, outside, ran, refused, rolled_back, situation}
use Rattle.sql_model.specs.Listing.{IsOneOf}
use Rattle.lake_model.specs.Refusals.{result_of}
use Rattle.lake_model.specs.State.{State, Noted, Transaction, after, next_part, opening, state, state_from, stated, transaction}
use Rattle.lake_model.specs.Text.{reply_from}
use Rattle.lake_model.proofs.FrameLaw.{views_stay}
use Rattle.lake_model.proofs.Steps.{state_append}
use Rattle.lake_core.specs.declared.who.Who.{Who}
use Rattle.lake_core.specs.Facts.{answer, beginning, commitment}
use Rattle.lake_core.specs.Lakes.{Adds, HasPart, IsExplicit, Lake, is_reserved, noted, state_of}
use Rattle.sql_model.specs.Writing.{Effect}
use Rattle.lake_session.specs.declared.steps.Answered.{Answered}
use Rattle.lake_session.specs.declared.steps.Answered.TheVariants as answered
use Rattle.lake_session.specs.Runs.{IsBegunBy, IsOutcome, Leaves, Ran, Records, ended_reply, numbered, outcome, reply_said}
use Rattle.lake_session.proofs.Answering.{Answers, run_of}
use Rattle.lake_session.proofs.Rows.{alone, alone_ended, alone_refused, alone_there, begun, inside_ran, inside_refused, is_ran_state, ran_state, row_at}
use Rattle.lake_session.proofs.States.{commitment_none, ended_none, outside_of, ran_there, some_there}

-- a chronicle in two parts

legal_front : (st : State) (xs ys : List Noted) → IsLegalFrom true st (xs ++ ys)
    → IsLegalFrom true st xs
legal_front st [] ys legal = tt
legal_front st (x ∷ xs) ys legal = (legal.0, legal_front (after st x) xs ys legal.1)

legal_behind : (st : State) (xs ys : List Noted) → IsLegalFrom true st (xs ++ ys)
    → IsLegalFrom true (state_from st xs) ys
legal_behind st [] ys legal = legal
legal_behind st (x ∷ xs) ys legal = legal_behind (after st x) xs ys legal.1

-- the entries that were added

own_places : (who : Who) (fs : List Fact) → AllByRecursion (λ e. e.entry.place ≡ who.place) (run_of who fs)
own_places who [] = tt
own_places who (f ∷ fs) = (refl, own_places who fs)

facts_of : (st : State) (who : Who) (fs : List Fact) → map (λ p. p.1.entry.fact) (stated st (run_of who fs)) ≡ fs
facts_of st who [] = refl
facts_of st who (f ∷ fs) = ap (λ (gs : List Fact). f ∷ gs) (facts_of (after st (noted who f)) who fs)

kinds_of : (st : State) (who : Who) (fs : List Fact) → map (λ p. kind_of p.1.entry.fact) (stated st (run_of who fs)) ≡ map kind_of fs
kinds_of st who [] = refl
kinds_of st who (f ∷ fs) = ap (λ (ks : List EntryKind). kind_of f ∷ ks) (kinds_of (after st (noted who f)) who fs)

-- entries that answer a statement and were added to a lake
pub ran_from : (old new : Lake) (who : Who) (x : Statement) (f : Fact) (fs : List Fact)
    (said : Reply) → new.entries ≡ old.entries ++ run_of who (f ∷ fs) → IsLegal true new.entries
    → is_reserved new who.session ≡ false →
    Answers (state_of old) who x f fs said → Ran old new (numbered who x) said
ran_from old new who x f fs said entries legal unreserved answers =
    let run = run_of who (f ∷ fs) in
    let st = state_of old in
    let behind : state_from st run ≡ state_of new = sym (ap state entries ∙ state_append opening old.entries run) in
    let P : List EntryKind → Type 0 = λ kinds. IsOneOf (entry_sequences (situation st who.session) x) kinds in
    let Q : State → Type 0 = λ s. IsExplicit s who.session in
    let R : State → Type 0 = λ s. next_part s who.session ≤ next_part st who.session + 1 in
    let S : List Noted → Type 0 = λ es. IsLegal true es in
    record {
      by = record {
        run = run;
        added = entries;
        answered = record {
          legal = legal_behind opening old.entries run (subst S entries legal);
          own = own_places who (f ∷ fs);
          right = record { kinds = subst P (sym (kinds_of st who (f ∷ fs))) answers.row; answers = answers.right };
        };
        replies = ap (λ (gs : List Fact). reply_from x None gs) (facts_of st who (f ∷ fs)) ∙ answers.replies;
        few = answers.few;
      };
      unreserved = unreserved;
      explicit = subst Q behind answers.goes_on.explicit;
      parts = subst R behind answers.goes_on.parts;
    }

-- one entry more

pub records_of : (old new : Lake) (who : Who) (f : Fact) → is_reserved old who.session ≡ false → Adds old new who f → Records old new who f
records_of old new who f none adds = record {
  entries = adds.entries;
  legal = adds.legal;
  unreserved = adds.kept ∙ ap (λ (b : Bool). b && is_some (transaction (state_of new) who.session)) none;
  others = adds.others;
}

nothing_both : (b : Bool) → (b && false) ≡ false
nothing_both true = refl
nothing_both false = refl

-- an entry that ends the session's transaction, for which room was reserved
pub records_end : (old mid new : Lake) (who : Who) (fact_at : State → Fact) → mid.entries ≡ old.entries → ((other : ℕ) → other ≢ who.session → is_reserved mid other ≡ is_reserved old other) →
    Adds mid new who (fact_at (state_of mid)) → transaction (state_of new) who.session ≡ None → Records old new who (fact_at (state_of old))
records_end old mid new who fact_at same rooms adds none = record {
  entries = adds.entries ∙ ap (λ (es : List Noted). es ++ noted who (fact_at (state es)) ∷ []) same;
  legal = adds.legal;
  unreserved = adds.kept ∙ ap (λ (o : Option _). is_reserved mid who.session && is_some o) none ∙ nothing_both (is_reserved mid who.session);
  others = λ other differ. adds.others other differ ∙ rooms other differ;
}

pub state_next : (old new : Lake) (who : Who) (f : Fact) → new.entries ≡ old.entries ++ noted who f ∷ [] → state_of new ≡ after (state_of old) (noted who f)
state_next old new who f entries = ap state entries ∙ state_append opening old.entries (noted who f ∷ [])

pub two_entries : (old mid new : Lake) (who : Who) (f g : Fact) → Records old mid who f → Records mid new who g → new.entries ≡ old.entries ++ run_of who (f ∷ g ∷ [])
two_entries old mid new who f g first second =
    second.entries ∙ ap (λ (es : List Noted). es ++ noted who g ∷ []) first.entries ∙ append_assoc old.entries (noted who f ∷ []) (noted who g ∷ [])

pub three_entries : (old one two new : Lake) (who : Who) (f g h : Fact) → Records old one who f → Records one two who g → Records two new who h → new.entries ≡ old.entries ++ run_of who (f ∷ g ∷ h ∷ [])
three_entries old one two new who f g h first second third =
    third.entries ∙ ap (λ (es : List Noted). es ++ noted who h ∷ []) (two_entries old one two who f g first second)
    ∙ append_assoc old.entries (noted who f ∷ noted who g ∷ []) (noted who h ∷ [])

-- what is left as it was

pub leaves_same : (old new : Lake) (session : ℕ) → new ≡ old → Leaves old new session
leaves_same old new session same =
    let P : Lake → Type 0 = λ lake. Leaves old lake session in
    subst P (sym same) (record { rooms = λ other differ. refl; transactions = λ other differ. refl })

pub leaves_records : (old new : Lake) (who : Who) (f : Fact) → Records old new who f → Leaves old new who.session
leaves_records old new who f records =
    let S : List Noted → Type 0 = λ es. IsLegal true es in
    let legal : IsLegal true old.entries = legal_front opening old.entries (noted who f ∷ [])
    (subst S records.entries records.legal) in
    record {
      rooms = records.others;
      transactions = λ other differ.
          ap (λ (s : State). transaction s other) (state_next old new who f records.entries) ∙ (views_stay old.entries (noted who f) other legal (λ same. differ (sym same))).transaction;
    }

pub leaves_then : (old mid new : Lake) (session : ℕ) → Leaves old mid session → Leaves mid new session → Leaves old new session
leaves_then old mid new session first second = record {
  rooms = λ other differ. second.rooms other differ ∙ first.rooms other differ;
  transactions = λ other differ. second.transactions other differ ∙ first.transactions other differ;
}

-- the entries of a statement that found no memory

own_sessions : (who : Who) (fs : List Fact) → AllByRecursion (λ e. e.entry.session ≡ who.session) (run_of who fs)
own_sessions who [] = tt
own_sessions who (f ∷ fs) = (refl, own_sessions who fs)

own_kinds : (who : Who) (fs : List Fact) → map (λ e. kind_of e.entry.fact) (run_of who fs) ≡ map kind_of fs
own_kinds who [] = refl
own_kinds who (f ∷ fs) = ap (λ (ks : List EntryKind). kind_of f ∷ ks) (own_kinds who fs)

begun_run : (old new : Lake) (who : Who) (x : Statement) (fs : List Fact) (rest : List EntryKind) → new.entries ≡ old.entries ++ run_of who fs
    → IsOneOf (entry_sequences (situation (state_of old) who.session) x) (map kind_of fs ++ rest) → IsBegunBy old.entries new.entries (numbered who x)
begun_run old new who x fs rest entries one =
    let P : List EntryKind → Type 0 = λ kinds. IsOneOf (entry_sequences (situation (state_of old) who.session) x) (kinds ++ rest) in record {
      run = run_of who fs;
      added = entries;
      places = own_places who fs;
      sessions = own_sessions who fs;
      rest = rest;
      begins = subst P (sym (own_kinds who fs)) one;
    }

-- each statement may have some sequence of entries
some_sequence : (place : Situation) (x : Statement) → (kinds : List EntryKind) × IsOneOf (entry_sequences place x) kinds
some_sequence place (Create table columns distribution) = (created ∷ [], inl refl)
some_sequence place Begin = (began ∷ [], inl refl)
some_sequence place Commit = (following.ended ∷ [], inl refl)
some_sequence place RollBack = (rolled_back ∷ [], inl refl)
some_sequence inside (Insert table rows) = (ran ∷ [], inl refl)
some_sequence outside (Insert table rows) = (began ∷ refused ∷ [], inl refl)
some_sequence inside (Select q) = (ran ∷ [], inl refl)
some_sequence outside (Select q) = (began ∷ refused ∷ [], inl refl)
some_sequence inside (Update table sets filter) = (ran ∷ [], inl refl)
some_sequence outside (Update table sets filter) = (began ∷ refused ∷ [], inl refl)
some_sequence inside (Delete table filter) = (ran ∷ [], inl refl)
some_sequence outside (Delete table filter) = (began ∷ refused ∷ [], inl refl)
some_sequence inside (Compact table) = (refused ∷ [], inl refl)
some_sequence outside (Compact table) = (began ∷ refused ∷ [], inl refl)
some_sequence inside (Checkpoint table) = (refused ∷ [], inl refl)
some_sequence outside (Checkpoint table) = (began ∷ refused ∷ [], inl refl)
some_sequence place (Collect retain) = (collected ∷ [], inl refl)

pub begun_same : (old new : Lake) (who : Who) (x : Statement) → new ≡ old → IsBegunBy old.entries new.entries (numbered who x)
begun_same old new who x same =
    let some = some_sequence (situation (state_of old) who.session) x in
    begun_run old new who x [] some.0 (ap (λ (lake : Lake). lake.entries) same ∙ sym (append-nil old.entries)) some.1

-- what holds anyway is said of an error
pub at_error : {X E P : Type 0} (result : Result X E) → P → OnErr result P
at_error (Ok x) holds = tt
at_error (Err e) holds = holds

-- of a call that adds one entry, or finds no memory

pub ran_by : (old new : Lake) (who : Who) (x : Statement) (f : Fact) {E : Type 0} (result : Result Reply E) → is_reserved old who.session ≡ false → Answers (state_of old) who x f [] (answer f) →
    OnOk result (Adds old new who f) → IfOk result (λ said. said ≡ answer f) → IfOk result (λ said. Ran old new (numbered who x) said)
ran_by old new who x f (Ok said) none answers adds is =
    let records = records_of old new who f none adds in
    let P : Reply → Type 0 = λ r. Ran old new (numbered who x) r in
    subst P (sym is) (ran_from old new who x f [] (answer f) records.entries records.legal records.unreserved answers)
ran_by old new who x f (Err e) none answers adds is = tt

pub leaves_by : (old new : Lake) (who : Who) (f : Fact) {E : Type 0} (result : Result Reply E) → is_reserved old who.session ≡ false → OnOk result (Adds old new who f) → OnErr result (new ≡ old) → Leaves old new who.session
leaves_by old new who f (Ok said) none adds same = leaves_records old new who f (records_of old new who f none adds)
leaves_by old new who f (Err e) none adds same = leaves_same old new who.session same

-- the same of an entry that ends a transaction

pub ran_ended : (old new : Lake) (who : Who) (x : Statement) (f : Fact) {E : Type 0} (result : Result Reply E) → Answers (state_of old) who x f [] (answer f) →
    OnOk result (Records old new who f) → IfOk result (λ said. said ≡ answer f) → IfOk result (λ said. Ran old new (numbered who x) said)
ran_ended old new who x f (Ok said) answers records is =
    let P : Reply → Type 0 = λ r. Ran old new (numbered who x) r in
    subst P (sym is) (ran_from old new who x f [] (answer f) records.entries records.legal records.unreserved answers)
ran_ended old new who x f (Err e) answers records is = tt

pub leaves_ended : (old new : Lake) (who : Who) (f : Fact) {E : Type 0} (result : Result Reply E) → OnOk result (Records old new who f) → OnErr result (new ≡ old) → Leaves old new who.session
leaves_ended old new who f (Ok said) records same = leaves_records old new who f records
leaves_ended old new who f (Err e) records same = leaves_same old new who.session same

-- COMMIT in room that was reserved
pub records_committed : (old mid new : Lake) (who : Who) → IsSome (transaction (state_of old) who.session) → mid.entries ≡ old.entries → ((other : ℕ) → other ≢ who.session → is_reserved mid other ≡ is_reserved old other) →
    Adds mid new who (commitment (state_of mid) who.session) → Records old new who (commitment (state_of old) who.session)
records_committed old mid new who running same rooms adds =
    let (t, is) = some_there (transaction (state_of old) who.session) running in
    let there : transaction (state_of mid) who.session ≡ Some t = ap (λ (es : List Noted). transaction (state es) who.session) same ∙ is in
    records_end old mid new who (λ st. commitment st who.session) same rooms adds
    (ap (λ (s : State). transaction s who.session) (state_next mid new who (commitment (state_of mid) who.session) adds.entries) ∙ commitment_none who.session (state_of mid) t there)

-- ROLLBACK in room that was reserved
pub records_rolled : (old mid new : Lake) (who : Who) → mid.entries ≡ old.entries → ((other : ℕ) → other ≢ who.session → is_reserved mid other ≡ is_reserved old other) → Adds mid new who fact.RolledBack → Records old new who fact.RolledBack
records_rolled old mid new who same rooms adds =
    records_end old mid new who (λ st. fact.RolledBack) same rooms adds
    (ap (λ (s : State). transaction s who.session) (state_next mid new who fact.RolledBack adds.entries) ∙ ended_none who.session (state_of mid))

-- a statement that stands alone

module _ (old one : Lake) (who : Who) (x : Statement) (reads : reads_rows x ≡ true) (outside_is : transaction (state_of old) who.session ≡ None) (first : Records old one who (beginning (state_of old) who.session false)) where
  begins : beginning (state_of old) who.session false ≡ begun (state_of old)
  begins = ap (λ (o : Option Transaction). if is_some o then fact.Refused InTransaction else begun (state_of old)) outside_is

  begun_records : Records old one who (begun (state_of old))
  begun_records = let P : Fact → Type 0 = λ f. Records old one who f in subst P begins first

  one_is : state_of one ≡ after (state_of old) (noted who (begun (state_of old)))
  one_is = state_next old one who (begun (state_of old)) begun_records.entries

  one_there : transaction (state_of one) who.session ≡ Some (alone (state_of old))
  one_there = ap (λ (s : State). transaction s who.session) one_is ∙ alone_there (state_of old) who x reads outside_is

  pub begun_running : IsSome (transaction (state_of one) who.session)
  begun_running = let P : Option Transaction → Type 0 = λ o. IsSome o in subst P (sym one_there) refl

  pub begun_part : HasPart (state_of one) who.session
  begun_part =
      let first_part : next_part (state_of one) who.session ≡ 1 = ap (λ (o : Option Transaction). option_map_or (λ t. t.parts + 1) o 1) one_there in
      omega (arith, first_part)

  result_is : result_of (state_of one) who.session x ≡ result_of (after (state_of old) (noted who (begun (state_of old)))) who.session x
  result_is = ap (λ (s : State). result_of s who.session x) one_is

  -- where it found no memory behind its first entry, or behind its second
  pub begun_first : (new : Lake) → new ≡ one → IsBegunBy old.entries new.entries (numbered who x)
  begun_first new same =
      begun_run old new who x (begun (state_of old) ∷ []) (refused ∷ []) (ap (λ (lake : Lake). lake.entries) same ∙ begun_records.entries)
      (row_at (state_of old) who.session x false (began ∷ refused ∷ []) reads (outside_of who.session (state_of old) outside_is) (inl refl))

  module _ (two : Lake) (said : Reply) (second : Records one two who (outcome (result_of (state_of one) who.session x))) where
    refused_with : (r : Result Effect Refusal) → result_of (state_of one) who.session x ≡ r → IsOutcome (answered.Refused said) r → Ran old two (numbered who x) said
    refused_with (Ok effect) is said_so = absurd said_so
    refused_with (Err cause) is said_so =
        let P : Result Effect Refusal → Type 0 = λ r. Records one two who (outcome r) in
        let Q : Reply → Type 0 = λ r. Ran old two (numbered who x) r in
        let records : Records one two who (fact.Refused cause) = subst P is second in
        subst Q (sym said_so)
        (ran_from old two who x (begun (state_of old)) (fact.Refused cause ∷ []) (reply.Refused cause) (two_entries old one two who (begun (state_of old)) (fact.Refused cause) begun_records records) records.legal records.unreserved
        (alone_refused (state_of old) who x reads outside_is cause (sym result_is ∙ is)))

    pub refused_alone : IsOutcome (answered.Refused said) (result_of (state_of one) who.session x) → Ran old two (numbered who x) said
    refused_alone said_so = refused_with (result_of (state_of one) who.session x) refl said_so

    -- where it ran, its transaction is open

    running_with : (r : Result Effect Refusal) → result_of (state_of one) who.session x ≡ r → IsOutcome (answered.Ran said) r → IsSome (transaction (state_of two) who.session)
    running_with (Ok effect) is said_so =
        let P : Result Effect Refusal → Type 0 = λ r. Records one two who (outcome r) in
        let Q : Option Transaction → Type 0 = λ o. IsSome o in
        let records : Records one two who (fact.Ran effect.0 effect.1) = subst P is second in
        subst Q (sym (ap (λ (s : State). transaction s who.session) (state_next one two who (fact.Ran effect.0 effect.1) records.entries) ∙ ran_there who.session (state_of one) (alone (state_of old)) effect.0 effect.1 one_there)) refl
    running_with (Err cause) is said_so = absurd said_so

    pub ran_running : IsOutcome (answered.Ran said) (result_of (state_of one) who.session x) → IsSome (transaction (state_of two) who.session)
    ran_running said_so = running_with (result_of (state_of one) who.session x) refl said_so

    begun_with : (new : Lake) (r : Result Effect Refusal) → result_of (state_of one) who.session x ≡ r → IsOutcome (answered.Ran said) r → new ≡ two → IsBegunBy old.entries new.entries (numbered who x)
    begun_with new (Ok effect) is said_so same =
        let P : Result Effect Refusal → Type 0 = λ r. Records one two who (outcome r) in
        let records : Records one two who (fact.Ran effect.0 effect.1) = subst P is second in
        begun_run old new who x (begun (state_of old) ∷ fact.Ran effect.0 effect.1 ∷ []) (following.ended ∷ [])
        (ap (λ (lake : Lake). lake.entries) same ∙ two_entries old one two who (begun (state_of old)) (fact.Ran effect.0 effect.1) begun_records records)
        (row_at (state_of old) who.session x false (began ∷ ran ∷ following.ended ∷ []) reads (outside_of who.session (state_of old) outside_is) (inr (inr (inl refl))))
    begun_with new (Err cause) is said_so same = absurd said_so

    pub begun_second : (new : Lake) → IsOutcome (answered.Ran said) (result_of (state_of one) who.session x) → new ≡ two → IsBegunBy old.entries new.entries (numbered who x)
    begun_second new said_so same = begun_with new (result_of (state_of one) who.session x) refl said_so same

    -- and ends

    module _ (new : Lake) (third : Records two new who (commitment (state_of two) who.session)) where
      ended_with : (r : Result Effect Refusal) → result_of (state_of one) who.session x ≡ r → IsOutcome (answered.Ran said) r → Ran old new (numbered who x) (ended_reply said (answer (commitment (state_of two) who.session)))
      ended_with (Ok effect) is said_so =
          let st = state_of old in
          let session = who.session in
          let ran_fact = fact.Ran effect.0 effect.1 in
          let P : Result Effect Refusal → Type 0 = λ r. Records one two who (outcome r) in
          let records : Records one two who ran_fact = subst P is second in
          let result : result_of (after st (noted who (begun st))) session x ≡ Ok (effect.0, effect.1) = sym result_is ∙ is in
          let two_is : state_of two ≡ ran_state st who x reads outside_is effect.0 effect.1 result =
          state_next one two who ran_fact records.entries ∙ ap (λ (s : State). after s (noted who ran_fact)) one_is ∙ sym (is_ran_state st who x reads outside_is effect.0 effect.1 result) in
          let Q : State → Type 0 = λ s. Answers st who x (begun st) (ran_fact ∷ commitment s session ∷ []) (ended_reply effect.0 (answer (commitment s session))) in
          let R : Reply → Type 0 = λ r. Ran old new (numbered who x) (ended_reply r (answer (commitment (state_of two) session))) in
          subst R (sym said_so)
          (ran_from old new who x (begun st) (ran_fact ∷ commitment (state_of two) session ∷ []) (ended_reply effect.0 (answer (commitment (state_of two) session)))
          (three_entries old one two new who (begun st) ran_fact (commitment (state_of two) session) begun_records records third) third.legal third.unreserved
          (subst Q (sym two_is) (alone_ended st who x reads outside_is effect.0 effect.1 result)))
      ended_with (Err cause) is said_so = absurd said_so

      pub ran_alone : IsOutcome (answered.Ran said) (result_of (state_of one) who.session x) → (end last : Reply) → end ≡ answer (commitment (state_of two) who.session) → last ≡ ended_reply said end → Ran old new (numbered who x) last
      ran_alone said_so end last end_is is =
          let P : Reply → Type 0 = λ r. Ran old new (numbered who x) r in
          subst P (sym (is ∙ ap (λ (r : Reply). ended_reply said r) end_is)) (ended_with (result_of (state_of one) who.session x) refl said_so)

-- a statement inside a transaction that BEGIN opened
module _ (old new : Lake) (who : Who) (x : Statement) (said : Reply) (reads : reads_rows x ≡ true) (t : Transaction) (running : transaction (state_of old) who.session ≡ Some t)
    (explicit : IsExplicit (state_of old) who.session) (records : Records old new who (outcome (result_of (state_of old) who.session x))) where
  inside_with : (a : Answered) (r : Result Effect Refusal) → result_of (state_of old) who.session x ≡ r → IsOutcome a r → reply_said a ≡ said → Ran old new (numbered who x) said
  inside_with (answered.Ran own) (Ok effect) is said_so same =
      let P : Result Effect Refusal → Type 0 = λ r. Records old new who (outcome r) in
      let Q : Reply → Type 0 = λ r. Ran old new (numbered who x) r in
      let made : Records old new who (fact.Ran effect.0 effect.1) = subst P is records in
      subst Q (sym said_so ∙ same)
      (ran_from old new who x (fact.Ran effect.0 effect.1) [] effect.0 made.entries made.legal made.unreserved (inside_ran (state_of old) who x t reads running explicit effect.0 effect.1 is))
  inside_with (answered.Refused own) (Err cause) is said_so same =
      let P : Result Effect Refusal → Type 0 = λ r. Records old new who (outcome r) in
      let Q : Reply → Type 0 = λ r. Ran old new (numbered who x) r in
      let made : Records old new who (fact.Refused cause) = subst P is records in
      subst Q (sym said_so ∙ same)
      (ran_from old new who x (fact.Refused cause) [] (reply.Refused cause) made.entries made.legal made.unreserved (inside_refused (state_of old) who x t reads running explicit cause is))
  inside_with (answered.Ran own) (Err cause) is said_so same = absurd said_so
  inside_with (answered.Refused own) (Ok effect) is said_so same = absurd said_so

  pub ran_inside : (a : Answered) → IsOutcome a (result_of (state_of old) who.session x) → reply_said a ≡ said → Ran old new (numbered who x) said
  ran_inside a said_so same = inside_with a (result_of (state_of old) who.session x) refl said_so same
