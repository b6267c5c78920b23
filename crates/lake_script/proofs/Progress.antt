-- How far a run of a script has come, and what a statement more makes of it.
use Rattle.std.proofs.Common.{◌≡◌, ℕ, zero, suc, ◌+◌, ◌*◌, ◌<◌, ◌≤◌, true, List, [], ◌∷◌, ◌++◌, Option, length, take, drop, get_or, refl, sym, ap, ◌∙◌, subst, arith, append_assoc}
use Rattle.std.specs.List.{AllByRecursion}
use Rattle.std.specs.Io.KnownBytes.{Appends}
use Rattle.std.proofs.lemmas.List.{append-nil, length-append, take-append-drop, take_all}
use Rattle.std.proofs.lemmas.Grind.{flat_map-append}
use Rattle.sql_model.specs.declared.scripts.Numbered.{Numbered}
use Rattle.sql_model.specs.declared.scripts.Step.{Step}
use Rattle.sql_model.specs.declared.scripts.Step.TheVariants.{One}
use Rattle.lake_model.specs.State.{Noted, opening}
use Rattle.sql_model.specs.declared.replies.Reply.{Reply}
use Rattle.lake_model.specs.Allowed.{IsLegal}
use Rattle.lake_model.specs.Replies.{text_of_reply}
use Rattle.lake_model.specs.Following.{Follows, statements}
use Rattle.lake_model.specs.Text.{text}
use Rattle.sql_model.proofs.Lists.{all_append, all_weaker}
use Rattle.lake_model.proofs.Steps.{legal_more, follows_more, text_more, text_kept}
use Rattle.lake_core.specs.Lakes.{Lake}
use Rattle.lake_session.specs.Runs.{IsRunBy}
use Rattle.lake_script.specs.Scripts.{AreInTurn, IsRunnable}
use Rattle.lake_script.specs.Headline.{HasRun, HasHalted, HasBegun}
use Rattle.lake_script.specs.Steps.{RanStep, StoppedStep}
use Rattle.lake_script.proofs.Stopping.{text_of_run}
use Rattle.lake_script.proofs.Streams.{appends_more, appends_none}

-- the first `count` steps have run
pub record Progress (before after : Option (List ℕ)) (entries : List Noted) (steps : List Step) (count : ℕ) : Type 0 where
  pub legal : IsLegal true entries
  pub follows : Follows true entries (take count steps)
  pub text : Appends before after (text entries (take count steps))
  pub numbered : AreInTurn (count + 1) (drop count steps)
  pub below : AllByRecursion (λ m. m.place < count + 1) (statements (take count steps))
  pub few : length entries ≤ 3 * count

pub no_progress : (written : Option (List ℕ)) (steps : List Step) → AreInTurn 1 steps → Progress written written [] steps 0
no_progress written steps numbered = record {
  legal = tt;
  follows = record { runs = tt; no_others = tt; order = tt };
  text = appends_none written;
  numbered = numbered;
  below = tt;
  few = omega arith;
}

take_next : (steps : List Step) (count : ℕ) (step : Step) → count < length steps → step ≡ get_or steps count step →
    (take (count + 1) steps ≡ take count steps ++ step ∷ []) × (drop count steps ≡ step ∷ drop (count + 1) steps)
take_next [] count step h e = absurd (omega arith)
take_next (x ∷ steps) zero step h e = (ap (λ (s : Step). s ∷ []) (sym e), ap (λ (s : Step). s ∷ steps) (sym e))
take_next (x ∷ steps) (suc count) step h e =
    let next = take_next steps count step (omega arith) e in
    let more : suc count + 1 ≡ suc (count + 1) = omega arith in (
      ap (λ (k : ℕ). take k (x ∷ steps)) more ∙ ap (λ (xs : List Step). x ∷ xs) next.0,
      next.1 ∙ ap (λ (k : ℕ). step ∷ drop k (x ∷ steps)) (sym more),
    )

-- what is left behind fewer than all
some_left : (xs : List ℕ) (k : ℕ) → k < length xs → (y : ℕ) × (rest : List ℕ) × (drop k xs ≡ y ∷ rest)
some_left [] k h = absurd (omega arith)
some_left (x ∷ xs) zero h = (x, xs, refl)
some_left (x ∷ xs) (suc k) h = some_left xs k (omega arith)

-- an item of the steps that is a statement
pub step_is : (steps : List Step) (index : ℕ) (item : Step) (n : Numbered) → item ≡ get_or steps index item → item ≡ One n → One n ≡ get_or steps index (One n)
step_is steps index item n there one = sym one ∙ there ∙ ap (λ (d : Step). get_or steps index d) one

next_numbered : (before after : Option (List ℕ)) (entries : List Noted) (steps : List Step) (count : ℕ) (n : Numbered) → Progress before after entries steps count → count < length steps → One n ≡ get_or steps count (One n) →
    AreInTurn (count + 1) (One n ∷ drop (count + 1) steps)
next_numbered before after entries steps count n so_far h is = let P : List Step → Type 0 = λ xs. AreInTurn (count + 1) xs in subst P (take_next steps count (One n) h is).1 so_far.numbered

-- the next statement is one that a session runs
pub next_runnable : (before after : Option (List ℕ)) (entries : List Noted) (steps : List Step) (count : ℕ) (n : Numbered) → Progress before after entries steps count → count < length steps → One n ≡ get_or steps count (One n) → IsRunnable n
next_runnable before after entries steps count n so_far h is = (next_numbered before after entries steps count n so_far h is).1

module _ (before middle after : Option (List ℕ)) (old new : Lake) (steps : List Step) (count : ℕ) (n : Numbered)
    (so_far : Progress before middle old.entries steps count) (h : count < length steps) (is : One n ≡ get_or steps count (One n)) where
  done_now : take (count + 1) steps ≡ take count steps ++ One n ∷ []
  done_now = (take_next steps count (One n) h is).0

  numbered_now : AreInTurn (count + 1) (One n ∷ drop (count + 1) steps)
  numbered_now = next_numbered before middle old.entries steps count n so_far h is

  below_now : AllByRecursion (λ m. m.place < n.place) (statements (take count steps))
  below_now = all_weaker (statements (take count steps)) (λ m less. omega (arith, less, numbered_now.0)) so_far.below

  pub one_more : RanStep old new n middle after → Progress before after new.entries steps (count + 1)
  one_more step =
      let by = step.ran.by in
      let entries = old.entries in
      let shown = subst (Appends middle after) (sym (text_of_run entries new.entries n step.reply by)) step.written in
      let P : List Noted → Type 0 = λ es. Progress before after es steps (count + 1) in
      subst P (sym by.added) record {
        legal = legal_more true opening entries by.run
            (take count steps) n so_far.follows below_now by.answered so_far.legal;
        follows = (let Q : List Step → Type 0 = λ xs. Follows true (entries ++ by.run) xs in
            subst Q (sym done_now)
            (follows_more true opening entries by.run
            (take count steps) n so_far.follows below_now by.answered));
        text = (let Q : List ℕ → Type 0 = λ bytes. Appends before after bytes in
            subst Q (sym (ap (text (entries ++ by.run)) done_now
            ∙ text_more true opening entries by.run
            (take count steps) n so_far.follows below_now by.answered))
            (appends_more before middle after _ _ so_far.text shown));
        numbered = numbered_now.2;
        below = (let Q : List Numbered → Type 0 = λ ns. AllByRecursion (λ m. m.place < count + 1 + 1) ns in
            subst Q (sym (ap statements done_now ∙ flat_map-append _ (take count steps) (One n ∷ [])))
            (all_append _ (statements (take count steps)) (n ∷ []) (all_weaker (statements (take count steps)) (λ m less. omega (arith, less)) so_far.below) (omega (arith, numbered_now.0), tt)));
        few = omega (arith, so_far.few, by.few, length-append entries by.run);
      }

  first_steps : steps ≡ (take count steps ++ One n ∷ []) ++ drop (count + 1) steps
  first_steps = sym (ap (λ (xs : List Step). xs ++ drop (count + 1) steps) (sym done_now) ∙ take-append-drop (count + 1) steps)

  -- the text with the statement: what was written before, and its reply
  text_now : (reply : Reply) (by : IsRunBy old.entries new.entries n reply) → text (old.entries ++ by.run) (take count steps ++ One n ∷ []) ≡ text old.entries (take count steps) ++ text_of_reply n.place reply
  text_now reply by =
      text_more true opening old.entries by.run
      (take count steps) n so_far.follows below_now by.answered
      ∙ ap (λ (bytes : List ℕ). text old.entries (take count steps) ++ bytes) (text_of_run old.entries new.entries n reply by)

  pub halts : StoppedStep ◌<◌ old new n middle after → HasHalted before after new.entries steps
  halts stopped =
      let by = stopped.ran.by in
      let entries = old.entries in
      let reply : List ℕ = text_of_reply n.place stopped.reply in
      let left = some_left reply stopped.taken stopped.within in
      let P : List Noted → Type 0 = λ es. HasHalted before after es steps in
      subst P (sym by.added) record {
        done = take count steps;
        last = One n;
        rest = drop (count + 1) steps;
        first = first_steps ∙ append_assoc (take count steps) (One n ∷ []) (drop (count + 1) steps);
        legal = legal_more true opening entries by.run
            (take count steps) n so_far.follows below_now by.answered so_far.legal;
        follows = follows_more true opening entries by.run
            (take count steps) n so_far.follows below_now by.answered;
        written = text entries (take count steps) ++ take stopped.taken reply;
        appended = appends_more before middle after _ _ so_far.text stopped.written;
        at_least = (
          take stopped.taken reply,
          ap (λ (bytes : List ℕ). bytes ++ take stopped.taken reply)
              (sym (text_kept true opening entries by.run
              (take count steps) n so_far.follows below_now by.answered)),
        );
        less = (
          left.0,
          left.1,
          text_now stopped.reply by
              ∙ ap (λ (bytes : List ℕ). text entries (take count steps) ++ bytes) (sym (take-append-drop stopped.taken reply) ∙ ap (λ (bytes : List ℕ). take stopped.taken reply ++ bytes) left.2)
              ∙ sym (append_assoc (text entries (take count steps)) (take stopped.taken reply) (left.0 ∷ left.1)),
        );
      }

  pub begins : StoppedStep ◌≤◌ old new n middle after → HasBegun before after steps
  begins stopped =
      let by = stopped.ran.by in
      let entries = old.entries in
      let reply : List ℕ = text_of_reply n.place stopped.reply in
      record {
        done = take count steps ++ One n ∷ [];
        rest = drop (count + 1) steps;
        first = first_steps;
        entries = entries ++ by.run;
        legal = legal_more true opening entries by.run
            (take count steps) n so_far.follows below_now by.answered so_far.legal;
        follows = follows_more true opening entries by.run
            (take count steps) n so_far.follows below_now by.answered;
        written = text entries (take count steps) ++ take stopped.taken reply;
        appended = appends_more before middle after _ _ so_far.text stopped.written;
        part = (
          drop stopped.taken reply,
          text_now stopped.reply by
              ∙ ap (λ (bytes : List ℕ). text entries (take count steps) ++ bytes) (sym (take-append-drop stopped.taken reply))
              ∙ sym (append_assoc (text entries (take count steps)) (take stopped.taken reply) (drop stopped.taken reply)),
        );
      }

  pub begins_before : middle ≡ after → HasBegun before after steps
  begins_before same = record {
    done = take count steps;
    rest = drop count steps;
    first = sym (take-append-drop count steps);
    entries = old.entries;
    legal = so_far.legal;
    follows = so_far.follows;
    written = text old.entries (take count steps);
    appended = (let P : Option (List ℕ) → Type 0 = λ o. Appends before o (text old.entries (take count steps)) in subst P same so_far.text);
    part = ([], sym (append-nil (text old.entries (take count steps))));
  }

-- no step has run, and none of the first text was written
pub none_begun : (written : Option (List ℕ)) (steps : List Step) → HasBegun written written steps
none_begun written steps = record {
  done = [];
  rest = steps;
  first = refl;
  entries = [];
  legal = tt;
  follows = record { runs = tt; no_others = tt; order = tt };
  written = [];
  appended = appends_none written;
  part = ([], refl);
}

-- all steps have run
pub has_run : (before after : Option (List ℕ)) (entries : List Noted) (steps : List Step) (count : ℕ) → Progress before after entries steps count → length steps ≤ count → HasRun before after entries steps
has_run before after entries steps count so_far h =
    let all : take count steps ≡ steps = take_all count steps h in
    record {
      legal = so_far.legal;
      follows =
          (let P : List Step → Type 0 = λ xs. Follows true entries xs in
          subst P all so_far.follows);
      text = (let P : List Step → Type 0 = λ xs. Appends before after (text entries xs) in subst P all so_far.text);
    }
