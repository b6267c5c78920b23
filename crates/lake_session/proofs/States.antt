-- What an entry makes of its own session's transaction.
use Rattle.std.proofs.Common.{◌≡◌, ℕ, ◌+◌, ◌≤◌, Bool, true, false, not, ◌&&◌, nat_eq, eq-eqb, cond, List, [], ◌∷◌, None, Some, Option, filter, refl, sym, ap, ◌∙◌, subst, arith, if◌then◌else◌}
use Rattle.std.specs.Prelude.{IfSome, IsSome, IsNone}
use Rattle.std.specs.Option.{option_map_or}
use Rattle.sql_model.specs.declared.changes.Change.{Change}
use Rattle.lake_model.specs.declared.entries.Fact.{Fact}
use Rattle.lake_model.specs.declared.entries.Fact.TheVariants.{Committed, Conflict, Ended}
use Rattle.sql_model.specs.declared.replies.Reply.{Reply}
use Rattle.sql_model.specs.declared.replies.Reply.TheVariants.{Wrote}
use Rattle.sql_model.specs.Changes.{is_unchanged, version_after}
use Rattle.sql_model.specs.Units.{units_of}
use Rattle.lake_model.specs.Conflicts.{first_conflict}
use Rattle.lake_model.specs.State.{State, Transaction, after_fact, after_ran, after_stop, ended, is_inside, last, newest, next_part, opened_by, parts_of, transaction, turned, with_part, with_version}
use Rattle.lake_core.specs.Facts.{commit_or_conflict, commitment, ending}
use Rattle.lake_core.specs.Lakes.{IsExplicit}

pub some_there : {X : Type 0} (o : Option X) → IsSome o → (x : X) × (o ≡ Some x)
some_there None some = absurd cc
some_there (Some x) some = (x, refl)

pub none_there : {X : Type 0} (o : Option X) → IsNone o → o ≡ None
none_there None none = refl
none_there (Some x) none = absurd cc

-- if the session has a transaction behind the entries, it is explicit, and has at most one part more than before them
pub record GoesOn (before behind : State) (session : ℕ) : Type 0 where
  pub explicit : IsExplicit behind session
  pub parts : next_part behind session ≤ next_part before session + 1

module _ (session : ℕ) where
  none_left : (os : List (ℕ × Transaction)) → opened_by session (filter (λ o. not (nat_eq o.0 session)) os) ≡ None
  none_left [] = refl
  none_left (o ∷ os) =
      elim (nat_eq o.0 session) as (λ b. nat_eq o.0 session ≡ b → opened_by session (cond (not b) (o ∷ filter (λ o. not (nat_eq o.0 session)) os) (filter (λ o. not (nat_eq o.0 session)) os)) ≡ None) [
        | true ↦ λ e. none_left os
        | false ↦ λ e. ap (λ (b : Bool). if b then Some o.1 else opened_by session (filter (λ o. not (nat_eq o.0 session)) os)) e ∙ none_left os
      ] refl

  pub ended_none : (st : State) → transaction (ended session st) session ≡ None
  ended_none st = none_left st.running

  pub turned_some : (t : Transaction) (st : State) → transaction (turned session t st) session ≡ Some t
  turned_some t st = ap (λ (b : Bool). if b then Some t else transaction (ended session st) session) (eq-eqb session session refl)

  -- the session stands inside an explicit transaction

  pub inside_of : (st : State) (t : Transaction) → transaction st session ≡ Some t → IsExplicit st session → (t.explicit ≡ true) × (is_inside st session ≡ true)
  inside_of st t is explicit =
      let P : Option Transaction → Type 0 = λ o. IfSome o (λ t. t.explicit ≡ true) in
      let own : t.explicit ≡ true = subst P is explicit in
      (own, ap (λ (o : Option Transaction). option_map_or (λ t. t.explicit) o false) is ∙ own)

  pub outside_of : (st : State) → transaction st session ≡ None → is_inside st session ≡ false
  outside_of st is = ap (λ (o : Option Transaction). option_map_or (λ t. t.explicit) o false) is

  -- how the session goes on

  pub gone : (before behind : State) → transaction behind session ≡ None → GoesOn before behind session
  gone before behind is =
      let P : Option Transaction → Type 0 = λ o. IfSome o (λ t. t.explicit ≡ true) in
      let first : next_part behind session ≡ 1 = ap (λ (o : Option Transaction). option_map_or (λ t. t.parts + 1) o 1) is in
      record { explicit = subst P (sym is) tt; parts = omega (arith, first) }

  pub has_begun : (before behind : State) (t : Transaction) → transaction behind session ≡ Some t → t.explicit ≡ true → t.parts ≡ 0 → GoesOn before behind session
  has_begun before behind t is explicit none =
      let P : Option Transaction → Type 0 = λ o. IfSome o (λ t. t.explicit ≡ true) in
      let first : next_part behind session ≡ t.parts + 1 = ap (λ (o : Option Transaction). option_map_or (λ t. t.parts + 1) o 1) is in
      record { explicit = subst P (sym is) explicit; parts = omega (arith, first, none) }

  pub still_there : (before behind : State) (t t' : Transaction) → transaction before session ≡ Some t → transaction behind session ≡ Some t' → t'.explicit ≡ true → t'.parts ≤ t.parts + 1 → GoesOn before behind session
  still_there before behind t t' was is explicit more =
      let P : Option Transaction → Type 0 = λ o. IfSome o (λ t. t.explicit ≡ true) in
      let parts_of : Option Transaction → ℕ = λ o. option_map_or (λ t. t.parts + 1) o 1 in
      let old : next_part before session ≡ t.parts + 1 = ap parts_of was in
      let new : next_part behind session ≡ t'.parts + 1 = ap parts_of is in
      record { explicit = subst P (sym is) explicit; parts = omega (arith, old, new, more) }

  pub unchanged : (st st' : State) → st' ≡ st → IsExplicit st session → GoesOn st st' session
  unchanged st st' same explicit =
      let P : State → Type 0 = λ s. GoesOn st s session in
      subst P (sym same) (record { explicit = explicit; parts = omega arith })

  -- a refusal

  part_more : (st : State) (t : Transaction) → transaction st session ≡ Some t → (stays : Bool) → stays ≡ true → t.explicit ≡ true →
      GoesOn st (if stays && not false then turned session (record t { parts = t.parts + 1 }) st else ended session st) session
  part_more st t was true stay explicit = still_there st (turned session (record t { parts = t.parts + 1 }) st) t (record t { parts = t.parts + 1 }) was (turned_some (record t { parts = t.parts + 1 }) st) explicit (omega arith)
  part_more st t was false stay explicit = absurd cc

  pub stopped : (st : State) → IsExplicit st session → GoesOn st (after_stop session false st) session
  stopped st explicit =
      let behind : Option Transaction → State = λ o. option_map_or (λ t. if t.explicit && not false then turned session (record t { parts = t.parts + 1 }) st else ended session st) o st in
      let P : Option Transaction → Type 0 = λ o. GoesOn st (behind o) session in
      elim (transaction st session) as (λ o. transaction st session ≡ o → P (transaction st session)) [
        | None ↦ λ is. subst P (sym is) (unchanged st st refl explicit)
        | Some t ↦ λ is. let own = (inside_of st t is explicit).0 in subst P (sym is) (part_more st t is t.explicit own own)
      ] refl

  alone_ends : (st : State) (alone : Bool) (t : Transaction) → alone ≡ false → transaction (if alone && not false then turned session (record t { parts = t.parts + 1 }) st else ended session st) session ≡ None
  alone_ends st true t is = absurd cc
  alone_ends st false t is = ended_none st

  -- a transaction that was opened for one statement ends
  pub stopped_alone : (st : State) (t : Transaction) → transaction st session ≡ Some t → t.explicit ≡ false → transaction (after_stop session false st) session ≡ None
  stopped_alone st t is alone =
      ap (λ (o : Option Transaction). transaction (option_map_or (λ t. if t.explicit && not false then turned session (record t { parts = t.parts + 1 }) st else ended session st) o st) session) is
      ∙ alone_ends st t.explicit t alone

  -- a statement that ran

  parts_at_most : (r : Reply) → parts_of r ≤ 1
  parts_at_most (Wrote verb count seq) = omega arith
  parts_at_most r = omega arith

  pub ran_there : (st : State) (t : Transaction) (r : Reply) (change : Change) → transaction st session ≡ Some t → transaction (after_ran session r change st) session ≡ Some (with_part r change t)
  ran_there st t r change is =
      ap (λ (o : Option Transaction). transaction (option_map_or (λ t. turned session (with_part r change t) st) o st) session) is
      ∙ turned_some (with_part r change t) st

  pub ran_on : (st : State) (t : Transaction) (r : Reply) (change : Change) → transaction st session ≡ Some t → t.explicit ≡ true → GoesOn st (after_ran session r change st) session
  ran_on st t r change is explicit = still_there st (after_ran session r change st) t (with_part r change t) is (ran_there st t r change is) explicit (omega (arith, parts_at_most r))

  -- the end of a transaction

  pub each_end : (st : State) (t : Transaction) (P : Fact → Type 0) → (is_unchanged t.pending ≡ true → P Ended) → (is_unchanged t.pending ≡ false → (seq : ℕ) → P (Conflict seq)) →
      (is_unchanged t.pending ≡ false → P (Committed (last st + 1) [] [])) → P (ending st t)
  each_end st t P at_end at_conflict at_commit =
      elim (is_unchanged t.pending) as (λ b. is_unchanged t.pending ≡ b → P (if b then Ended else commit_or_conflict st (first_conflict st t.snapshot (units_of t.pending)))) [
        | true ↦ λ same. at_end same
        | false ↦ λ changed.
            elim (first_conflict st t.snapshot (units_of t.pending)) as (λ o. P (commit_or_conflict st o)) [
              | None ↦ at_commit changed
              | Some seq ↦ at_conflict changed seq
            ]
      ] refl

  pub is_ending : (st : State) (t : Transaction) → transaction st session ≡ Some t → commitment st session ≡ ending st t
  is_ending st t is = ap (λ (o : Option Transaction). option_map_or (ending st) o Ended) is

  pub committed_none : (st : State) (t : Transaction) (seq : ℕ) → transaction st session ≡ Some t → transaction (after_fact session false (Committed seq [] []) st) session ≡ None
  committed_none st t seq is =
      ap (λ (o : Option Transaction). transaction (option_map_or (λ t. ended session (with_version (version_after (last st + 1) t.pending t.worn (newest st)) [] [] st)) o st) session) is
      ∙ ended_none (with_version (version_after (last st + 1) t.pending t.worn (newest st)) [] [] st)

  pub ending_none : (st : State) (t : Transaction) → transaction st session ≡ Some t → transaction (after_fact session false (ending st t) st) session ≡ None
  ending_none st t is =
      each_end st t (λ f. transaction (after_fact session false f st) session ≡ None) (λ same. ended_none st) (λ changed seq. ended_none st)
      (λ changed. committed_none st t (last st + 1) is)

  pub commitment_none : (st : State) (t : Transaction) → transaction st session ≡ Some t → transaction (after_fact session false (commitment st session) st) session ≡ None
  commitment_none st t is = ap (λ (f : Fact). transaction (after_fact session false f st) session) (is_ending st t is) ∙ ending_none st t is
