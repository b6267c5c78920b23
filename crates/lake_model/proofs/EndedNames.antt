-- The names that versions have are of transactions that have ended.
use Rattle.std.proofs.Common.{◌≡◌, ◌≢◌, ℕ, zero, suc, ◌+◌, ◌<◌, ◌≤◌, Bool, true, false, ◌&&◌, not}
use Rattle.std.proofs.Common.{nat_eq, List, []}
use Rattle.std.proofs.Common.{◌∷◌, ◌++◌, Option, None, Some, IsSomeAnd, filter, unwrap_or, refl}
use Rattle.std.proofs.Common.{sym, ap, ◌∙◌, subst}
use Rattle.std.proofs.Common.{arith, cond, if◌then◌else◌}
use Rattle.std.proofs.lemmas.Bool.{eqb-true}
use Rattle.std.specs.Prelude.{slice_get}
use Rattle.std.specs.List.{AllByRecursion, list_all, list_any}
use Rattle.std.specs.Option.{option_map_or}
use Rattle.lake_values.specs.declared.names.Name.{Name}
use Rattle.lake_values.specs.Names.{is_among, is_ascending}
use Rattle.sql_model.specs.Changes.{no_change, version_after}
use Rattle.sql_model.specs.Versions.{Table, Version}
use Rattle.sql_model.proofs.Lists.{all_append, all_both, all_filter, all_weaker}
use Rattle.lake_model.specs.declared.entries.Fact.{Fact}
use Rattle.lake_model.specs.declared.entries.Fact.TheVariants.{Created, Began, Ran, Committed}
use Rattle.lake_model.specs.declared.entries.Fact.TheVariants.{Conflict, Ended}
use Rattle.lake_model.specs.declared.entries.Fact.TheVariants.{RolledBack, Refused, Failed}
use Rattle.lake_model.specs.declared.entries.Fact.TheVariants.{Compacted, Checkpointed}
use Rattle.lake_model.specs.declared.entries.Fact.TheVariants.{Collected}
use Rattle.lake_model.specs.Allowed.{IsAllowedFact, IsLegalFrom, can_rename, is_new_name}
use Rattle.lake_model.specs.Allowed.{MayCommit, MayCompact}
use Rattle.lake_model.specs.Compactions.{version_compacted}
use Rattle.lake_model.specs.Laws.{IsSound, NamesAreOfEnded, NamesHaveEnded}
use Rattle.lake_model.specs.Names.{holds_rows, names_after}
use Rattle.lake_model.specs.State.{State, Noted, Transaction, after, after_fact, ended, last}
use Rattle.lake_model.specs.State.{last_names, newest, opened_by}
use Rattle.lake_model.specs.State.{opening, state_from, transaction, turned, with_part}
use Rattle.lake_model.specs.State.{with_version}
use Rattle.lake_model.proofs.Sound.{opened_all, other_numbers, others, sound_after, sound_opening}

-- what holds of every name of every version
abbrev Every : (Name → Type 0) → List (List Name) → Type 0
Every P names = AllByRecursion (λ ns. AllByRecursion P ns) names

every_at : (P : Name → Type 0) (names : List (List Name)) (n : ℕ) → Every P names → AllByRecursion P
    (unwrap_or (slice_get names n) [])
every_at P [] n all = tt
every_at P (ns ∷ nss) zero all = all.0
every_at P (ns ∷ nss) (suc n) all = every_at P nss n all.1

-- a version more
every_more : (P : Name → Type 0) (st : State) (dropped added : List Name) → Every P st.names →
    AllByRecursion P added → Every P (st.names ++ names_after dropped added (last_names st) ∷ [])
every_more P st dropped added all new =
    all_append (λ ns. AllByRecursion P ns) st.names (names_after dropped added (last_names st) ∷ [])
    all (
      all_append P (filter (λ n. not (is_among n dropped)) (last_names st)) added
          (all_filter P (λ n. not (is_among n dropped)) (last_names st)
          (every_at P st.names (last st) all)) new,
      tt,
    )

-- no name has the number
abbrev Without : List (List Name) → ℕ → Type 0
Without names number = Every (λ n. nat_eq n.txn number ≡ false) names

-- versions whose added names are those of a transaction that ends
module _ (session : ℕ) (t : Transaction) (v : Version) (dropped added : List Name) (st : State)
    (sound : IsSound st) (opened : transaction st session ≡ Some t)
    (mine : AllByRecursion (λ n. nat_eq n.txn t.number ≡ true) added) (was : NamesAreOfEnded st)
  where
    number : t.number ≤ st.last_number
    number = opened_all (λ u. u.number ≤ st.last_number) session st.running t sound.given opened

    within : (n a l : ℕ) → nat_eq n a ≡ true → a ≤ l → n ≤ l
    within n a l e le = grind arith

    differ : (n a b : ℕ) → nat_eq n a ≡ true → b ≢ a → nat_eq n b ≡ false
    differ n a b e off = elim (nat_eq n b) as (λ c. nat_eq n b ≡ c → c ≡ false) [
      | true ↦ λ h. absurd (off (sym (eqb-true n b h) ∙ eqb-true n a e))
      | false ↦ λ h. refl
    ] refl

    committed_names : NamesAreOfEnded (ended session (with_version v dropped added st))
    committed_names = record {
      given = every_more (λ n. n.txn ≤ st.last_number) st dropped added was.given
          (all_weaker added (λ n e. within n.txn t.number st.last_number e number) mine);
      ended = all_both (others session st.running)
          (λ o off before. every_more (λ n. nat_eq n.txn o.1.number ≡ false) st dropped added before
          (all_weaker added (λ n e. differ n.txn t.number o.1.number e off) mine))
          (other_numbers session st.running t sound.numbers opened)
          (all_filter (λ o. Without st.names o.1.number) (λ o. not (nat_eq o.0 session)) st.running
          was.ended);
    }

-- the names that a commit may add are its transaction's

and_left : (a b : Bool) → a && b ≡ true → a ≡ true
and_left true b e = refl
and_left false b e = absurd cc

and_right : (a b : Bool) → a && b ≡ true → b ≡ true
and_right true b e = e
and_right false b e = absurd cc

middle : (a b c : Bool) → (a && b && c) ≡ true → b ≡ true
middle true true c e = refl
middle true false c e = absurd cc
middle false b c e = absurd cc

first : (a b c : Bool) → (a && b && c) ≡ true → a ≡ true
first true b c e = refl
first false true c e = absurd cc
first false false c e = absurd cc

new_names : (st : State) (mine : ℕ) (names : List Name) → list_all (is_new_name st mine) names ≡
    true → AllByRecursion (λ n. nat_eq n.txn mine ≡ true) names
new_names st mine [] e = tt
new_names st mine (n ∷ ns) e = (
  middle (holds_rows n) (nat_eq n.txn mine) (not (list_any (is_among n) st.names))
      (and_left (is_new_name st mine n) (list_all (is_new_name st mine) ns) e),
  new_names st mine ns (and_right (is_new_name st mine n) (list_all (is_new_name st mine) ns) e),
)

renamed : (st : State) (mine : ℕ) (added dropped : List Name) → can_rename st mine added dropped ≡
    true → AllByRecursion (λ n. nat_eq n.txn mine ≡ true) added
renamed st mine added dropped e =
    new_names st mine added (first (list_all (is_new_name st mine) added) (is_ascending added)
    (is_ascending dropped) e)

-- a transaction ends, goes on or begins

ended_names : (session : ℕ) (st : State) → NamesAreOfEnded st → NamesAreOfEnded (ended session st)
ended_names session st was = record {
  given = was.given;
  ended = all_filter (λ o. Without st.names o.1.number) (λ o. not (nat_eq o.0 session)) st.running
      was.ended;
}

turned_names : (session : ℕ) (t t' : Transaction) (st : State) → transaction st session ≡ Some t →
    t'.number ≡ t.number → NamesAreOfEnded st → NamesAreOfEnded (turned session t' st)
turned_names session t t' st opened number was = record {
  given = was.given;
  ended = (
    subst (λ (n : ℕ). Without st.names n) (sym number)
        (opened_all (λ u. Without st.names u.number) session st.running t was.ended opened),
    (ended_names session st was).ended,
  );
}

began_names : (session number : ℕ) (t : Transaction) (st : State) → t.number ≡ number → number ≡
    st.last_number + 1 → NamesAreOfEnded st → NamesAreOfEnded
    (record (turned session t st) { last_number = number })
began_names session number t st is next was = record {
  given = all_weaker st.names
      (λ ns all. all_weaker ns (λ n le. omega (arith, le, next)) all) was.given;
  ended = (
    all_weaker st.names
        (λ ns all. all_weaker ns (λ n le. newer n.txn t.number st.last_number le is next) all)
        was.given,
    (ended_names session st was).ended,
  );
}
  where
    newer : (n a l : ℕ) → n ≤ l → a ≡ number → number ≡ l + 1 → nat_eq n a ≡ false
    newer n a l le is next = grind arith

-- an entry that is allowed

ran_names : (session : ℕ) (f : Transaction → Transaction) (st : State) (o : Option Transaction) →
    transaction st session ≡ o → ((t : Transaction) → (f t).number ≡ t.number) → NamesAreOfEnded st
    →
    NamesAreOfEnded (option_map_or (λ t. turned session (f t) st) o st)
ran_names session f st None is same was = was
ran_names session f st (Some t) is same was = turned_names session t (f t) st is (same t) was

commit_names : (told : Bool) (session seq : ℕ) (dropped added : List Name) (st : State)
    (o : Option Transaction) → transaction st session ≡ o → IsSound st → IsSomeAnd o
    (MayCommit told st seq added dropped) → NamesAreOfEnded st → NamesAreOfEnded (option_map_or
    (λ t. ended session (with_version (version_after (last st + 1) t.pending t.worn (newest st))
    dropped added st)) o st)
commit_names told session seq dropped added st None is sound may was = was
commit_names told session seq dropped added st (Some t) is sound may was =
    committed_names session t (version_after (last st + 1) t.pending t.worn (newest st)) dropped
    added st sound is (renamed st t.number added dropped may.renames) was

compact_names : (told : Bool) (session : ℕ) (table cells : List ℕ) (v : Version) (seq : ℕ)
    (marks : List _) (dropped added : List Name) (st : State) (o : Option Transaction) → transaction
    st session ≡ o → IsSound st → IsSomeAnd o
    (MayCompact told st table cells marks seq added dropped) → NamesAreOfEnded st → NamesAreOfEnded
    (ended session (with_version v dropped added st))
compact_names told session table cells v seq marks dropped added st None is sound may was =
    absurd may
compact_names told session table cells v seq marks dropped added st (Some t) is sound may was =
    committed_names session t v dropped added st sound is
    (renamed st t.number added dropped may.renames) was

stop_names : (session : ℕ) (ends : Bool) (st : State) (o : Option Transaction) → transaction st
    session ≡ o → NamesAreOfEnded st → NamesAreOfEnded
    (option_map_or (λ t. if t.explicit && not ends
    then turned session (record t { parts = t.parts + 1 }) st else ended session st) o st)
stop_names session ends st None is was = was
stop_names session ends st (Some t) is was =
    elim (t.explicit && not ends) as (λ b. NamesAreOfEnded
    (if b then turned session (record t { parts = t.parts + 1 }) st else ended session st)) [
      | true ↦ turned_names session t (record t { parts = t.parts + 1 }) st is refl was
      | false ↦ ended_names session st was
    ]

fact_names : (told : Bool) (session : ℕ) (ends : Bool) (f : Fact) (st : State) → IsSound st →
    IsAllowedFact told st session f → NamesAreOfEnded st → NamesAreOfEnded
    (after_fact session ends f st)
fact_names told session ends (Created table schema seq) st sound allowed was = record {
  given = every_more (λ n. n.txn ≤ st.last_number) st [] [] was.given tt;
  ended = all_weaker st.running
      (λ o all. every_more (λ n. nat_eq n.txn o.1.number ≡ false) st [] [] all tt) was.ended;
}
fact_names told session ends (Began explicit txn snapshot) st sound allowed was =
    began_names session txn (record {
      explicit = explicit;
      number = txn;
      snapshot = snapshot;
      pending = no_change;
      worn = [];
      parts = 0;
    }) st refl allowed.1 was
fact_names told session ends (Ran reply change) st sound allowed was =
    ran_names session (with_part reply change) st (transaction st session) refl (λ t. refl) was
fact_names told session ends (Committed seq added dropped) st sound allowed was =
    commit_names told session seq dropped added st (transaction st session) refl sound allowed was
fact_names told session ends (Conflict seq) st sound allowed was = ended_names session st was
fact_names told session ends Ended st sound allowed was = ended_names session st was
fact_names told session ends RolledBack st sound allowed was = ended_names session st was
fact_names told session ends (Refused cause) st sound allowed was =
    stop_names session false st (transaction st session) refl was
fact_names told session ends (Failed cause) st sound allowed was =
    stop_names session ends st (transaction st session) refl was
fact_names told session ends (Compacted table cells marks seq added dropped) st sound allowed was =
    compact_names told session table cells (version_compacted table (last st + 1) marks (newest st))
    seq marks dropped added st (transaction st session) refl sound allowed was
fact_names told session ends (Checkpointed table at name) st sound allowed was =
    let left = ended_names session st was in record { given = left.given; ended = left.ended }
fact_names told session ends (Collected names floor) st sound allowed was =
    record { given = was.given; ended = was.ended }

names_from : (told : Bool) (st : State) (entries : List Noted) → IsSound st → NamesAreOfEnded st →
    IsLegalFrom told st entries → NamesAreOfEnded (state_from st entries)
names_from told st [] sound was legal = was
names_from told st (e ∷ es) sound was legal =
    names_from told (after st e) es (sound_after told st e sound legal.0)
    (fact_names told e.entry.session e.ends e.entry.fact st sound legal.0 was) legal.1

pub names_have_ended : NamesHaveEnded
names_have_ended told entries legal =
    names_from told opening entries sound_opening (record { given = (tt, tt); ended = tt }) legal
