-- Of two commits that wrote one unit, the later one's transaction saw the earlier.
use Rattle.std.proofs.Common.{◌≡◌, ℕ, zero, suc, ◌+◌, ◌-◌, ◌<◌, ◌≤◌, Bool, true, false, cond, List, [], ◌∷◌, ◌++◌, None, Some, Option, length, refl, ◌⊎◌, ⊎_elim, append_assoc, ap, ◌∙◌, subst, inl, inr, arith}
use Rattle.std.proofs.lemmas.Bool.{cases_lt}
use Rattle.std.specs.Prelude.{find, IfSome, IsSomeAnd}
use Rattle.std.specs.Option.{option_map_or}
use Rattle.std.specs.List.{AllByRecursion}
use Rattle.lake_values.specs.declared.names.Name.{Name}
use Rattle.lake_model.specs.declared.entries.Fact.{Fact}
use Rattle.lake_model.specs.declared.entries.Fact.TheVariants.{Committed, Compacted}
use Rattle.sql_model.specs.declared.changes.Mark.{Mark}
use Rattle.lake_model.specs.Allowed.{IsAllowedFact, IsLegalFrom, MayCommit, MayCompact}
use Rattle.sql_model.specs.Changes.{version_after}
use Rattle.lake_model.specs.Compactions.{version_compacted}
use Rattle.sql_model.specs.Listing.{numbers}
use Rattle.lake_model.specs.Conflicts.{commits_after, wrote_one, first_conflict}
use Rattle.lake_model.specs.Laws.{IsSound, commit_of, SawEarlier, CommitsFirst, FirstCommitterWins}
use Rattle.lake_model.specs.State.{State, Noted, Transaction, opening, with_version, ended, last, newest, version_at, transaction, after_fact, after, state_from, stated}
use Rattle.sql_model.specs.Versions.{Version, wrote}
use Rattle.sql_model.specs.Units.{share_unit}
use Rattle.lake_model.proofs.Growth.{IsGrown, version_kept, version_made, state_grown}
use Rattle.lake_model.proofs.Sound.{sound_after, sound_opening}

-- what is not found passes nowhere
none_found : {X : Type 0} (p : X → Bool) (xs : List X) → find p xs ≡ None → AllByRecursion (λ x. p x ≡ false) xs
none_found p [] e = tt
none_found p (x ∷ xs) e =
    elim (p x) as (λ b. cond b (Some x) (find p xs) ≡ None → (b ≡ false) × AllByRecursion (λ x. p x ≡ false) xs) [
      | true ↦ λ f. absurd cc
      | false ↦ λ f. (refl, none_found p xs f)
    ] e

each_number : (P : ℕ → Type 0) (from count : ℕ) → AllByRecursion P (numbers from count) → (m : ℕ) → from ≤ m → m < from + count → P m
each_number P from zero all m low high = absurd (omega arith)
each_number P from (suc count) all m low high =
    ⊎_elim (λ less. each_number P (from + 1) count all.1 m (omega arith) (omega arith)) (λ first. let same : from ≡ m = omega arith in subst P same all.0) (cases_lt from m)

-- what a transaction commits conflicts with no commit after its snapshot
module _ (st st' : State) (v : Version) (more : List Version) (is : st'.versions ≡ (st.versions ++ v ∷ []) ++ more) (snapshot seq : ℕ)
    (free : first_conflict st snapshot (wrote v) ≡ None) (some : 0 < length st.versions)
    (next : seq ≡ last st + 1) where
  place : seq ≡ length st.versions
  place = omega arith

  made : version_at st' seq ≡ v
  made = ap (version_at st') place ∙ version_made st st' v more is

  kept : (m : ℕ) → m < seq → version_at st' m ≡ version_at st m
  kept m less = version_kept st st' (v ∷ more, is ∙ append_assoc st.versions (v ∷ []) more) m (omega arith)

  not_after : (m : ℕ) → m < seq → snapshot < m → wrote_one st (wrote v) m ≡ false
  not_after m less above =
      each_number (λ n. wrote_one st (wrote v) n ≡ false) (snapshot + 1) (last st - snapshot)
      (none_found (wrote_one st (wrote v)) (commits_after st snapshot) free) m (omega arith)
      (omega arith)

  saw_earlier : (m : ℕ) → m < seq → wrote_one st' (wrote (version_at st' seq)) m ≡ true
      → m ≤ snapshot
  saw_earlier m less shared = at (cases_lt snapshot m)
    where
      at : (snapshot < m) ⊎ (m ≤ snapshot) → m ≤ snapshot
      at (inr below) = below
      at (inl above) =
          let same : wrote_one st' (wrote (version_at st' seq)) m ≡ wrote_one st
          (wrote v) m = λ i. share_unit (wrote (made i)) (wrote (kept m less i)) in
          let none = not_after m less above in
          absurd cc

commit_first : (told : Bool) (st st' : State) (session seq : ℕ) (added dropped : List Name)
    (o : Option Transaction) → 0 < length st.versions
    → IsSomeAnd o (MayCommit told st seq added dropped)
    → IsGrown (option_map_or (λ t. ended session (with_version (version_after (last st + 1) t.pending t.worn (newest st)) dropped added st)) o st) st' → IsSomeAnd o (SawEarlier st' seq)
commit_first told st st' session seq added dropped None some may grown = absurd may
commit_first told st st' session seq added dropped (Some t) some may grown =
    saw_earlier st st' (version_after (last st + 1) t.pending t.worn (newest st)) grown.0 grown.1
    t.snapshot seq may.free some may.next

compaction_first : (told : Bool) (st st' : State) (table cells : List ℕ) (marks : List Mark)
    (seq : ℕ)
    (added dropped : List Name) (o : Option Transaction) → 0 < length st.versions
    → IsSomeAnd o (MayCompact told st table cells marks seq added dropped)
    → IsGrown (with_version
    (version_compacted table (last st + 1) marks (newest st)) dropped added st) st'
    → IsSomeAnd o (SawEarlier st' seq)
compaction_first told st st' table cells marks seq added dropped None some may grown = absurd may
compaction_first told st st' table cells marks seq added dropped (Some t) some may grown =
    saw_earlier st st' (version_compacted table (last st + 1) marks (newest st)) grown.0 grown.1
    t.snapshot seq may.free some may.next

fact_first : (told : Bool) (st st' : State) (e : Noted) (f : Fact) → 0 < length st.versions
    → IsAllowedFact told st e.entry.session f → IsGrown (after_fact e.entry.session e.ends f st) st'
    → IfSome (commit_of f) (λ n. IsSomeAnd (transaction st e.entry.session) (SawEarlier st' n))
fact_first told st st' e (Committed seq added dropped) some allowed grown =
    commit_first told st st' e.entry.session seq added dropped
    (transaction st e.entry.session) some allowed grown
fact_first told st st' e (Compacted table cells marks seq added dropped) some allowed grown =
    compaction_first told st st' table cells marks seq added dropped
    (transaction st e.entry.session) some allowed grown
fact_first told st st' e f some allowed grown = tt

all_first : (told : Bool) (st : State) (entries : List Noted) → IsSound st
    → IsLegalFrom told st entries
    → AllByRecursion (CommitsFirst (state_from st entries)) (stated st entries)
all_first told st [] sound legal = tt
all_first told st (e ∷ es) sound legal = (
  fact_first told st (state_from (after st e) es) e e.entry.fact sound.some_version legal.0
      (state_grown (after st e) es),
  all_first told (after st e) es (sound_after told st e sound legal.0) legal.1,
)

pub first_committer_wins : FirstCommitterWins
first_committer_wins entries legal = all_first true opening entries sound_opening legal
