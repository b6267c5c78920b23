-- Versions once made stay as they are.
use Rattle.std.proofs.Common.{◌≡◌, ℕ, zero, suc, ◌+◌, ◌<◌, ◌≤◌, Bool, true, false, not, ◌&&◌, List, [], ◌∷◌, ◌++◌, None, Some, Option, length, unwrap_or, refl, sym, ap, ◌∙◌, arith, length-append, append_assoc, if◌then◌else◌}
use Rattle.std.specs.Prelude.{slice_get}
use Rattle.std.specs.Option.{option_map_or}
use Rattle.std.proofs.lemmas.List.{append-nil}
use Rattle.lake_values.specs.declared.names.Name.{Name}
use Rattle.lake_model.specs.declared.entries.Fact.{Fact}
use Rattle.sql_model.specs.declared.changes.Change.{Change}
use Rattle.lake_model.specs.declared.entries.Fact.TheVariants.{Created, Began, Ran, Committed, Conflict, Ended, RolledBack, Refused, Failed, Compacted, Checkpointed, Collected}
use Rattle.sql_model.specs.declared.replies.Reply.{Reply}
use Rattle.sql_model.specs.Changes.{version_after}
use Rattle.lake_model.specs.Compactions.{version_compacted}
use Rattle.sql_model.specs.Versions.{Version, empty_version}
use Rattle.lake_model.specs.State.{State, Noted, Transaction, last, newest, with_version, version_at, transaction, with_part, turned, ended, after_fact, after, state_from}

-- the versions of the one state are those of the other and more
abbrev pub IsGrown : State → State → Type 0
IsGrown st st' = (more : List Version) × (st'.versions ≡ st.versions ++ more)

same_grown : (st : State) → IsGrown st st
same_grown st = ([], sym (append-nil st.versions))

ran_grown : (session : ℕ) (reply : Reply) (change : Change) (st : State) (o : Option Transaction)
    → IsGrown st (option_map_or (λ t. turned session (with_part reply change t) st) o st)
ran_grown session reply change st None = same_grown st
ran_grown session reply change st (Some t) = same_grown st

commit_grown : (session : ℕ) (dropped added : List Name) (st : State) (o : Option Transaction)
    → IsGrown st (option_map_or (λ t. ended session (with_version (version_after (last st + 1) t.pending t.worn (newest st)) dropped added st)) o st)
commit_grown session dropped added st None = same_grown st
commit_grown session dropped added st (Some t) = (version_after (last st + 1) t.pending t.worn (newest st) ∷ [], refl)

part_grown : (session : ℕ) (t : Transaction) (st : State) (stays : Bool) → IsGrown st (if stays then turned session (record t { parts = t.parts + 1 }) st else ended session st)
part_grown session t st true = same_grown st
part_grown session t st false = same_grown st

stop_grown : (session : ℕ) (ends : Bool) (st : State) (o : Option Transaction)
    → IsGrown st (option_map_or (λ t. if t.explicit && not ends then turned session (record t { parts = t.parts + 1 }) st else ended session st) o st)
stop_grown session ends st None = same_grown st
stop_grown session ends st (Some t) = part_grown session t st (t.explicit && not ends)

fact_grown : (session : ℕ) (ends : Bool) (f : Fact) (st : State) → IsGrown st (after_fact session ends f st)
fact_grown session ends (Created table schema seq) st = (_, refl)
fact_grown session ends (Began explicit txn snapshot) st = same_grown st
fact_grown session ends (Ran reply change) st = ran_grown session reply change st (transaction st session)
fact_grown session ends (Committed seq added dropped) st = commit_grown session dropped added st (transaction st session)
fact_grown session ends (Conflict seq) st = same_grown st
fact_grown session ends Ended st = same_grown st
fact_grown session ends RolledBack st = same_grown st
fact_grown session ends (Refused cause) st = stop_grown session false st (transaction st session)
fact_grown session ends (Failed cause) st = stop_grown session ends st (transaction st session)
fact_grown session ends (Compacted table cells marks seq added dropped) st = (version_compacted table (last st + 1) marks (newest st) ∷ [], refl)
fact_grown session ends (Checkpointed table at name) st = same_grown st
fact_grown session ends (Collected names floor) st = same_grown st

pub after_grown : (st : State) (e : Noted) → IsGrown st (after st e)
after_grown st e = fact_grown e.entry.session e.ends e.entry.fact st

pub state_grown : (st : State) (entries : List Noted) → IsGrown st (state_from st entries)
state_grown st [] = same_grown st
state_grown st (e ∷ es) =
    let first = after_grown st e in
    let rest = state_grown (after st e) es in
    (first.0 ++ rest.0, rest.1 ∙ ap (λ (vs : List Version). vs ++ rest.0) first.1 ∙ append_assoc st.versions first.0 rest.0)

front_member : {X : Type 0} (xs ys : List X) (n : ℕ) → n < length xs → slice_get (xs ++ ys) n ≡ slice_get xs n
front_member [] ys n less = absurd (omega arith)
front_member (x ∷ xs) ys zero less = refl
front_member (x ∷ xs) ys (suc n) less = front_member xs ys n (omega arith)

pub version_kept : (st st' : State) → IsGrown st st' → (n : ℕ) → n < length st.versions → version_at st' n ≡ version_at st n
version_kept st st' grown n less =
    ap (λ (vs : List Version). unwrap_or (slice_get vs n) empty_version) grown.1 ∙ ap (λ (o : Option Version). unwrap_or o empty_version) (front_member st.versions grown.0 n less)

-- the version that is made next
pub version_made : (st st' : State) (v : Version) (more : List Version) → st'.versions ≡ (st.versions ++ v ∷ []) ++ more → version_at st' (length st.versions) ≡ v
version_made st st' v more is =
    ap (λ (vs : List Version). unwrap_or (slice_get vs (length st.versions)) empty_version) is ∙ ap (λ (o : Option Version). unwrap_or o empty_version) (seam st.versions)
  where
    seam : (xs : List Version) → slice_get ((xs ++ v ∷ []) ++ more) (length xs) ≡ Some v
    seam [] = refl
    seam (x ∷ xs) = seam xs

pub as_long : (st st' : State) → IsGrown st st' → length st.versions ≤ length st'.versions
as_long st st' grown = omega (arith, ap (λ (vs : List Version). length vs) grown.1, length-append st.versions grown.0)
