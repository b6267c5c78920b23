-- No open transaction sees a version behind the last.
use Rattle.std.proofs.Common.{◌≡◌, ℕ, ◌+◌, ◌<◌, ◌≤◌, Bool, true, false, ◌&&◌, not, List, [], ◌∷◌, ◌++◌, Option, None, Some, length, refl, sym, ap, ◌∙◌, subst, arith, nat_eq, if◌then◌else◌}
use Rattle.std.specs.List.{AllByRecursion}
use Rattle.std.specs.Option.{option_map_or}
use Rattle.std.proofs.lemmas.List.{length-append}
use Rattle.lake_model.specs.declared.entries.Fact.{Fact}
use Rattle.lake_model.specs.declared.entries.Fact.TheVariants.{Created, Began, Ran, Committed, Conflict, Ended, RolledBack, Refused, Failed, Compacted, Checkpointed, Collected}
use Rattle.lake_model.specs.Allowed.{IsAllowedFact, IsLegal, IsLegalFrom}
use Rattle.lake_model.specs.State.{State, Noted, Transaction, after, after_fact, after_stop, ended, opened_by, opening, state, state_from, transaction, turned, version_at, view, view_of, with_version}
use Rattle.sql_model.specs.declared.changes.Change.{Change}
use Rattle.sql_model.specs.Changes.{applied}
use Rattle.sql_model.specs.Scopes.{TableSchemas}
use Rattle.sql_model.specs.Versions.{Tables, Version, empty_version}
use Rattle.sql_model.specs.Writing.{schemas_of}
use Rattle.sql_model.proofs.Lists.{all_filter, all_weaker}
use Rattle.table_history.specs.Histories.{History, IsIn, change_from, tables_in}
use Rattle.lake_core.specs.Catalogs.{Catalogued}
use Rattle.lake_core.specs.declared.transactions.KeptTransaction.{KeptTransaction}
use Rattle.lake_core.specs.Consistency.{IsConsistent}
use Rattle.lake_core.specs.Rooms.{OpenAt}
use Rattle.lake_core.proofs.ConsistencyLemmas.{snapshot_of}
use Rattle.lake_core.proofs.CommitLemmas.{applied_same}

-- there is a version, and no snapshot lies behind the last
record SeesVersions (st : State) : Type 0 where
  some : 0 < length st.versions
  snapshots : AllByRecursion (λ o. o.1.snapshot + 1 ≤ length st.versions) st.running

opened_sees : (n session : ℕ) (os : List (ℕ × Transaction)) (t : Transaction) → AllByRecursion (λ o. o.1.snapshot + 1 ≤ n) os → opened_by session os ≡ Some t → t.snapshot + 1 ≤ n
opened_sees n session [] t all e = absurd cc
opened_sees n session (o ∷ os) t all e =
    elim (nat_eq o.0 session) as (λ b. (if b then Some o.1 else opened_by session os) ≡ Some t → t.snapshot + 1 ≤ n) [
      | true ↦ λ same. let is : o.1 ≡ t = cc in subst (λ (u : Transaction). u.snapshot + 1 ≤ n) is all.0
      | false ↦ λ same. opened_sees n session os t all.1 same
    ] e

ended_sees : (session : ℕ) (st : State) → SeesVersions st → SeesVersions (ended session st)
ended_sees session st sees = record { some = sees.some; snapshots = all_filter _ _ st.running sees.snapshots }

turned_sees : (session : ℕ) (t : Transaction) (st : State) → SeesVersions st → t.snapshot + 1 ≤ length st.versions → SeesVersions (turned session t st)
turned_sees session t st sees within = record { some = sees.some; snapshots = (within, all_filter _ _ st.running sees.snapshots) }

version_sees : (v : Version) (dropped added : _) (st : State) → SeesVersions st → SeesVersions (with_version v dropped added st)
version_sees v dropped added st sees =
    let longer = length-append st.versions (v ∷ []) in
    record { some = omega (arith, longer); snapshots = all_weaker {P = λ (o : ℕ × Transaction). o.1.snapshot + 1 ≤ length st.versions} {Q = λ (o : ℕ × Transaction). o.1.snapshot + 1 ≤ length (st.versions ++ v ∷ [])} st.running (λ o within. omega (arith, within, longer)) sees.snapshots }

-- whatever becomes of the session's transaction, if it has one
with_opened : (session : ℕ) (st : State) (f : Transaction → State) → SeesVersions st → ((t : Transaction) → t.snapshot + 1 ≤ length st.versions → SeesVersions (f t)) → SeesVersions (option_map_or f (transaction st session) st)
with_opened session st f sees step =
    elim (opened_by session st.running) as (λ o. opened_by session st.running ≡ o → SeesVersions (option_map_or f o st)) [
      | None ↦ λ e. sees
      | Some t ↦ λ e. step t (opened_sees (length st.versions) session st.running t sees.snapshots e)
    ] refl

chosen_sees : (b : Bool) (x y : State) → SeesVersions x → SeesVersions y → SeesVersions (if b then x else y)
chosen_sees true x y p q = p
chosen_sees false x y p q = q

stop_sees : (session : ℕ) (ends : Bool) (st : State) → SeesVersions st → SeesVersions (after_stop session ends st)
stop_sees session ends st sees =
    with_opened session st (λ t. if t.explicit && not ends then turned session (record t { parts = t.parts + 1 }) st else ended session st) sees
    (λ t within. chosen_sees (t.explicit && not ends) (turned session (record t { parts = t.parts + 1 }) st) (ended session st) (turned_sees session (record t { parts = t.parts + 1 }) st sees within) (ended_sees session st sees))

step_sees : (st : State) (session : ℕ) (ends : Bool) (f : Fact) → IsAllowedFact true st session f
    → SeesVersions st → SeesVersions (after_fact session ends f st)
step_sees st session ends (Created table schema seq) allowed sees = version_sees _ [] [] st sees
step_sees st session ends (Began explicit txn snapshot) allowed sees =
    let within : snapshot + 1 ≤ length st.versions = omega (arith, allowed.2, sees.some) in
    record { some = sees.some; snapshots = (within, all_filter _ _ st.running sees.snapshots) }
step_sees st session ends (Ran reply change) allowed sees = with_opened session st _ sees (λ t within. turned_sees session _ st sees within)
step_sees st session ends (Committed seq added dropped) allowed sees = with_opened session st _ sees (λ t within. ended_sees session _ (version_sees _ dropped added st sees))
step_sees st session ends (Conflict seq) allowed sees = ended_sees session st sees
step_sees st session ends Ended allowed sees = ended_sees session st sees
step_sees st session ends RolledBack allowed sees = ended_sees session st sees
step_sees st session ends (Refused cause) allowed sees = stop_sees session false st sees
step_sees st session ends (Failed cause) allowed sees = stop_sees session ends st sees
step_sees st session ends (Compacted table cells marks seq added dropped) allowed sees = ended_sees session _ (version_sees _ dropped added st sees)
step_sees st session ends (Checkpointed table at name) allowed sees =
    record { some = sees.some; snapshots = all_filter _ _ st.running sees.snapshots }
step_sees st session ends (Collected names floor) allowed sees = record { some = sees.some; snapshots = sees.snapshots }

legal_sees : (st : State) (es : List Noted) → IsLegalFrom true st es → SeesVersions st
    → SeesVersions (state_from st es)
legal_sees st [] legal sees = sees
legal_sees st (e ∷ es) legal sees = legal_sees (after st e) es legal.1 (step_sees st e.entry.session e.ends e.entry.fact legal.0 sees)

-- the session's transaction sees a version that there is
pub snapshot_there : (session : ℕ) (es : List Noted) (t : Transaction) → IsLegal true es
    → transaction (state es) session ≡ Some t → t.snapshot + 1 ≤ length (state es).versions
snapshot_there session es t legal opened =
    let sees = legal_sees opening es legal (record { some = omega arith; snapshots = tt }) in
    opened_sees (length (state es).versions) session (state es).running t sees.snapshots opened

-- the version that the session's transaction sees is kept
pub seen_version : (session : ℕ) (es : List Noted) (h : History) (rs : List KeptTransaction) (catalog : Catalogued) (spare number : ℕ) (r : KeptTransaction) (there : OpenAt session (state es).running r) → IsConsistent es h rs catalog spare number →
    IsIn h r.snapshot × (tables_in h r.snapshot ≡ (version_at (state es) there.transaction.snapshot).tables)
seen_version session es h rs catalog spare number r there consistent =
    let kept = consistent.stands.history in
    let t = there.transaction in
    let low : h.first ≤ t.snapshot = snapshot_of h.first session (state es).running t kept.snapshots there.opened in
    let high : t.snapshot + 1 ≤ length (state es).versions = snapshot_there session es t consistent.legal there.opened in
    let is : r.snapshot ≡ t.snapshot = there.is.snapshot in
    (record { from = omega (arith, low, is); to = omega (arith, high, is, kept.counted) }, ap (tables_in h) is ∙ kept.tables t.snapshot low (omega (arith, high)))

pub schemas_applied : (seq : ℕ) (change : Change) (tables : Tables) → schemas_of (applied seq change tables) ≡ schemas_of tables
schemas_applied seq change [] = refl
schemas_applied seq change (t ∷ ts) = ap (λ (ss : TableSchemas). (t.name, t.schema) ∷ ss) (schemas_applied seq change ts)

-- what is kept of a transaction tells what it sees
pub tables_seen : (session : ℕ) (es : List Noted) (h : History) (rs : List KeptTransaction) (catalog : Catalogued) (spare number : ℕ) (r : KeptTransaction) → OpenAt session (state es).running r → IsConsistent es h rs catalog spare number →
    applied 0 (change_from r.removed.items r.added.items) (tables_in h r.snapshot)
    ≡ (view (state es) session).tables
tables_seen session es h rs catalog spare number r there consistent =
    let st = state es in
    let t = there.transaction in
    let opened : transaction st session ≡ Some t = there.opened in
    let version = (seen_version session es h rs catalog spare number r there consistent).1 in
    ap (λ (ts : Tables). applied 0 (change_from r.removed.items r.added.items) ts) version
    ∙ applied_same 0 r.removed.items r.added.items t.pending (version_at st t.snapshot).tables there.is.removed there.is.added
    ∙ (let seen = λ (o : Option Transaction). (option_map_or (view_of st) o empty_version).tables in
    sym (ap seen opened))
