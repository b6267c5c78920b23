-- A lake with one entry more.
use Rattle.std.proofs.Common.{◌≡◌, ℕ, zero, suc, ◌+◌, ◌-◌, ◌<◌, ◌≤◌, Bool, true, false, ◌&&◌, not, List, [], ◌∷◌, ◌++◌, Option, None, Some, map, length, refl, sym, ap, ◌∙◌, subst, arith, nat_eq, if◌then◌else◌}
use Rattle.std.specs.Prelude.{is_some, position, slice_get, unwrap_or, vec_len, get_or, IsNone, IfSome}
use Rattle.std.specs.List.{AllByRecursion, list_any}
use Rattle.std.specs.Option.{option_map, option_map_or}
use Rattle.lake_values.specs.Schemas.{TableColumns}
use Rattle.sql_model.specs.declared.changes.MarkedRow.{MarkedRow}
use Rattle.lake_values.proofs.SameTexts.{same_text_is}
use Rattle.lake_core.specs.Opened.{opened}
use Rattle.lake_core.specs.declared.opened.OpenTxn.{OpenTxn}
use Rattle.std.proofs.lemmas.List.{length-append, map_push}
use Rattle.lake_model.specs.declared.entries.Entry.{Entry}
use Rattle.lake_model.specs.declared.entries.Fact.{Fact}
use Rattle.lake_model.specs.declared.entries.Fact.TheVariants as fact
use Rattle.sql_model.specs.declared.replies.Refusal.TheVariants.{InTransaction, TableExists}
use Rattle.lake_model.specs.Allowed.{IsAllowed, IsLegal}
use Rattle.sql_model.specs.Changes.{no_change}
use Rattle.lake_model.specs.State.{State, Noted, Transaction, after, after_began, after_created, after_stop, is_inside, ended, last, newest, opened_by, opening, state, transaction, turned, version_at}
use Rattle.sql_model.specs.Units.{ConflictUnit, share_unit}
use Rattle.sql_model.specs.Versions.{Table, Tables, Version, empty_version, has_table, wrote}
use Rattle.lake_values.specs.Texts.{same_text}
use Rattle.sql_model.proofs.Lists.{all_filter}
use Rattle.lake_model.proofs.Steps.{legal_append, state_append}
use Rattle.table_history.proofs.PlaceLemmas.{room_weaker}
use Rattle.table_history.specs.Histories.{GrowsBy, History, KeepsRoom, has_spare_rows, last_of, newest_of, no_tables, rows_for, tables_in}
use Rattle.lake_core.specs.Catalogs.{Catalogued}
use Rattle.lake_core.specs.Rows.{units_of_row}
use Rattle.lake_core.specs.declared.rows.CatRow.{CatRow}
use Rattle.lake_core.specs.declared.transactions.KeptTransaction.{KeptTransaction}
use Rattle.lake_core.specs.declared.who.Who.{Who}
use Rattle.lake_core.specs.Facts as facts
use Rattle.lake_core.specs.Consistency.{HasRooms, IsHistory, IsConsistent, StandsFor, chronicle_of, noted_entry}
use Rattle.lake_core.specs.Lakes.{Adds, IsExplicit, Lake, noted, state_of}
use Rattle.lake_core.specs.Rooms.{AreOpen, HaveOwnSessions, IsNoSession, IsOpen, IsReservedWeight, IsWritten, KeepsRooms, LeavesRooms, catalog_rows_for, entries_for, in_rooms, rooms_of, table_rows_for, total}
use Rattle.lake_core.proofs.OpenLemmas.{IsAt, apart, at_within, found_at, found_nowhere, no_open, open_at, open_is, open_none, same_number, same_rooms}

-- the state behind one entry more
pub state_next : (entries : List Noted) (e : Noted) → state (entries ++ e ∷ []) ≡ after (state entries) e
state_next entries e = state_append opening entries (e ∷ [])

-- an allowed entry leads consistent, where what is kept stands for the state behind it
pub consistent_more : (entries : List Noted) (e : Noted) (h : History)
    (running : List KeptTransaction) (catalog : Catalogued) (spare number : ℕ)
    → IsLegal true entries → IsAllowed true (state entries) e →
    StandsFor (after (state entries) e) (length entries + 1) h running catalog spare number → IsConsistent (entries ++ e ∷ []) h running catalog spare number
consistent_more entries e h running catalog spare number legal allowed stands =
    let P : State → Type 0 = λ st. StandsFor st (length entries + 1) h running catalog spare number in
    let Q : ℕ → Type 0 = λ n. StandsFor (state (entries ++ e ∷ [])) n h running catalog spare number in
    record {
      legal = legal_append true opening entries (e ∷ []) legal (allowed, tt);
      stands = subst Q (sym (length-append entries (e ∷ []))) (subst P (sym (state_next entries e)) stands);
    }

-- the entry that the code puts behind the others
pub entries_are : (who : Who) (f : Fact) (es new : List Entry) (e : Entry) → new ≡ es ++ e ∷ [] → e ≡ record { session = who.session; place = who.place; fact = f } → chronicle_of new ≡ chronicle_of es ++ noted who f ∷ []
entries_are who f es new e behind is =
    ap chronicle_of behind ∙ map_push noted_entry es e ∙ ap (λ (x : Entry). chronicle_of es ++ noted_entry x ∷ []) is

pub consistent_at : (who : Who) (f : Fact) (es new : List Entry) (e : Entry) → new ≡ es ++ e ∷ [] → e ≡ record { session = who.session; place = who.place; fact = f } → (h : History) (running : List KeptTransaction) (catalog : Catalogued) (spare number : ℕ) →
    IsConsistent (chronicle_of es ++ noted who f ∷ []) h running catalog spare number → IsConsistent (chronicle_of new) h running catalog spare number
consistent_at who f es new e behind is h running catalog spare number consistent =
    let P : List Noted → Type 0 = λ ns. IsConsistent ns h running catalog spare number in
    subst P (sym (entries_are who f es new e behind is)) consistent

pub adds_at : (who : Who) (f : Fact) (es new : List Entry) (e : Entry) → new ≡ es ++ e ∷ [] → e ≡ record { session = who.session; place = who.place; fact = f } → (rs rs' : List KeptTransaction) → KeepsRooms who.session rs rs' →
    {h : History} {catalog : Catalogued} {spare number : ℕ} → IsConsistent (chronicle_of new) h rs' catalog spare number →
    (old : Lake) → record { entries = chronicle_of es; rooms = rooms_of rs } ≡ old → Adds old (record { entries = chronicle_of new; rooms = rooms_of rs' }) who f
adds_at who f es new e behind is rs rs' keeps consistent old seen =
    let P : Lake → Type 0 = λ l. Adds l (record { entries = chronicle_of new; rooms = rooms_of rs' }) who f in
    subst P seen (record {
      entries = entries_are who f es new e behind is;
      legal = consistent.legal;
      kept = keeps.kept ∙ ap (λ (b : Bool). in_rooms who.session rs && b) (sym (open_is who.session (state (chronicle_of new)) rs' consistent.stands.open_ones));
      others = keeps.others;
    })

-- versions that stay

written_same : (st st' : State) (rows : _) → st'.versions ≡ st.versions → IsWritten st rows → IsWritten st' rows
written_same st st' rows same written =
    let P : List Version → Type 0 = λ vs. IsWritten (record st' { versions = vs }) rows in
    subst P (sym same) (record { units = written.units; within = written.within })

history_same : (st st' : State) (h : History) → st'.versions ≡ st.versions → AllByRecursion (λ o. h.first ≤ o.1.snapshot) st'.running → IsHistory st h → IsHistory st' h
history_same st st' h same snapshots kept =
    let P : List Version → Type 0 = λ vs. IsHistory (record st' { versions = vs }) h in
    subst P (sym same) (record { some = kept.some; counted = kept.counted; tables = kept.tables; snapshots = snapshots })

weigh_entries : IsReservedWeight entries_for
weigh_entries = record { none = λ r none. ap (λ o. if is_some o then 1 else 0) none; parts = λ r n. refl }

weigh_catalog : IsReservedWeight catalog_rows_for
weigh_catalog = record { none = λ r none. ap (λ o. option_map_or (λ room. vec_len room.rows) o 0) none; parts = λ r n. refl }

weigh_tables : (name : List ℕ) → IsReservedWeight (table_rows_for name)
weigh_tables name = record { none = λ r none. ap (λ o. if is_some o then rows_for name r.added.items else 0) none; parts = λ r n. refl }

-- what is reserved stays reserved

pub fewer_rows : (spares : List (List ℕ × ℕ)) (name : List ℕ) (m n : ℕ) → m ≤ n → has_spare_rows spares name n ≡ true → has_spare_rows spares name m ≡ true
fewer_rows spares name m n le room = room_weaker spares name (n - m) m (ap (has_spare_rows spares name) (omega arith) ∙ room)

pub rooms_left : (session : ℕ) (rs rs' : List KeptTransaction) (h : History) (catalog : Catalogued) (spare spare' : ℕ) → LeavesRooms session rs rs' → HasRooms rs h catalog spare → total entries_for rs' ≤ spare' → HasRooms rs' h catalog spare'
rooms_left session rs rs' h catalog spare spare' leaves rooms enough = record {
  fit = leaves.fit rooms.fit;
  entries = enough;
  catalog_rows = omega (arith, leaves.less catalog_rows_for weigh_catalog, rooms.catalog_rows);
  table_rows = λ name. fewer_rows h.spares name (total (table_rows_for name) rs') (total (table_rows_for name) rs) (leaves.less (table_rows_for name) (weigh_tables name)) (rooms.table_rows name);
}

-- there are no more rooms than transactions
pub few_rooms : (rs : List KeptTransaction) → total entries_for rs ≤ length rs
few_rooms [] = omega arith
few_rooms (r ∷ rs) = elim (is_some r.room) as (λ b. (if b then 1 else 0) + total entries_for rs ≤ suc (length rs)) [
  | true ↦ omega (arith, few_rooms rs)
  | false ↦ omega (arith, few_rooms rs)
]

-- after room for each transaction and one more is made, and one entry is put there
pub entries_left : (session : ℕ) (rs rs' : List KeptTransaction) (reserved spare : ℕ) → LeavesRooms session rs rs' → 1 + length rs ≤ reserved → reserved ≤ spare + 1 → total entries_for rs' ≤ spare
entries_left session rs rs' reserved spare leaves made put = omega (arith, few_rooms rs, leaves.less entries_for weigh_entries)

-- an entry that only changes the open transactions

pub rooms_stands : (st st' : State) (count : ℕ) (h : History) (rs rs' : List KeptTransaction) (catalog : Catalogued) (spare spare' number number' : ℕ) → StandsFor st count h rs catalog spare number →
    st'.versions ≡ st.versions → st'.last_number ≡ number' → number' ≤ count + 1 → AllByRecursion (λ o. h.first ≤ o.1.snapshot) st'.running → AreOpen st'.running rs' → HaveOwnSessions rs' → HasRooms rs' h catalog spare' →
    StandsFor st' (count + 1) h rs' catalog spare' number'
rooms_stands st st' count h rs rs' catalog spare spare' number number' stands same numbered few snapshots open_ own rooms = record {
  history = history_same st st' h same snapshots stands.history;
  open_ones = open_;
  own_sessions = own;
  written = written_same st st' catalog.rows same stands.written;
  numbered = numbered;
  rooms = rooms;
  few_versions = omega (arith, stands.few_versions, ap (λ (vs : List Version). length vs) same);
  few_numbers = few;
}

pub running_stands : (st st' : State) (count : ℕ) (session : ℕ) (h : History) (rs rs' : List KeptTransaction) (catalog : Catalogued) (spare spare' number number' : ℕ) → StandsFor st count h rs catalog spare number →
    st'.versions ≡ st.versions → st'.last_number ≡ number' → number' ≤ count + 1 → AllByRecursion (λ o. h.first ≤ o.1.snapshot) st'.running → AreOpen st'.running rs' → LeavesRooms session rs rs' → total entries_for rs' ≤ spare' →
    StandsFor st' (count + 1) h rs' catalog spare' number'
running_stands st st' count session h rs rs' catalog spare spare' number number' stands same numbered few snapshots open_ leaves enough =
    rooms_stands st st' count h rs rs' catalog spare spare' number number' stands same numbered few snapshots open_ leaves.keeps.own (rooms_left session rs rs' h catalog spare spare' leaves stands.rooms enough)

-- the snapshots of the open transactions

pub snapshot_of : (first session : ℕ) (os : List (ℕ × Transaction)) (t : Transaction) → AllByRecursion (λ o. first ≤ o.1.snapshot) os → opened_by session os ≡ Some t → first ≤ t.snapshot
snapshot_of first session [] t all e = absurd cc
snapshot_of first session (o ∷ os) t all e =
    elim (nat_eq o.0 session) as (λ b. (if b then Some o.1 else opened_by session os) ≡ Some t → first ≤ t.snapshot) [
      | true ↦ λ same. let is : o.1 ≡ t = cc in subst (λ (u : Transaction). first ≤ u.snapshot) is all.0
      | false ↦ λ same. snapshot_of first session os t all.1 same
    ] e

Sees : ℕ → State → Type 0
Sees first st = AllByRecursion (λ o. first ≤ o.1.snapshot) st.running

stopped_sees : (first session : ℕ) (st : State) (t : Transaction) (b : Bool) → Sees first st → first ≤ t.snapshot → Sees first (if b && not false then turned session (record t { parts = t.parts + 1 }) st else ended session st)
unfolding Sees
stopped_sees first session st t true all sees = (sees, all_filter _ _ st.running all)
stopped_sees first session st t false all sees = all_filter _ _ st.running all

stop_sees : (first session : ℕ) (st : State) (o : Option Transaction) → transaction st session ≡ o → Sees first st → Sees first (option_map_or (λ t. if t.explicit && not false then turned session (record t { parts = t.parts + 1 }) st else ended session st) o st)
unfolding Sees
stop_sees first session st None is all = all
stop_sees first session st (Some t) is all = stopped_sees first session st t t.explicit all (snapshot_of first session st.running t all is)

pub refused_sees : (first session : ℕ) (st : State) → AllByRecursion (λ o. first ≤ o.1.snapshot) st.running → AllByRecursion (λ o. first ≤ o.1.snapshot) (after_stop session false st).running
unfolding Sees
refused_sees first session st all = stop_sees first session st (transaction st session) refl all

stop_versions : (session : ℕ) (st : State) (o : Option Transaction) → (option_map_or (λ t. if t.explicit && not false then turned session (record t { parts = t.parts + 1 }) st else ended session st) o st).versions ≡ st.versions
stop_versions session st None = refl
stop_versions session st (Some t) = elim t.explicit as (λ b. (if b && not false then turned session (record t { parts = t.parts + 1 }) st else ended session st).versions ≡ st.versions) [ true ↦ refl | false ↦ refl ]

stop_number : (session : ℕ) (st : State) (o : Option Transaction) → (option_map_or (λ t. if t.explicit && not false then turned session (record t { parts = t.parts + 1 }) st else ended session st) o st).last_number ≡ st.last_number
stop_number session st None = refl
stop_number session st (Some t) = elim t.explicit as (λ b. (if b && not false then turned session (record t { parts = t.parts + 1 }) st else ended session st).last_number ≡ st.last_number) [ true ↦ refl | false ↦ refl ]

-- a refusal
pub refused_stands : (st : State) (count session : ℕ) (h : History) (rs rs' : List KeptTransaction) (catalog : Catalogued) (spare spare' number : ℕ) → StandsFor st count h rs catalog spare number →
    AreOpen (after_stop session false st).running rs' → LeavesRooms session rs rs' → total entries_for rs' ≤ spare' → StandsFor (after_stop session false st) (count + 1) h rs' catalog spare' number
refused_stands st count session h rs rs' catalog spare spare' number stands open_ leaves enough =
    running_stands st (after_stop session false st) count session h rs rs' catalog spare spare' number number stands
    (stop_versions session st (transaction st session)) (stop_number session st (transaction st session) ∙ stands.numbered) (omega (arith, stands.few_numbers))
    (refused_sees h.first session st stands.history.snapshots) open_ leaves enough

-- a transaction that ends
pub ended_stands : (st : State) (count session : ℕ) (h : History) (rs rs' : List KeptTransaction) (catalog : Catalogued) (spare spare' number : ℕ) → StandsFor st count h rs catalog spare number →
    AreOpen (ended session st).running rs' → LeavesRooms session rs rs' → total entries_for rs' ≤ spare' → StandsFor (ended session st) (count + 1) h rs' catalog spare' number
ended_stands st count session h rs rs' catalog spare spare' number stands open_ leaves enough =
    running_stands st (ended session st) count session h rs rs' catalog spare spare' number number stands refl stands.numbered (omega (arith, stands.few_numbers))
    (all_filter _ _ st.running stands.history.snapshots) open_ leaves enough

-- the last version

pub last_same : (st : State) (h : History) → IsHistory st h → last_of h ≡ last st
last_same st h kept = omega (arith, kept.counted, kept.some)

pub newest_same : (st : State) (h : History) → IsHistory st h → newest_of h ≡ (newest st).tables
newest_same st h kept =
    let is = last_same st h kept in
    ap (tables_in h) is ∙ kept.tables (last st) (omega (arith, kept.counted, kept.some)) (omega (arith, kept.counted, kept.some))

-- versions that are let go, where no transaction is open

pub empty_is : {X : Type 0} (xs : List X) → nat_eq (length xs) 0 ≡ true → xs ≡ []
empty_is [] e = refl
empty_is (x ∷ xs) e = absurd (omega (arith, same_number (length (x ∷ xs)) 0 e))

pub history_forgotten : (st : State) (h h' : History) (rs : List KeptTransaction) → rs ≡ [] → AreOpen st.running rs → h'.first ≡ last_of h → h'.tables ≡ newest_of h ∷ [] → IsHistory st h → IsHistory st h'
history_forgotten st h h' rs none open_ first tables kept =
    let is = last_same st h kept in
    let R : List KeptTransaction → Type 0 = λ os. AreOpen st.running os in
    let P : ℕ × List Tables → Type 0 = λ p. IsHistory st (record { first = p.0; tables = p.1; spares = h'.spares }) in
    subst P (λ i. (sym first i, sym tables i)) (record {
      some = omega arith;
      counted = omega (arith, kept.counted, kept.some);
      tables = λ n from within. only n (omega (arith, from, within, kept.counted, kept.some));
      snapshots = nobody st.running (subst R none open_);
    })
  where
    nobody : (os : List (ℕ × Transaction)) → AreOpen os [] → AllByRecursion (λ o. last_of h ≤ o.1.snapshot) os
    nobody [] open_ = tt
    nobody (o ∷ os) open_ = absurd open_

    only : (n : ℕ) → n ≡ last_of h → tables_in (record { first = last_of h; tables = newest_of h ∷ []; spares = h'.spares }) n ≡ (version_at st n).tables
    only n is =
        let P : ℕ → Type 0 = λ m. tables_in (record { first = last_of h; tables = newest_of h ∷ []; spares = h'.spares }) m ≡ (version_at st m).tables in
        let T : ℕ → Tables = λ m. unwrap_or (slice_get (newest_of h ∷ []) m) [] in
        let none : last_of h - last_of h ≡ 0 = omega arith in
        subst P (sym is) (ap T none ∙ kept.tables (last_of h) (omega (arith, kept.some)) (omega (arith, kept.counted, kept.some)))

pub forgotten_stands : (st : State) (count : ℕ) (h h' : History) (rs : List KeptTransaction) (catalog : Catalogued) (spare number : ℕ) → StandsFor st count h rs catalog spare number → IsHistory st h' → KeepsRoom h h' → StandsFor st count h' rs catalog spare number
forgotten_stands st count h h' rs catalog spare number stands history keeps = record {
  history = history;
  open_ones = stands.open_ones;
  own_sessions = stands.own_sessions;
  written = stands.written;
  numbered = stands.numbered;
  rooms = record {
    fit = stands.rooms.fit;
    entries = stands.rooms.entries;
    catalog_rows = stands.rooms.catalog_rows;
    table_rows = λ name. keeps name (total (table_rows_for name) rs) (stands.rooms.table_rows name);
  };
  few_versions = stands.few_versions;
  few_numbers = stands.few_numbers;
}

-- a transaction that begins
pub began_stands : (st : State) (count session : ℕ) (explicit : Bool) (h : History) (rs : List KeptTransaction) (r : KeptTransaction) (catalog : Catalogued) (spare spare' number snapshot : ℕ) → StandsFor st count h rs catalog spare number →
    snapshot ≡ last st → AreOpen (ended session st).running rs → IsOpen (session, record { explicit = explicit; number = number + 1; snapshot = snapshot; pending = no_change; worn = []; parts = 0 }) r → LeavesRooms session rs (r ∷ rs) →
    total entries_for (r ∷ rs) ≤ spare' → StandsFor (after_began session explicit (number + 1) snapshot st) (count + 1) h (r ∷ rs) catalog spare' (number + 1)
began_stands st count session explicit h rs r catalog spare spare' number snapshot stands is open_ begun leaves enough =
    running_stands st (after_began session explicit (number + 1) snapshot st) count session h rs (r ∷ rs) catalog spare spare' number (number + 1) stands refl refl (omega (arith, stands.few_numbers))
    (omega (arith, is, stands.history.counted, stands.history.some), all_filter _ _ st.running stands.history.snapshots) (begun, open_) leaves enough

-- a lake without entries

pub consistent_new : (h : History) (catalog : Catalogued) (spare : ℕ) (running : List KeptTransaction) → h ≡ no_tables → catalog.rows ≡ [] → running ≡ [] → IsConsistent [] h running catalog spare 0
consistent_new h catalog spare running empty_history no_rows none =
    let P : History → Type 0 = λ h'. IsConsistent [] h' running catalog spare 0 in
    let Q : List KeptTransaction → Type 0 = λ rs. IsConsistent [] no_tables rs catalog spare 0 in
    subst P (sym empty_history) (subst Q (sym none) (record {
      legal = tt;
      stands = record {
        history = record { some = omega arith; counted = refl; tables = first; snapshots = tt };
        open_ones = tt;
        own_sessions = tt;
        written = (let W : List CatRow → Type 0 = λ rows. IsWritten opening rows in subst W (sym no_rows) (record { units = nothing; within = tt }));
        numbered = refl;
        rooms = record { fit = tt; entries = omega arith; catalog_rows = omega arith; table_rows = λ name. refl };
        few_versions = omega arith;
        few_numbers = omega arith;
      };
    }))
  where
    first : (n : ℕ) → 0 ≤ n → n < 1 → tables_in no_tables n ≡ (version_at opening n).tables
    first zero le less = refl
    first (suc n) le less = absurd (omega arith)

    nothing : (n : ℕ) (us : List ConflictUnit)
        → false ≡ share_unit (wrote (version_at opening n)) us
    nothing zero us = refl
    nothing (suc n) us = refl

-- the entries of a chronicle

pub entries_back : (es : List Entry) → map (λ (e : Noted). e.entry) (chronicle_of es) ≡ es
entries_back [] = refl
entries_back (e ∷ es) = ap (λ (xs : List Entry). e ∷ xs) (entries_back es)

member : {X : Type 0} (xs : List X) (place : ℕ) → place < length xs → (x : X) × (x ≡ get_or xs place x)
member [] place h = absurd (omega arith)
member (x ∷ xs) zero h = (x, refl)
member (x ∷ xs) (suc place) h = member xs place (omega arith)

-- a session has a transaction, or none

pub some_inside : (session : ℕ) (st : State) (rs : List KeptTransaction) (place : ℕ) → AreOpen st.running rs → IsAt session rs place → IsExplicit st session → (is_some (transaction st session) ≡ true) × (is_inside st session ≡ true)
some_inside session st rs place open_ at explicit =
    let (r, is) = member rs place (at_within session rs place at) in
    let found = open_at session st.running rs place r open_ at is in
    let P : Option Transaction → Type 0 = λ o. IfSome o (λ t. t.explicit ≡ true) in
    let opened : transaction st session ≡ Some found.transaction = found.opened in
    (ap (λ (o : Option Transaction). is_some o) opened, ap (λ (o : Option Transaction). option_map_or (λ t. t.explicit) o false) opened ∙ subst P opened explicit)

pub none_outside : (session : ℕ) (st : State) (rs : List KeptTransaction) → AreOpen st.running rs → IsNoSession session rs → transaction st session ≡ None
none_outside session st rs open_ none = open_none session st.running rs open_ none

-- a version more

get_more : {X : Type 0} (xs : List X) (x d : X) (n : ℕ) → unwrap_or (slice_get (xs ++ x ∷ []) n) d ≡ (if nat_eq n (length xs) then x else unwrap_or (slice_get xs n) d)
get_more [] x d zero = refl
get_more [] x d (suc n) = rw (differs n) refl
  where
    differs : (n : ℕ) → nat_eq (suc n) 0 ≡ false
    differs n = grind arith
get_more (y ∷ xs) x d zero = rw (differs (length xs)) refl
  where
    differs : (n : ℕ) → nat_eq 0 (suc n) ≡ false
    differs n = grind arith
get_more {X} (y ∷ xs) x d (suc n) = get_more xs x d n ∙ ap (λ (b : Bool). if b then x else unwrap_or (slice_get xs n) d) (same n (length xs))
  where
    same : (m n : ℕ) → nat_eq m n ≡ nat_eq (suc m) (suc n)
    same m n = grind arith

pub version_more : (st st' : State) (v : Version) (n : ℕ) → st'.versions ≡ st.versions ++ v ∷ [] → version_at st' n ≡ (if nat_eq n (length st.versions) then v else version_at st n)
version_more st st' v n more = ap (λ (vs : List Version). unwrap_or (slice_get vs n) empty_version) more ∙ get_more st.versions v empty_version n

at_end : (n first l m : ℕ) → n ≡ m → first + l ≡ m → nat_eq (n - first) l ≡ true
at_end n first l m is c = grind arith

before : (n first l m : ℕ) → nat_eq n m ≡ false → first + l ≡ m → first ≤ n → nat_eq (n - first) l ≡ false
before n first l m e c le = grind arith

below : (n m : ℕ) → nat_eq n m ≡ false → n < m + 1 → n < m
below n m e h = grind arith

pub history_more : (st st' : State) (v : Version) (h h' : History) → st'.versions ≡ st.versions ++ v ∷ [] → AllByRecursion (λ o. h.first ≤ o.1.snapshot) st'.running → IsHistory st h → GrowsBy h h' v.tables → IsHistory st' h'
history_more st st' v h h' more snapshots kept grown =
    let longer = length-append st.versions (v ∷ []) in
    let versions = ap (λ (vs : List Version). length vs) more ∙ longer in
    let tables = ap (λ (ts : List Tables). length ts) grown.tables ∙ length-append h.tables (v.tables ∷ []) in
    let P : ℕ → Type 0 = λ first. AllByRecursion (λ o. first ≤ o.1.snapshot) st'.running in
    record {
      some = omega (arith, tables);
      counted = omega (arith, tables, versions, grown.first, kept.counted);
      tables = λ n from to. each n from (omega (arith, to, versions));
      snapshots = subst P (sym grown.first) snapshots;
    }
  where
    each : (n : ℕ) → h'.first ≤ n → n < length st.versions + 1 → tables_in h' n ≡ (version_at st' n).tables
    each n from to =
        let seen : tables_in h' n ≡ (if nat_eq (n - h.first) (length h.tables) then v.tables else tables_in h n) =
        ap (λ (first : ℕ). unwrap_or (slice_get h'.tables (n - first)) []) grown.first ∙ ap (λ (ts : List Tables). unwrap_or (slice_get ts (n - h.first)) []) grown.tables ∙ get_more h.tables v.tables [] (n - h.first) in
        elim (nat_eq n (length st.versions)) as (λ b. nat_eq n (length st.versions) ≡ b → tables_in h' n ≡ (version_at st' n).tables) [
          | true ↦ λ e.
              let is : n ≡ length st.versions = same_number n (length st.versions) e in
              let there : nat_eq (n - h.first) (length h.tables) ≡ true = at_end n h.first (length h.tables) (length st.versions) is kept.counted in
              seen ∙ ap (λ (b : Bool). if b then v.tables else tables_in h n) there ∙ sym (ap (λ (w : Version). w.tables) (version_more st st' v n more ∙ ap (λ (b : Bool). if b then v else version_at st n) e))
          | false ↦ λ e.
              let not_there : nat_eq (n - h.first) (length h.tables) ≡ false = before n h.first (length h.tables) (length st.versions) e kept.counted (omega (arith, from, grown.first)) in
              let less : n < length st.versions = below n (length st.versions) e to in
              seen ∙ ap (λ (b : Bool). if b then v.tables else tables_in h n) not_there ∙ kept.tables n (omega (arith, from, grown.first)) less
              ∙ sym (ap (λ (w : Version). w.tables) (version_more st st' v n more ∙ ap (λ (b : Bool). if b then v else version_at st n) e))
        ] refl

-- a table that is created

pub not_yet : (rows : List CatRow) (us : List ConflictUnit) (n : ℕ) → AllByRecursion (λ r. r.seq + 1 ≤ n) rows → list_any (λ r. nat_eq r.seq n && share_unit (units_of_row r) us) rows ≡ false
not_yet [] us n all = refl
not_yet (r ∷ rs) us n all = let differ : nat_eq r.seq n ≡ false = apart r.seq n (λ e. absurd (omega (arith, e, all.0))) in rw differ (not_yet rs us n all.1)

pub further : (rows : List CatRow) (m n : ℕ) → m ≤ n → AllByRecursion (λ r. r.seq + 1 ≤ m) rows → AllByRecursion (λ r. r.seq + 1 ≤ n) rows
further [] m n le all = tt
further (r ∷ rs) m n le all = (omega (arith, le, all.0), further rs m n le all.1)

written_nothing : (st st' : State) (v : Version) (rows : List CatRow)
    → st'.versions ≡ st.versions ++ v ∷ [] → wrote v ≡ [] → IsWritten st rows → IsWritten st' rows
written_nothing st st' v rows more nothing written =
    let longer = ap (λ (vs : List Version). length vs) more ∙ length-append st.versions (v ∷ []) in
    record {
      units = λ n us. elim (nat_eq n (length st.versions)) as
          (λ b. nat_eq n (length st.versions) ≡ b
          → list_any (λ r. nat_eq r.seq n && share_unit (units_of_row r) us) rows
          ≡ share_unit (wrote (version_at st' n)) us) [
            | true ↦ λ e.
                let is : n ≡ length st.versions = same_number n (length st.versions) e in
                let none : list_any (λ r. nat_eq r.seq n && share_unit (units_of_row r) us) rows ≡ false = ap (λ (k : ℕ). list_any (λ r. nat_eq r.seq k && share_unit (units_of_row r) us) rows) is ∙ not_yet rows us (length st.versions) written.within in
                none ∙ sym (ap (λ (w : Version). share_unit (wrote w) us)
                (version_more st st' v n more
                ∙ ap (λ (b : Bool). if b then v else version_at st n) e)
                ∙ ap (λ (ws : List ConflictUnit). share_unit ws us) nothing)
            | false ↦ λ e. written.units n us
                ∙ sym (ap (λ (w : Version). share_unit (wrote w) us)
                (version_more st st' v n more ∙ ap (λ (b : Bool). if b then v else version_at st n) e))
          ] refl;
      within = further rows (length st.versions) (length st'.versions) (omega (arith, longer)) written.within;
    }

pub created_stands : (st : State) (t : Table) (count : ℕ) (h h' : History) (rs : List KeptTransaction) (catalog : Catalogued) (spare spare' number : ℕ) → StandsFor st count h rs catalog spare number → t.rows ≡ [] →
    GrowsBy h h' (newest_of h ++ t ∷ []) → ((name : List ℕ) → has_spare_rows h'.spares name (total (table_rows_for name) rs) ≡ true) → total entries_for rs ≤ spare' → StandsFor (after_created t st) (count + 1) h' rs catalog spare' number
created_stands st t count h h' rs catalog spare spare' number stands empty grown rooms enough =
    let v : Version = record (newest st) { tables = (newest st).tables ++ t ∷ []; struck = [] } in
    let P : Tables → Type 0 = λ ts. GrowsBy h h' (ts ++ t ∷ []) in
    let longer = length-append st.versions (v ∷ []) in
    record {
      history = history_more st (after_created t st) v h h' refl stands.history.snapshots stands.history (subst P (newest_same st h stands.history) grown);
      open_ones = stands.open_ones;
      own_sessions = stands.own_sessions;
      written = written_nothing st (after_created t st) v catalog.rows refl refl stands.written;
      numbered = stands.numbered;
      rooms = record { fit = stands.rooms.fit; entries = enough; catalog_rows = stands.rooms.catalog_rows; table_rows = rooms };
      few_versions = omega (arith, longer, stands.few_versions);
      few_numbers = omega (arith, stands.few_numbers);
    }

-- a session without a transaction keeps all rooms as they are
pub nothing_changes : (session : ℕ) (rs : List KeptTransaction) → HaveOwnSessions rs → IsNoSession session rs → LeavesRooms session rs rs
nothing_changes session rs own none = same_rooms session rs own none

-- what the code finds of a session

pub found_inside : (session : ℕ) (st : State) (rs ys : List KeptTransaction) (found : Option ℕ) → ys ≡ rs → found ≡ position (λ r. nat_eq r.session session) ys → is_some found ≡ true → AreOpen st.running rs → IsExplicit st session →
    (is_some (transaction st session) ≡ true) × (is_inside st session ≡ true)
found_inside session st rs ys None same is some open_ explicit = absurd cc
found_inside session st rs ys (Some place) same is some open_ explicit = some_inside session st rs place open_ (found_at session rs ys (Some place) place same is refl) explicit

pub found_outside : (session : ℕ) (rs ys : List KeptTransaction) (found : Option ℕ) → ys ≡ rs → found ≡ position (λ r. nat_eq r.session session) ys → is_some found ≡ false → IsNoSession session rs
found_outside session rs ys None same is none = found_nowhere session rs ys None same is refl
found_outside session rs ys (Some place) same is none = absurd cc

pub inside_begins : (st : State) (session : ℕ) (explicit : Bool) → is_some (transaction st session) ≡ true → facts.beginning st session explicit ≡ fact.Refused InTransaction
inside_begins st session explicit some = rw some refl

pub outside_begins : (st : State) (session : ℕ) (explicit : Bool) (h : History) (number txn snapshot : ℕ) → transaction st session ≡ None → st.last_number ≡ number → txn ≡ number + 1 → IsHistory st h → snapshot ≡ last_of h →
    fact.Began explicit txn snapshot ≡ facts.beginning st session explicit
outside_begins st session explicit h number txn snapshot none numbered txn_is kept snapshot_is =
    let some : is_some (transaction st session) ≡ false = ap (λ (o : Option Transaction). is_some o) none in
    rw some (λ i. fact.Began explicit ((txn_is ∙ ap (λ (n : ℕ). n + 1) (sym numbered)) i) ((snapshot_is ∙ last_same st h kept) i))

pub began_consistent : (who : Who) (explicit : Bool) (entries : List Noted) (h : History) (rs : List KeptTransaction) (r : KeptTransaction) (catalog : Catalogued) (spare spare' number snapshot : ℕ) → IsConsistent entries h rs catalog spare number → IsNoSession who.session rs → snapshot ≡ last_of h →
    IsOpen (who.session, record { explicit = explicit; number = number + 1; snapshot = snapshot; pending = no_change; worn = []; parts = 0 }) r → LeavesRooms who.session rs (r ∷ rs) → total entries_for (r ∷ rs) ≤ spare' →
    IsConsistent (entries ++ noted who (fact.Began explicit (number + 1) snapshot) ∷ []) h (r ∷ rs) catalog spare' (number + 1)
began_consistent who explicit entries h rs r catalog spare spare' number snapshot consistent none snapshot_is begun leaves enough =
    let st = state entries in
    let nothing : transaction st who.session ≡ None = open_none who.session st.running rs consistent.stands.open_ones none in
    let is = snapshot_is ∙ last_same st h consistent.stands.history in
    let P : Option Transaction → Type 0 = λ o. IsNone o in
    consistent_more entries (noted who (fact.Began explicit (number + 1) snapshot)) h (r ∷ rs) catalog spare' (number + 1) consistent.legal
    (subst P (sym nothing) refl, ap (λ (n : ℕ). n + 1) (sym consistent.stands.numbered), is)
    (began_stands st (length entries) who.session explicit h rs r catalog spare spare' number snapshot consistent.stands is (no_open who.session st.running rs consistent.stands.open_ones none) begun leaves enough)

pub adds_same : {old new : Lake} {who : Who} {f f' : Fact} → f ≡ f' → Adds old new who f → Adds old new who f'
adds_same {old} {new} {who} is adds = let P : Fact → Type 0 = λ f. Adds old new who f in subst P is adds

pub transaction_none : (session : ℕ) (st : State) (rs ys : List KeptTransaction) (found : Option ℕ) → ys ≡ rs → found ≡ position (λ r. nat_eq r.session session) ys → found ≡ None → AreOpen st.running rs → ◌≡◌ {A = Option OpenTxn} None (option_map opened (transaction st session))
transaction_none session st rs ys found same is none open_ =
    sym (ap (λ (o : Option Transaction). option_map opened o) (open_none session st.running rs open_ (found_nowhere session rs ys found same is none)))

pub transaction_some : (session : ℕ) (st : State) (rs ys : List KeptTransaction) (found : Option ℕ) (place : ℕ) (r : KeptTransaction) (result : OpenTxn) → ys ≡ rs → found ≡ position (λ r. nat_eq r.session session) ys → found ≡ Some place → AreOpen st.running rs → r ≡ get_or rs place r →
    ((o : ℕ × Transaction) → IsOpen o r → result ≡ opened o.1) → Some result ≡ option_map opened (transaction st session)
transaction_some session st rs ys found place r result same is some open_ here of =
    let there = open_at session st.running rs place r open_ (found_at session rs ys found place same is some) here in
    let opened_is : transaction st session ≡ Some there.transaction = there.opened in
    ap (λ (t : OpenTxn). Some t) (of (session, there.transaction) there.is) ∙ sym (ap (λ (o : Option Transaction). option_map opened o) opened_is)

-- what CREATE makes

pub inside_creates : (st : State) (session : ℕ) (table : List ℕ) (schema : TableColumns) → is_inside st session ≡ true → facts.creation st session table schema ≡ fact.Refused InTransaction
inside_creates st session table schema inside = rw inside refl

outside_inside : (st : State) (session : ℕ) → transaction st session ≡ None → is_inside st session ≡ false
outside_inside st session none = ap (λ (o : Option Transaction). option_map_or (λ t. t.explicit) o false) none

pub taken_creates : (st : State) (session : ℕ) (table : List ℕ) (schema : TableColumns) → transaction st session ≡ None → has_table table (newest st).tables ≡ true → facts.creation st session table schema ≡ fact.Refused (TableExists table)
taken_creates st session table schema none there =
    let outside = outside_inside st session none in
    rw (outside, there) refl

pub free_creates : (st : State) (session : ℕ) (table : List ℕ) (schema : TableColumns) → transaction st session ≡ None → has_table table (newest st).tables ≡ false → facts.creation st session table schema ≡ fact.Created table schema (last st + 1)
free_creates st session table schema none absent =
    let outside = outside_inside st session none in
    rw (outside, absent) refl

pub is_none_from : {X : Type 0} (o : Option X) → o ≡ None → IsNone o
is_none_from {X} o e = let P : Option X → Type 0 = λ p. IsNone p in subst P (sym e) refl

-- a table is created

pub created_consistent : (who : Who) (t : Table) (seq : ℕ) (entries : List Noted) (h h' : History) (rs : List KeptTransaction) (catalog : Catalogued) (spare spare' number : ℕ) → IsConsistent entries h rs catalog spare number → IsNone (transaction (state entries) who.session) →
    has_table t.name (newest (state entries)).tables ≡ false → seq ≡ last (state entries) + 1 → t.rows ≡ [] → GrowsBy h h' (newest_of h ++ t ∷ []) → ((name : List ℕ) → has_spare_rows h'.spares name (total (table_rows_for name) rs) ≡ true) → total entries_for rs ≤ spare' →
    IsConsistent (entries ++ noted who (fact.Created t.name t.schema seq) ∷ []) h' rs catalog spare' number
created_consistent who t seq entries h h' rs catalog spare spare' number consistent outside absent is empty grown rooms enough =
    let P : List MarkedRow → Type 0 = λ rows. StandsFor (after_created (record t { rows = rows }) (state entries)) (length entries + 1) h' rs catalog spare' number in
    consistent_more entries (noted who (fact.Created t.name t.schema seq)) h' rs catalog spare' number consistent.legal (outside, absent, is)
    (subst P empty (created_stands (state entries) t (length entries) h h' rs catalog spare spare' number consistent.stands empty grown rooms enough))

-- room for other tables, and for the new one
pub created_rooms : (table : List ℕ) (rs : List KeptTransaction) (h h' : History) → ((name : List ℕ) → has_spare_rows h.spares name (total (table_rows_for name) rs) ≡ true) → has_spare_rows h'.spares table (total (table_rows_for table) rs) ≡ true →
    ((other : List ℕ) (rows : ℕ) → same_text table other ≡ false → has_spare_rows h.spares other rows ≡ true → has_spare_rows h'.spares other rows ≡ true) → (name : List ℕ) → has_spare_rows h'.spares name (total (table_rows_for name) rs) ≡ true
created_rooms table rs h h' rooms own others name =
    elim (same_text table name) as (λ b. same_text table name ≡ b → has_spare_rows h'.spares name (total (table_rows_for name) rs) ≡ true) [
      | true ↦ λ e. ap (λ (n : List ℕ). has_spare_rows h'.spares n (total (table_rows_for n) rs)) (sym (same_text_is table name e)) ∙ own
      | false ↦ λ e. others name (total (table_rows_for name) rs) e (rooms name)
    ] refl

-- the session has none, so nothing of the transactions changes
pub outside_rooms : (session : ℕ) (st : State) (rs : List KeptTransaction) → AreOpen st.running rs → HaveOwnSessions rs → IsNone (transaction st session) → LeavesRooms session rs rs
outside_rooms session st rs open_ own none = same_rooms session rs own (no_session st.running rs open_ none)
  where
    no_session : (os : List (ℕ × Transaction)) (rs : List KeptTransaction) → AreOpen os rs → IsNone (opened_by session os) → IsNoSession session rs
    no_session [] [] open_ none = tt
    no_session [] (r ∷ rs) open_ none = absurd open_
    no_session (o ∷ os) [] open_ none = absurd open_
    no_session (o ∷ os) (r ∷ rs) open_ none =
        elim (nat_eq o.0 session) as (λ b. nat_eq o.0 session ≡ b → IsNone (if b then Some o.1 else opened_by session os) → IsNoSession session (r ∷ rs)) [
          | true ↦ λ e n. absurd cc
          | false ↦ λ e n. (ap (λ (m : ℕ). nat_eq m session) open_.0.session ∙ e, no_session os rs open_.1 n)
        ] refl none

-- nothing changed but that there is more room for entries
pub unchanged_consistent : (es es' : List Entry) (h h' : History) (rs : List KeptTransaction) (catalog : Catalogued) (spare spare' number : ℕ) → es' ≡ es → h' ≡ h → spare ≤ spare' → IsConsistent (chronicle_of es) h rs catalog spare number → IsConsistent (chronicle_of es') h' rs catalog spare' number
unchanged_consistent es es' h h' rs catalog spare spare' number same kept more consistent =
    let P : List Entry × History → Type 0 = λ p. IsConsistent (chronicle_of p.0) p.1 rs catalog spare' number in
    let stands = consistent.stands in
    let rooms = stands.rooms in
    subst P (λ i. (sym same i, sym kept i)) (record {
      legal = consistent.legal;
      stands = record {
        history = stands.history;
        open_ones = stands.open_ones;
        own_sessions = stands.own_sessions;
        written = stands.written;
        numbered = stands.numbered;
        rooms = record { fit = rooms.fit; entries = omega (arith, more, rooms.entries); catalog_rows = rooms.catalog_rows; table_rows = rooms.table_rows };
        few_versions = stands.few_versions;
        few_numbers = stands.few_numbers;
      };
    })

-- what the code finds, as callers see the lake

pub seen_outside : (session : ℕ) (es : List Entry) (h : History) (rs ys : List KeptTransaction) (catalog : Catalogued) (spare number : ℕ) (found : Option ℕ) (lake : Lake) → IsConsistent (chronicle_of es) h rs catalog spare number → record { entries = chronicle_of es; rooms = rooms_of rs } ≡ lake →
    ys ≡ rs → found ≡ position (λ r. nat_eq r.session session) ys → is_some found ≡ false → transaction (state_of lake) session ≡ None
seen_outside session es h rs ys catalog spare number found lake consistent seen same is none =
    ap (λ (l : Lake). transaction (state_of l) session) (sym seen) ∙ none_outside session (state (chronicle_of es)) rs consistent.stands.open_ones (found_outside session rs ys found same is none)

pub seen_inside : (session : ℕ) (es : List Entry) (h : History) (rs ys : List KeptTransaction) (catalog : Catalogued) (spare number : ℕ) (found : Option ℕ) (lake : Lake) → IsConsistent (chronicle_of es) h rs catalog spare number → record { entries = chronicle_of es; rooms = rooms_of rs } ≡ lake →
    ys ≡ rs → found ≡ position (λ r. nat_eq r.session session) ys → is_some found ≡ true → IsExplicit (state_of lake) session → is_inside (state_of lake) session ≡ true
seen_inside session es h rs ys catalog spare number found lake consistent seen same is some explicit =
    let P : Lake → Type 0 = λ l. IsExplicit (state_of l) session in
    ap (λ (l : Lake). is_inside (state_of l) session) (sym seen) ∙ (found_inside session (state (chronicle_of es)) rs ys found same is some consistent.stands.open_ones (subst P (sym seen) explicit)).1

pub seen_table : (name : List ℕ) (es : List Entry) (h : History) (rs : List KeptTransaction) (catalog : Catalogued) (spare number : ℕ) (found : Bool) (lake : Lake) → IsConsistent (chronicle_of es) h rs catalog spare number → record { entries = chronicle_of es; rooms = rooms_of rs } ≡ lake →
    found ≡ has_table name (newest_of h) → has_table name (newest (state_of lake)).tables ≡ found
seen_table name es h rs catalog spare number found lake consistent seen is =
    ap (λ (l : Lake). has_table name (newest (state_of l)).tables) (sym seen) ∙ ap (λ (ts : Tables). has_table name ts) (sym (newest_same (state (chronicle_of es)) h consistent.stands.history)) ∙ sym is
