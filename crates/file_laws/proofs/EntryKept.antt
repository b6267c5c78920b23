-- Entries that write nothing leave a book right.
use Rattle.std.proofs.Common.{◌≡◌, ℕ, ◌+◌, ◌<◌, ◌≤◌, Bool, true, false, not, ◌&&◌, ◌||◌, nat_eq}
use Rattle.std.proofs.Common.{List, [], ◌∷◌, ◌++◌, Option, None, Some, IfSome, IsSomeAnd, inl, inr}
use Rattle.std.proofs.Common.{map, refl, sym, ap, ◌∙◌, subst, arith, length-append, if◌then◌else◌}
use Rattle.std.proofs.lemmas.List.{append-nil}
use Rattle.std.specs.Option.{option_map_or}
use Rattle.std.specs.Prelude.{nat_le}
use Rattle.std.specs.List.{AllByRecursion, list_any}
use Rattle.lake_values.specs.declared.names.Name.{Name}
use Rattle.lake_values.specs.declared.values.Value.{Value}
use Rattle.sql_model.specs.declared.changes.Added.{Added}
use Rattle.sql_model.specs.declared.changes.Change.{Change}
use Rattle.lake_model.specs.declared.entries.Fact.{Fact}
use Rattle.lake_model.specs.declared.entries.Fact.TheVariants.{Created, Began, Ran, Committed}
use Rattle.lake_model.specs.declared.entries.Fact.TheVariants.{Conflict, Ended, RolledBack, Refused}
use Rattle.lake_model.specs.declared.entries.Fact.TheVariants.{Failed, Compacted, Checkpointed}
use Rattle.lake_model.specs.declared.entries.Fact.TheVariants.{Collected}
use Rattle.sql_model.specs.declared.replies.Reply.TheVariants.{Rows}
use Rattle.lake_model.specs.Allowed.{IsAllowedFact, IsOwnChange}
use Rattle.sql_model.specs.Changes.{additions_left, is_nil, no_change, version_after}
use Rattle.lake_model.specs.State.{Check, State, Noted, Transaction, after_began, after_created}
use Rattle.lake_model.specs.State.{after_fact, after_stop, ended, last, newest, state, transaction}
use Rattle.lake_model.specs.State.{turned, view, with_part, opening, with_version, with_check}
use Rattle.sql_model.specs.Versions.{Table, Version}
use Rattle.lake_values.specs.Texts.{same_text}
use Rattle.sql_model.proofs.Lists.{all_filter, all_weaker}
use Rattle.manifest_block.specs.declared.items.Item.{Item}
use Rattle.table_snapshot.specs.declared.files.FileRow.{FileRow}
use Rattle.lake_model.specs.Laws.{IsSound}
use Rattle.write_set_catalog.specs.Names.{NamesRow}
use Rattle.file_laws.specs.Catalogues.{gives, has_name, is_running}
use Rattle.file_laws.specs.Collector.{checks_of}
use Rattle.file_laws.specs.Commits.{HaveNames, IsCommit}
use Rattle.file_laws.specs.Contents.{Contents}
use Rattle.table_snapshot.specs.Files.{items_of}
use Rattle.file_laws.specs.Kept.{Agrees, Book, HasBlobs, IsKept, Follows, IsNext, NamesAgree}
use Rattle.file_laws.specs.Kept.{OwnsItems, shown, shown_row}
use Rattle.file_laws.specs.KeptLaws.{HasMore, KeptAsItIs, KeptBegan, KeptOverBlobs, KeptQuery}
use Rattle.file_laws.specs.KeptLaws.{begun, leaves_book}
use Rattle.file_laws.specs.Stands.{Stands, files_at, rows_of, rows_to, Checkpoint}
use Rattle.file_laws.specs.StandsLaws.{NumbersStand, with_items}
use Rattle.file_laws.specs.Touching.{AddsOwn, HasNone, Row, is_name_of}
use Rattle.file_laws.proofs.CommitLemmas.{commits_stand}
use Rattle.file_laws.proofs.StandLemmas.{all_map}
use Rattle.file_laws.proofs.EntryLaws.{stands_began, stands_created, stands_ended, turned_stands}
use Rattle.file_laws.proofs.FreeLaw.{rows_names}
use Rattle.file_laws.proofs.KeptLemmas.{OpenFrom, carry, ended_was, files_above, grow, more_same}
use Rattle.file_laws.proofs.KeptLemmas.{numbers_from, own_blobs, owns_later, owns_over, stands_over}
use Rattle.file_laws.proofs.KeptLemmas.{turned_was}
use Rattle.lake_model.proofs.Sound.{states_are_sound}
use Rattle.file_laws.proofs.SoundLemmas.{legal_parts, state_next}
use Rattle.sql_model.specs.declared.replies.Reply.{Reply}

-- the checkpoints that a state has after an entry

ran_checks : (session : ℕ) (reply : Reply) (change : Change) (st : State) (o : Option Transaction) →
    (option_map_or (λ t. turned session (with_part reply change t) st) o st).checks ≡ st.checks
ran_checks session reply change st None = refl
ran_checks session reply change st (Some t) = refl

commit_checks : (session : ℕ) (dropped added : List Name) (st : State) (o : Option Transaction)
    → (option_map_or (λ t. ended session (with_version
    (version_after (last st + 1) t.pending t.worn (newest st)) dropped added st))
    o st).checks
    ≡ st.checks
commit_checks session dropped added st None = refl
commit_checks session dropped added st (Some t) = refl

part_checks : (session : ℕ) (t : Transaction) (st : State) (stays : Bool) → (if stays then turned
    session (record t { parts = t.parts + 1 }) st else ended session st).checks ≡ st.checks
part_checks session t st true = refl
part_checks session t st false = refl

stop_checks : (session : ℕ) (ends : Bool) (st : State) (o : Option Transaction)
    → (option_map_or (λ t. if t.explicit && not ends then turned session
    (record t { parts = t.parts + 1 }) st else ended session st) o st).checks ≡ st.checks
stop_checks session ends st None = refl
stop_checks session ends st (Some t) = part_checks session t st (t.explicit && not ends)

fact_checks : (session : ℕ) (ends : Bool) (f : Fact) (st : State) →
    (after_fact session ends f st).checks ≡ st.checks ++ checks_of st f
fact_checks session ends (Created table schema seq) st = sym (append-nil st.checks)
fact_checks session ends (Began explicit txn snapshot) st = sym (append-nil st.checks)
fact_checks session ends (Ran reply change) st =
    ran_checks session reply change st (transaction st session) ∙ sym (append-nil st.checks)
fact_checks session ends (Committed seq added dropped) st =
    commit_checks session dropped added st (transaction st session) ∙ sym (append-nil st.checks)
fact_checks session ends (Conflict seq) st = sym (append-nil st.checks)
fact_checks session ends Ended st = sym (append-nil st.checks)
fact_checks session ends RolledBack st = sym (append-nil st.checks)
fact_checks session ends (Refused cause) st =
    stop_checks session false st (transaction st session) ∙ sym (append-nil st.checks)
fact_checks session ends (Failed cause) st =
    stop_checks session ends st (transaction st session) ∙ sym (append-nil st.checks)
fact_checks session ends (Compacted table cells marks seq added dropped) st =
    sym (append-nil st.checks)
fact_checks session ends (Checkpointed table at name) st = refl
fact_checks session ends (Collected names floor) st = sym (append-nil st.checks)

pub checks_next : (entries : List Noted) (e : Noted) → (state (entries ++ e ∷ [])).checks ≡
    (state entries).checks ++ checks_of (state entries) e.entry.fact
checks_next entries e =
    ap (λ (st : State). st.checks) (state_next entries e) ∙ fact_checks e.entry.session e.ends
    e.entry.fact (state entries)

-- What an entry of a fact makes of a right book. Its new rows have manifests of open transactions.
pub kept_next : (k k' : Book) (entries : List Noted) (e : Noted) (f : Fact) (more : List Row) →
    IsKept k entries → IsNext entries e f
    → map (λ (c : Checkpoint). c.check) k'.checks ≡ map (λ (c : Checkpoint). c.check) k.checks ++
    checks_of (state entries) f → map shown_row k'.rows ≡ map shown_row k.rows ++ map shown_row
    more
    → AllByRecursion
    (λ r. IfSome r.manifest (λ m. is_running (shown k (state entries)) m.txn ≡ true)) more
    → (IsSound (state entries) → IsAllowedFact true (state entries) e.entry.session f → Agrees k'
    (after_fact e.entry.session e.ends f (state entries))) → Follows k k' entries e
kept_next k k' entries e f more kept next checks rows running step =
    let may = (legal_parts opening entries (e ∷ []) next.legal).1.0 in
    let allowed = subst (λ (f : Fact). IsAllowedFact true (state entries) e.entry.session f)
    next.fact may in
    let agrees = step (states_are_sound entries kept.legal) allowed in
    record {
      kept = record {
        legal = next.legal;
        noted = checks ∙ ap (λ (cs : List Check). cs ++ checks_of (state entries) f) kept.noted ∙ ap
            (λ (f : Fact). (state entries).checks ++ checks_of (state entries) f) (sym next.fact) ∙
            sym (checks_next entries e);
        agrees = subst (λ (st : State). Agrees k' st) (sym (state_next entries e)) (subst
            (λ (f : Fact). Agrees k' (after_fact e.entry.session e.ends f (state entries)))
            (sym next.fact) agrees);
      };
      gains = record {
        more = map shown_row more;
        rows = rows;
        own = all_map
            (λ r. IfSome r.manifest (λ m. is_running (shown k (state entries)) m.txn ≡ true))
            shown_row more running;
        checks = checks ∙ ap (λ (f : Fact). map (λ (c : Checkpoint). c.check) k.checks ++ checks_of
            (state entries) f) (sym next.fact);
      };
    }

pub same_open : (st st' : State) →
    ((session : ℕ) (t : Transaction) → transaction st' session ≡ Some t
    → transaction st session ≡ Some t) → OpenFrom st st'
same_open st st' from session t is = inl (t, from session t is, refl)

-- a new table

-- a version without rows has the names of the one before
module _ (k : Book) (st : State) (v : Version) (sound : IsSound st)
    (within : AllByRecursion (λ r. r.seq ≤ last st) k.rows) (have : HaveNames st (shown k st)) where
  abbrev next_state : State
  next_state = with_version v [] [] st

  longer : last next_state ≡ last st + 1
  longer = omega (arith, length-append st.versions (v ∷ []), sound.some_version)

  or_false : (a b : Bool) → a ≡ b → (a || false) ≡ ((b && true) || false)
  or_false a true e = ap (λ (x : Bool). x || false) e
  or_false a false e = ap (λ (x : Bool). x || false) e

  and_true : (rs : List NamesRow) (name : Name) → list_any
      (λ r. gives (shown k st) (last st) name r && true) rs ≡ list_any
      (gives (shown k st) (last st) name) rs
  and_true [] name = refl
  and_true (r ∷ rs) name = elim (gives (shown k st) (last st) name r) as (λ b.
      ((b && true) || list_any (λ r. gives (shown k st) (last st) name r && true) rs) ≡
      (b || list_any (gives (shown k st) (last st) name) rs))
      [ true ↦ refl | false ↦ and_true rs name ]

  no_rows : IsCommit (shown k st) [] [] []
  no_rows = record {
    behind = all_map (λ r. r.seq ≤ last st) shown_row k.rows within;
    next = tt;
    names = λ name. or_false
        (list_any (λ r. gives (shown k st) (last st) name r && true) (map shown_row k.rows))
        (has_name (shown k st) (last st) name) (and_true (map shown_row k.rows) name);
  }

  pub names_with_none : HaveNames next_state (shown k next_state)
  names_with_none version name low high =
      let more = commits_stand st (shown k st) [] v [] [] sound.counted sound.some_version refl
      sound.floor no_rows have version name low (omega (arith, high, longer)) in
      ap (λ (rs : List NamesRow). has_name
      (record (shown k st) { rows = rs; last = last st + 1 }) version name)
      (sym (append-nil (map shown_row k.rows))) ∙ more

no_names : (k : Book) (st : State) (v : Version) → IsSound st → Agrees k st → NamesAgree
    (record k { rows = k.rows ++ [] }) (with_version v [] [] st)
no_names k st v sound agrees =
    subst (λ (rs : List Row). NamesAgree (record k { rows = rs }) (with_version v [] [] st))
    (sym (append-nil k.rows)) (record {
      once = agrees.names.once;
      turns = agrees.names.turns;
      own = agrees.names.own;
      one_table = agrees.names.one_table;
      versions = names_with_none k st v sound agrees.stands.within agrees.names.versions;
    })

pub created_agrees : (k : Book) (st : State) (t : Table) → IsSound st → t.rows ≡ [] → Agrees k st →
    Agrees k (after_created t st)
created_agrees k st t sound none agrees =
    let v : Version = record (newest st) { tables = (newest st).tables ++ t ∷ []; struck = [] } in
    let st' = after_created t st in
    let same = append-nil k.rows in
    let stands : Stands k.contents (k.rows ++ []) k.items st' = subst
    (λ (rs : List Row). Stands k.contents rs k.items st') (sym same)
    (stands_created k.contents k.rows k.items st t agrees.stands sound.floor none) in
    let numbers : NumbersStand (k.rows ++ []) st' = subst (λ (rs : List Row). NumbersStand rs st')
    (sym same) (numbers_from k.rows st st' agrees.numbers agrees.given
    (same_open st st' (λ session t is. is))) in
    let has : (table : List ℕ) → HasBlobs k.contents (files_at (k.rows ++ []) (last st + 1) table) =
    λ table. subst (λ (rs : List Row). HasBlobs k.contents (files_at rs (last st + 1) table))
    (sym same) (has_last table) in
    subst (λ (rs : List Row). Agrees (record k { rows = rs }) st') same (grow k [] st st' v agrees
    stands numbers refl refl refl tt tt tt (λ m no. absurd cc) (no_names k st v sound agrees)
    (λ session t is. is) has)
  where
    has_last : (table : List ℕ) → HasBlobs k.contents (files_at k.rows (last st + 1) table)
    has_last table = subst (λ (fs : List FileRow). HasBlobs k.contents fs)
        (sym (files_above k.rows (last st + 1) (last st) table (omega arith) agrees.stands.within))
        (agrees.blobs (last st) table sound.floor (omega arith))

-- an end

pub ended_agrees : (k : Book) (st : State) (session : ℕ) → Agrees k st → Agrees k (ended session st)
ended_agrees k st session agrees =
    let from : (other : ℕ) (t : Transaction) → transaction (ended session st) other ≡ Some t →
    transaction st other ≡ Some t = λ other t is. ended_was session other st t is in
    carry k k.items st (ended session st) agrees
    (stands_ended k.contents k.rows k.items st session agrees.stands) refl refl (omega arith)
    (omega arith) (same_open st (ended session st) from)
    (λ other t is. agrees.open_items other t (from other t is))

pub noted_agrees : (k : Book) (st : State) (table : List ℕ) (at : ℕ) (name : Name) → Agrees k st →
    Agrees k (with_check table at name st)
noted_agrees k st table at name agrees =
    let st' = with_check table at name st in
    let was = agrees.stands in
    let stands : Stands k.contents k.rows k.items st' = record {
      some = was.some;
      order = was.order;
      within = was.within;
      touching = was.touching;
      versions = was.versions;
      open_ones = λ session t is. let one = was.open_ones session t is in record
          { known = one.known; snapshot = one.snapshot; each = one.each };
    } in
    carry k k.items st st' agrees stands refl refl (omega arith) (omega arith)
    (same_open st st' (λ other t is. is)) (λ other t is. agrees.open_items other t is)

stopped_agrees : (k : Book) (st : State) (session : ℕ) (ends : Bool) → Agrees k st → Agrees k
    (after_stop session ends st)
stopped_agrees k st session ends agrees =
    elim (transaction st session) as (λ o. transaction st session ≡ o → Agrees k (option_map_or (λ
    t. if t.explicit && not ends then turned session (record t { parts = t.parts + 1 })
    st else ended session st) o st)) [
      | None ↦ λ e. agrees
      | Some t ↦ λ e. elim (t.explicit && not ends) as (λ b. Agrees k
          (if b then turned session (record t { parts = t.parts + 1 }) st else ended session st)) [
            | true ↦ at t e
            | false ↦ ended_agrees k st session agrees
          ]
    ] refl
  where
    at : (t : Transaction) → transaction st session ≡ Some t → Agrees k
        (turned session (record t { parts = t.parts + 1 }) st)
    at t e =
        let t' : Transaction = record t { parts = t.parts + 1 } in
        let st' = turned session t' st in
        let was = agrees.stands.open_ones session t e in
        let stands = turned_stands k.contents k.rows k.items k.items st session t' agrees.stands
        (record {
          known = was.known;
          snapshot = was.snapshot;
          each = λ table. let seen =
              was.each table in record {
                may = seen.may;
                none = seen.none;
                part = seen.part;
                own_rows = seen.own_rows;
                own_marks = seen.own_marks;
                stands = seen.stands;
              };
        })
        (λ other differ. refl) in
        let from : OpenFrom st st' = λ other u is. elim (turned_was session other t' st u is) [
          | inl
              off ↦ inl (u, off.1, refl)
          | inr here ↦ inl
              (t, ap (transaction st) here.0 ∙ e, ap (λ (v : Transaction). v.number) here.1)
        ] in
        carry k k.items st st' agrees stands refl refl (omega arith) (omega arith) from
        (λ other u is. elim (turned_was session other t' st u is) [
          | inl off ↦ agrees.open_items other u off.1
          | inr here ↦ subst (λ (v : Transaction). OwnsItems k.contents (k.items other) v) here.1
              (owns_later k.contents (k.items other) t
              (agrees.open_items other t (ap (transaction st) here.0 ∙ e)))
        ])

pub kept_as_it_is : KeptAsItIs
kept_as_it_is k entries e f kept leaves next =
    kept_next k k entries e f [] kept next (no_check f leaves)
    (sym (append-nil (map shown_row k.rows))) tt (λ sound may. by f leaves sound)
  where
    same : map (λ (c : Checkpoint). c.check) k.checks ≡ map (λ (c : Checkpoint). c.check) k.checks
        ++ []
    same = sym (append-nil (map (λ (c : Checkpoint). c.check) k.checks))

    no_check : (f : Fact) → leaves_book f ≡ true → map (λ (c : Checkpoint). c.check) k.checks ≡ map
        (λ (c : Checkpoint). c.check) k.checks ++ checks_of (state entries) f
    no_check (Created table schema seq) leaves = same
    no_check (Began explicit txn snapshot) leaves = same
    no_check (Ran reply change) leaves = same
    no_check (Committed seq added dropped) leaves = same
    no_check (Conflict seq) leaves = same
    no_check Ended leaves = same
    no_check RolledBack leaves = same
    no_check (Refused cause) leaves = same
    no_check (Failed cause) leaves = same
    no_check (Compacted table cells marks seq added dropped) leaves = same
    no_check (Checkpointed table at name) leaves = absurd cc
    no_check (Collected names floor) leaves = same

    by : (f : Fact) → leaves_book f ≡ true → IsSound (state entries) → Agrees k
        (after_fact e.entry.session e.ends f (state entries))
    by (Created table schema seq) leaves sound = created_agrees k (state entries)
        (record { name = table; schema = schema; rows = [] }) sound refl kept.agrees
    by (Began explicit txn snapshot) leaves sound = absurd cc
    by (Ran reply change) leaves sound = absurd cc
    by (Committed seq added dropped) leaves sound = absurd cc
    by (Conflict seq) leaves sound = ended_agrees k (state entries) e.entry.session kept.agrees
    by Ended leaves sound = ended_agrees k (state entries) e.entry.session kept.agrees
    by RolledBack leaves sound = ended_agrees k (state entries) e.entry.session kept.agrees
    by (Refused cause) leaves sound = stopped_agrees k (state entries) e.entry.session false
        kept.agrees
    by (Failed cause) leaves sound = stopped_agrees k (state entries) e.entry.session e.ends
        kept.agrees
    by (Compacted table cells marks seq added dropped) leaves sound = absurd cc
    by (Checkpointed table at name) leaves sound = absurd cc
    by (Collected names floor) leaves sound = absurd cc

-- a beginning

pub same_itself : (n : ℕ) → nat_eq n n ≡ true
same_itself n = grind arith

-- no file has a number that wasn't given
pub none_given : (rows : List Row) (st : State) (n number : ℕ) (table : List ℕ) → NumbersStand rows
    st → AllByRecursion (λ r. r.txn ≤ st.last_number) rows → st.last_number < number → HasNone
    number (files_at rows n table)
none_given rows st n number table numbers given new =
    let mine = rows_of table rows in
    let of_mine : (P : Row → Type 0) → AllByRecursion P rows → AllByRecursion P (rows_to n mine) = λ
    P all. all_filter P (λ r. nat_le r.seq n) mine
    (all_filter P (λ r. same_text r.table table) rows all) in
    rows_names (λ m. is_name_of number m ≡ false) (rows_to n mine) (of_mine
    (λ r. (m : Name) → is_name_of r.txn m ≡ true → is_name_of number m ≡ false)
    (all_weaker rows (λ r le m is. other m.txn r.txn number st.last_number le is new) given))
    (of_mine (λ r. AddsOwn r.txn r.items) numbers.own_adds) [] tt
  where
    other : (m r number l : ℕ) → r ≤ l → nat_eq m r ≡ true → l < number → nat_eq m number ≡ false
    other m r number l le is less = grind arith

began_agrees : (k : Book) (st : State) (session : ℕ) (explicit : Bool) (number snapshot : ℕ) →
    IsSound st → number ≡ st.last_number + 1 → snapshot ≡ last st → Agrees k st → Agrees
    (begun k session) (after_began session explicit number snapshot st)
began_agrees k st session explicit number snapshot sound is at_last agrees =
    let t : Transaction = record {
      explicit = explicit;
      number = number;
      snapshot = snapshot;
      pending = no_change;
      worn = [];
      parts = 0;
    } in
    let items' = with_items session [] k.items in
    let st' = after_began session explicit number snapshot st in
    let stands : Stands k.contents k.rows items' st' = subst
    (λ (n : ℕ). Stands k.contents k.rows items' (after_began session explicit number n st))
    (sym at_last)
    (stands_began k.contents k.rows k.items st session explicit number agrees.stands sound.floor (λ
    table. none_given k.rows st (last st) number table agrees.numbers agrees.given
    (omega (arith, is)))) in
    let from : OpenFrom st st' = λ other u is'. elim (turned_was session other t st u is') [
      | inl
          off ↦ inl (u, off.1, refl)
      | inr here ↦ inr
          (omega (arith, is, ap (λ (v : Transaction). v.number) here.1))
    ] in
    carry k items' st st' agrees stands refl refl (omega (arith, is)) (omega arith) from
    (λ other u is'. elim (turned_was session other t st u is') [
      | inl off ↦ subst (λ (own : List Item). OwnsItems k.contents own u)
          (sym (ap (λ (b : Bool). if b then [] else k.items other) off.0))
          (agrees.open_items other u off.1)
      | inr here ↦
          let mine : items' other ≡ [] = ap (λ (n : ℕ). items' n) here.0 ∙ ap
          (λ (b : Bool). if b then [] else k.items session) (same_itself session) in
          subst (λ (own : List Item). OwnsItems k.contents own u) (sym mine) (subst
          (λ (v : Transaction). OwnsItems k.contents [] v) here.1 (record {
            items = tt;
            added
                = tt;
            apart = tt;
            worn = tt;
            one_table = λ name one other is no. absurd cc;
          }))
    ])

pub kept_began : KeptBegan
kept_began k entries e explicit txn snapshot kept next =
    kept_next k (begun k e.entry.session) entries e (Began explicit txn snapshot) [] kept next
    (sym (append-nil (map (λ (c : Checkpoint). c.check) k.checks)))
    (sym (append-nil (map shown_row k.rows))) tt (λ sound may. began_agrees k (state entries)
    e.entry.session explicit txn snapshot sound may.1 may.2 kept.agrees)

-- a query

nothing_left : (as' : List Added) → AllByRecursion (λ a. is_nil a.rows ≡ false) as' → additions_left
    [] as' ≡ as'
nothing_left [] all = refl
nothing_left (a ∷ as') all = rw all.0 (ap (λ (bs : List Added). a ∷ bs) (nothing_left as' all.1))

same_transaction : (rows : List (List Value)) (t : Transaction) → AllByRecursion
    (λ a. is_nil a.rows ≡ false) t.pending.added → with_part (Rows rows) no_change t ≡ t
same_transaction rows t all =
    let removed : t.pending.removed ++ [] ≡ t.pending.removed = append-nil t.pending.removed in
    let added : additions_left [] t.pending.added ++ [] ≡ t.pending.added = append-nil
    (additions_left [] t.pending.added) ∙ nothing_left t.pending.added all in
    let worn : t.worn ++ [] ≡ t.worn = append-nil t.worn in
    let parts : t.parts + 0 ≡ t.parts = omega arith in
    (λ i. record {
      explicit = t.explicit;
      number = t.number;
      snapshot = t.snapshot;
      pending =
          record { removed = removed i; added = added i };
      worn = worn i;
      parts = parts i;
    })

query_agrees : (k : Book) (st : State) (session : ℕ) (rows : List (List Value)) (change : Change)
    (o : Option Transaction) → transaction st session ≡ o → IsSomeAnd o
    (IsOwnChange true (view st session).tables (Rows rows) change) → Agrees k st
    → Agrees k (option_map_or (λ t. turned session (with_part (Rows rows) change t) st) o st)
query_agrees k st session rows change None e may agrees = agrees
query_agrees k st session rows change (Some t) e may agrees =
    let owns = agrees.open_items session t e in
    let none : change ≡ no_change = may.replies in
    let same : with_part (Rows rows) change t ≡ t = ap (λ (c : Change). with_part (Rows rows) c t)
    none ∙ same_transaction rows t (all_weaker t.pending.added (λ a is. is.1) owns.added) in
    let st' = turned session t st in
    let stands = turned_stands k.contents k.rows k.items k.items st session t agrees.stands
    (agrees.stands.open_ones session t e) (λ other differ. refl) in
    let was : (other : ℕ) (u : Transaction) → transaction st' other ≡ Some u → transaction st other
    ≡ Some u = λ other u is. elim (turned_was session other t st u is) [
      | inl off ↦ off.1
      | inr
          here ↦ ap (transaction st) here.0 ∙ e ∙ ap (λ (v : Transaction). Some v) here.1
    ] in
    subst (λ (u : Transaction). Agrees k (turned session u st)) (sym same) (carry k k.items st st'
    agrees stands refl refl (omega arith) (omega arith) (same_open st st' was)
    (λ other u is. agrees.open_items other u (was other u is)))

pub kept_query : KeptQuery
kept_query k entries e rows change kept next =
    kept_next k k entries e (Ran (Rows rows) change) [] kept next
    (sym (append-nil (map (λ (c : Checkpoint). c.check) k.checks)))
    (sym (append-nil (map shown_row k.rows))) tt (λ sound may. query_agrees k (state entries)
    e.entry.session rows change (transaction (state entries) e.entry.session) refl may
    kept.agrees)

-- more blobs

blobs_of_more : (c c' : Contents) → HasMore c c' → (fs : List FileRow) → HasBlobs c fs → HasBlobs c'
    fs
blobs_of_more c c' more fs has =
    all_weaker fs (λ f is. all_weaker (f.file ∷ _) (λ n held. (more n held).0) is) has

pub kept_over_blobs : KeptOverBlobs
kept_over_blobs k entries c kept more =
    let agrees = kept.agrees in
    record {
      legal = kept.legal;
      noted = kept.noted;
      agrees = record {
        stands = stands_over k.contents c k.rows k.items (state entries) agrees.stands (λ n table
            low high. more_same k.contents c more (files_at k.rows n table)
            (agrees.blobs n table low high))
            (λ session t table is.
            let owns = agrees.open_items session t is in
            let snapshot = (agrees.stands.open_ones session t is).snapshot in
            more_same k.contents c more _ (own_blobs k.contents t.number t.parts 0
            (items_of table (k.items session)) (all_filter _ _ (k.items session) owns.items)
            (files_at k.rows t.snapshot table)
            (agrees.blobs t.snapshot table snapshot.0 snapshot.1)));
        numbers = agrees.numbers;
        given = agrees.given;
        open_items = λ session t is. owns_over k.contents c (k.items session) t
            (λ n own held. (more n held).0) (agrees.open_items session t is);
        checks = agrees.checks;
        checked = agrees.checked;
        marks = agrees.marks;
        struck = agrees.struck;
        names = record {
          once = agrees.names.once;
          turns = agrees.names.turns;
          own =
              agrees.names.own;
          one_table = agrees.names.one_table;
          versions =
              agrees.names.versions;
        };
        blobs = λ n table low high. blobs_of_more k.contents c more (files_at k.rows n table)
            (agrees.blobs n table low high);
      };
    }
