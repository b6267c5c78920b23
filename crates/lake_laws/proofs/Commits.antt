-- A commit keeps it that the catalogue stands.
use Rattle.std.proofs.Common.{◌≡◌, ℕ, ◌+◌, Bool, true, false, not, ◌&&◌, nat_eq, List}
use Rattle.std.proofs.Common.{[], ◌∷◌, ◌++◌, Option, Some, IsSomeAnd, flat_map, refl}
use Rattle.std.proofs.Common.{sym, ap, ◌∙◌, subst, arith, length-append}
use Rattle.std.proofs.lemmas.List.{append-nil}
use Rattle.std.specs.Prelude.{IsTrue}
use Rattle.std.specs.List.{AllByRecursion, list_all, list_any}
use Rattle.std.specs.Option.{option_map_or}
use Rattle.lake_values.specs.declared.names.Name.{Name}
use Rattle.lake_values.specs.Names.{is_among, same_name}
use Rattle.sql_model.specs.Changes.{version_after}
use Rattle.sql_model.specs.Units.{marks_of}
use Rattle.sql_model.specs.Versions.{Version}
use Rattle.sql_model.proofs.Lists.{all_append, all_weaker}
use Rattle.lake_model.specs.declared.entries.Fact.TheVariants.{Committed}
use Rattle.lake_model.specs.Allowed.{MayCommit, can_rename, has_names, is_new_name}
use Rattle.lake_model.specs.Laws.{IsSound}
use Rattle.lake_model.specs.Names.{holds_rows}
use Rattle.lake_model.specs.State.{State, Transaction, after_commit, ended, last, newest}
use Rattle.lake_model.specs.State.{transaction}
use Rattle.lake_model.specs.State.{with_version}
use Rattle.lake_model.specs.Told.{WhereTold}
use Rattle.lake_model.proofs.EndedNames.{names_have_ended}
use Rattle.lake_model.proofs.Sound.{opened_all}
use Rattle.write_set_catalog.specs.Catalogs.{Catalogue, ToldCommit, with_commit, without_running}
use Rattle.file_laws.specs.Kept.{adds, writes}
use Rattle.file_laws.specs.KeptLaws.{AreRows, with_rows}
use Rattle.file_laws.specs.Noting.{AreWritten}
use Rattle.file_laws.specs.Touching.{Row}
use Rattle.file_laws.proofs.CommitKept.{kept_commit}
use Rattle.file_laws.proofs.DropKept.{kept_drops}
use Rattle.file_laws.proofs.LastRows.{rows_at_last}
use Rattle.file_laws.proofs.NoteKept.{commit_adds, noted_commit}
use Rattle.file_laws.proofs.NameKept.{among_self}
use Rattle.file_laws.proofs.NoteLemmas.{flat_append}
use Rattle.file_laws.proofs.ReplayLemmas.{name_tells}
use Rattle.file_laws.proofs.Some.{any_known, not_true}
use Rattle.lake_laws.specs.Books.{book, rows_of_commit}
use Rattle.lake_laws.specs.Chronicles.{Beside, chronicle, own_items, state_of}
use Rattle.lake_laws.specs.Laws.{AsksOfCommit, ComesNext, CommitIsAllowed, StandsCommitted}
use Rattle.lake_laws.specs.Laws.{after_entry}
use Rattle.lake_laws.specs.Standing.{IsStanding, SpellsItems}
use Rattle.lake_laws.proofs.Entries.{ended_state, kept_comes, noted_comes, stands_with, with_own}
use Rattle.lake_laws.proofs.Parts.{HasState, items_stay, sound_of, state_had}
use Rattle.lake_laws.proofs.Tables.{schemas_changed, tables_same}

-- names that no version has

not_in : (name : Name) (names : List (List Name)) (number : ℕ) → AllByRecursion
    (λ ns. AllByRecursion (λ n. nat_eq n.txn number ≡ false) ns) names → nat_eq name.txn number ≡
    true → list_any (is_among name) names ≡ false
not_in name [] number all mine = refl
not_in name (ns ∷ nss) number all mine =
    rw (one ns all.0) (not_in name nss number all.1 mine)
  where
    one : (ns : List Name) → AllByRecursion (λ n. nat_eq n.txn number ≡ false) ns → is_among name ns
        ≡ false
    one [] all = refl
    one (n ∷ ns) all = rw (other n all.0) (one ns all.1)
      where
        other : (n : Name) → nat_eq n.txn number ≡ false → same_name name n ≡ false
        other n off = not_true (same_name name n) (λ e.
            let same : nat_eq name.txn number ≡ nat_eq n.txn number = ap
            (λ (m : Name). nat_eq m.txn number) (name_tells name n e) in
            let no : true ≡ false = sym mine ∙ same ∙ off in absurd cc)

all_new : (st : State) (number : ℕ) (names : List Name) → AllByRecursion
    (λ n. (holds_rows n ≡ true) × (nat_eq n.txn number ≡ true) ×
    (list_any (is_among n) st.names ≡ false)) names → list_all (is_new_name st number) names ≡ true
all_new st number [] all = refl
all_new st number (n ∷ ns) all =
    let here : is_new_name st number n ≡ true = (λ i. all.0.0 i && all.0.1 i && not (all.0.2 i)) in
    rw here (all_new st number ns all.1)

module _ (told : Bool) (c : Catalogue) (entries : List Beside) (session : ℕ) (t : Transaction)
    (gained lost : List Name) (commit : ToldCommit) (stands : IsStanding told c entries)
    (asks : AsksOfCommit told c entries session t gained lost commit) where
  abbrev st : State
  st = state_of entries

  abbrev rows : List Row
  rows = rows_of_commit commit

  written : AreWritten t.number t.parts (own_items entries session)
  written = stands.noted.agrees.open_items session t asks.opened

  -- each name that the commit gains its items write
  gained_written : (n : Name) → is_among n gained ≡ true → list_any (writes n)
      (own_items entries session) ≡ true
  gained_written n is = any_known
      (λ r. (m : Name) → adds m r ≡ true → list_any (writes m) (own_items entries session) ≡ true)
      (adds n) (list_any (writes n) (own_items entries session) ≡ true) (rows_of_commit commit)
      (commit_adds (book c entries) (state_of entries) session t gained lost (rows_of_commit commit)
      (sound_of told c entries stands) stands.noted.agrees asks.opened asks.rows)
      (λ r all here. all n here) (asks.rows.added n ∙ is)

  all_gained : AllByRecursion (λ n. (holds_rows n ≡ true) × (nat_eq n.txn t.number ≡ true) ×
      (list_any (is_among n) (state_of entries).names ≡ false)) gained
  all_gained = all_weaker gained one (among_self gained)
    where
      ended_names : AllByRecursion (λ ns. AllByRecursion (λ n. nat_eq n.txn t.number ≡ false) ns)
          (state_of entries).names
      ended_names = opened_all
          (λ u. AllByRecursion (λ ns. AllByRecursion (λ n. nat_eq n.txn u.number ≡ false) ns)
          (state_of entries).names) session (state_of entries).running t
          (names_have_ended told (chronicle entries) stands.noted.legal).ended asks.opened

      one : (n : Name) → is_among n gained ≡ true → (holds_rows n ≡ true) ×
          (nat_eq n.txn t.number ≡ true) ×
          (list_any (is_among n) (state_of entries).names ≡ false)
      one n is =
          let wrote = gained_written n is in
          let own = (written.own n wrote).0 in
          (written.kinds n wrote, own, not_in n (state_of entries).names t.number ended_names own)

  renames : can_rename (state_of entries) t.number gained lost ≡ true
  renames = rw (all_new (state_of entries) t.number gained all_gained)
      (rw asks.gained_order asks.lost_order)

  last_rows : IsTrue told → AreRows (book c entries) (state_of entries) t.number
      (own_items entries session) (marks_of t.pending.removed) gained lost (rows_of_commit commit)
  last_rows so = rows_at_last (book c entries) (chronicle entries) session t gained lost
      (rows_of_commit commit) (stands.kept so) stands.noted.agrees asks.opened asks.free asks.rows

  where_told : (b : Bool) → (IsTrue b → has_names (state_of entries) lost ≡ true) → WhereTold b
      (has_names (state_of entries) lost ≡ true)
  where_told true all = all refl
  where_told false all = tt

  may_commit : MayCommit told (state_of entries) commit.seq gained lost t
  may_commit = record {
    changed = asks.changed;
    free = asks.free;
    next = asks.next ∙ ap (λ (n : ℕ). n + 1) stands.last;
    renames = renames;
    drops = where_told told (λ so. kept_drops (book c entries) (chronicle entries) t.number
        (own_items entries session) (marks_of t.pending.removed) gained lost (rows_of_commit commit)
        (stands.kept so) (last_rows so));
  }

  pub commit_allowed : IsSomeAnd (transaction (state_of entries) session)
      (MayCommit told (state_of entries) commit.seq gained lost)
  commit_allowed = subst
      (λ (o : Option Transaction). IsSomeAnd o
      (MayCommit told (state_of entries) commit.seq gained lost)) (sym asks.opened) may_commit

pub commit_is_allowed : CommitIsAllowed
commit_is_allowed told c entries session t gained lost commit stands asks =
    commit_allowed told c entries session t gained lost commit stands asks

-- the book with the commit's rows is the catalogue's
book_more : (c : Catalogue) (entries : List Beside) (number : ℕ) (commit : ToldCommit) → with_rows
    (book c entries) (rows_of_commit commit) ≡ book (with_commit commit (without_running number c))
    entries
book_more c entries number commit i = record (book c entries) {
  rows = (ap (λ (rs : List Row). flat_map rows_of_commit c.commits ++ rs)
      (sym (append-nil (rows_of_commit commit))) ∙ sym
      (flat_append rows_of_commit c.commits (commit ∷ []))) i;
}

committed_state : (c : Catalogue) (st : State) (session : ℕ) (t : Transaction)
    (gained lost : List Name) (commit : ToldCommit) → IsSound st → HasState c st → transaction st
    session ≡ Some t → commit.seq ≡ c.last + 1 → HasState
    (with_commit commit (without_running t.number c)) (after_commit session lost gained st)
committed_state c st session t gained lost commit sound had opened next =
    let v : Version = version_after (last st + 1) t.pending t.worn (newest st) in
    let made = with_version v lost gained st in
    let now : after_commit session lost gained st ≡ ended session made = ap
    (λ (o : Option Transaction). option_map_or (λ t. ended session
    (with_version (version_after (last st + 1) t.pending t.worn (newest st)) lost gained st)) o st)
    opened in
    let left = ended_state c st session t sound had opened in
    let tables = tables_same c st v lost gained sound.some_version had.last had.since had.tables
    (schemas_changed (last st + 1) t.pending (newest st).tables) in
    let more = length-append st.versions (v ∷ []) in
    subst (λ (s : State). HasState (with_commit commit (without_running t.number c)) s) (sym now)
    (record {
      tables = tables;
      since = all_weaker c.tables (λ t le. omega (arith, le, next)) had.since;
      running = left.running;
      last = omega (arith, next, had.last, more, sound.some_version);
      number = had.number;
      floor = had.floor;
    })

pub stands_committed : StandsCommitted
stands_committed told c entries b t gained lost commit stands is asks =
    let st = state_of entries in
    let session = b.noted.entry.session in
    let f = Committed commit.seq gained lost in
    let c' = with_commit commit (without_running t.number c) in
    let next : ComesNext told entries b f = record {
      fact = is;
      allowed = commit_allowed told c entries session t gained lost commit stands asks;
    } in
    let sound = sound_of told c entries stands in
    stands_with told c c' entries b f (with_rows (book c entries) (rows_of_commit commit)) next
    (book_more c entries t.number commit ∙ with_own c' entries (own_items entries)
    (own_items (after_entry entries b)) (sym (items_stay entries b f is refl)))
    (noted_commit told (book c entries) (chronicle entries) b.noted t commit.seq gained lost
    (rows_of_commit commit) stands.noted (noted_comes told c entries b f stands next) asks.opened
    asks.rows)
    (λ so. (kept_commit (book c entries) (chronicle entries) b.noted t commit.seq gained lost
    (rows_of_commit commit) (stands.kept so) (kept_comes told c entries b f so stands next)
    (record {
      opened = asks.opened;
      rows = last_rows told c entries session t gained lost commit stands asks so;
    })).kept)
    (λ so. all_append SpellsItems c.commits (commit ∷ []) (stands.spelled so) (asks.spelled so, tt))
    (committed_state c st session t gained lost commit sound (state_had told c entries stands)
    asks.opened asks.next)
