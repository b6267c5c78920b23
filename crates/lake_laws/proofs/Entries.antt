-- Entries other than commits keep it that the catalogue stands.
use Rattle.std.proofs.Common.{◌≡◌, ℕ, ◌+◌, ◌≤◌, Bool, true, false, not, ◌&&◌, nat_eq, List, []}
use Rattle.std.proofs.Common.{◌∷◌, ◌++◌, Option, None, Some, refl, sym}
use Rattle.std.proofs.Common.{ap, ◌∙◌, subst, arith, length-append, if◌then◌else◌}
use Rattle.std.specs.Prelude.{IsNone, IsTrue, is_some}
use Rattle.std.specs.List.{AllByRecursion}
use Rattle.std.specs.Option.{option_map_or}
use Rattle.sql_model.specs.declared.changes.Change.{Change}
use Rattle.sql_model.specs.declared.replies.Reply.{Reply}
use Rattle.sql_model.specs.declared.replies.Reply.TheVariants.{Rows}
use Rattle.sql_model.specs.Changes.{no_change}
use Rattle.sql_model.specs.Versions.{Table, Version}
use Rattle.sql_model.proofs.Lists.{all_append, all_weaker}
use Rattle.lake_model.specs.declared.entries.Fact.{Fact}
use Rattle.lake_model.specs.declared.entries.Fact.TheVariants.{Created, Began, Ran, Committed}
use Rattle.lake_model.specs.declared.entries.Fact.TheVariants.{Conflict, Ended, RolledBack, Refused}
use Rattle.lake_model.specs.declared.entries.Fact.TheVariants.{Failed, Compacted, Checkpointed}
use Rattle.lake_model.specs.declared.entries.Fact.TheVariants.{Collected}
use Rattle.lake_model.specs.Allowed.{IsLegal}
use Rattle.lake_model.specs.Laws.{IsSound}
use Rattle.lake_model.specs.State.{Noted, State, Transaction, after_fact, after_stop}
use Rattle.lake_model.specs.State.{ended, newest, opened_by, transaction, turned}
use Rattle.lake_model.specs.State.{opening, version_at, with_part}
use Rattle.manifest_block.specs.declared.items.Item.{Item}
use Rattle.write_set_catalog.specs.Catalogs.{Catalogue, with_running, with_table}
use Rattle.write_set_catalog.specs.Catalogs.{without_running}
use Rattle.file_laws.specs.Contents.{Contents}
use Rattle.file_laws.specs.Kept.{Book, IsKept, IsNext}
use Rattle.file_laws.specs.KeptLaws.{begun, leaves_book, with_more}
use Rattle.file_laws.specs.Noting as noting
use Rattle.file_laws.specs.Noting.{IsNoted, IsPartWritten}
use Rattle.file_laws.proofs.ChangeLemmas.{none_left}
use Rattle.file_laws.proofs.EmptyKept.{kept_empty}
use Rattle.file_laws.proofs.EntryKept.{kept_as_it_is, kept_began, kept_over_blobs, kept_query}
use Rattle.file_laws.proofs.HeldLemmas.{blobs_are_held}
use Rattle.file_laws.proofs.NoteKept.{noted_as_it_is, noted_began, noted_empty, noted_query}
use Rattle.file_laws.proofs.NoteKept.{noted_write}
use Rattle.file_laws.proofs.WriteKept.{kept_write}
use Rattle.lake_laws.specs.Books.{book, contents_told, gone_told, rows_told}
use Rattle.lake_laws.specs.Chronicles.{Beside, chronicle, items_written, own_items, state_of}
use Rattle.lake_laws.specs.Laws as laws
use Rattle.lake_laws.specs.Laws.{ComesNext, StandsBegan, StandsCreated, StandsEmpty, StandsEnded}
use Rattle.lake_laws.specs.Laws.{StandsRead, StandsStopped, StandsWrote, WriteTells, after_entry}
use Rattle.lake_laws.specs.Laws.{blobs_written, stops, with_blobs}
use Rattle.lake_laws.specs.Standing.{IsStanding, SpellsItems, schemas_in}
use Rattle.lake_laws.proofs.Parts as parts
use Rattle.lake_laws.proofs.Parts.{HasState, chronicle_more, items_began, items_ran, items_read}
use Rattle.lake_laws.proofs.Parts.{items_stay, legal_noted, sound_of, state_had, state_more}
use Rattle.lake_laws.proofs.Parts.{writes_none}
use Rattle.lake_laws.proofs.Running.{others, running_began, running_ended, running_none}
use Rattle.lake_laws.proofs.Running.{running_turned}
use Rattle.lake_laws.proofs.Tables.{tables_created}

pub legal_more : laws.LegalMore
legal_more told entries b f legal next = parts.legal_more told entries b f legal next

-- where something is told, the whole is
pub told_legal : (told : Bool) (entries : List Noted) → IsTrue told → IsLegal told entries → IsLegal
    true entries
told_legal told entries so legal = subst (λ (b : Bool). IsLegal b entries) so legal

-- the chronicle that the laws of books speak of
pub noted_comes : (told : Bool) (c : Catalogue) (entries : List Beside) (b : Beside) (f : Fact) →
    IsStanding told c entries → ComesNext told entries b f → noting.ComesNext told
    (chronicle entries) b.noted f
noted_comes told c entries b f stands next = record {
  legal = legal_noted told entries b f stands.noted.legal next;
  fact = next.fact;
}

pub kept_comes : (told : Bool) (c : Catalogue) (entries : List Beside) (b : Beside) (f : Fact) →
    IsTrue told → IsStanding told c entries → ComesNext told entries b f → IsNext
    (chronicle entries)
    b.noted f
kept_comes told c entries b f so stands next = record {
  legal = told_legal told (chronicle entries ++ b.noted ∷ []) so
      (legal_noted told entries b f stands.noted.legal next);
  fact = next.fact;
}

-- a book that is right after the entry is the catalogue's
pub stands_with : (told : Bool) (c c' : Catalogue) (entries : List Beside) (b : Beside) (f : Fact)
    (k' : Book) → ComesNext told entries b f → k' ≡ book c' (after_entry entries b) → IsNoted told
    k'
    (chronicle entries ++ b.noted ∷ []) → (IsTrue told → IsKept k'
    (chronicle entries ++ b.noted ∷ [])) → (IsTrue told → AllByRecursion SpellsItems c'.commits) →
    HasState c' (after_fact b.noted.entry.session b.noted.ends f (state_of entries)) → IsStanding
    told c' (after_entry entries b)
stands_with told c c' entries b f k' next is noted kept spelled has =
    let now = sym (chronicle_more entries b) in
    let state = subst (λ (st : State). HasState c' st) (sym (state_more told entries b f next)) has
    in
    record {
      noted = subst (λ (k : Book). IsNoted told k (chronicle (after_entry entries b))) is
          (subst (IsNoted told k') now noted);
      kept = λ so. subst (λ (k : Book). IsKept k (chronicle (after_entry entries b))) is
          (subst (IsKept k') now (kept so));
      spelled = spelled;
      tables = state.tables;
      since = state.since;
      running = state.running;
      last = state.last;
      number = state.number;
      floor = state.floor;
    }

-- the book with these items
pub with_own : (c : Catalogue) (entries : List Beside) (own own' : ℕ → List Item) → own ≡ own' →
    ◌≡◌ {A = Book} (record (book c entries) { items = own })
    (record (book c entries) { items = own' })
with_own c entries own own' same i = record (book c entries) { items = same i }

-- at first

pub stands_empty : StandsEmpty
stands_empty told = record {
  noted = noted_empty told (contents_told []);
  kept = λ so. kept_empty (contents_told []);
  spelled = λ so. tt;
  tables = λ version within. at version (omega (arith, within));
  since = tt;
  running = λ o. refl;
  last = refl;
  number = refl;
  floor = refl;
}
  where
    at : (version : ℕ) → version ≡ 0 → schemas_in (version_at opening version).tables ≡ []
    at version e = subst
        (λ (n : ℕ). schemas_in (version_at opening n).tables ≡ []) (sym e) refl

-- a new table

pub stands_created : StandsCreated
stands_created told c entries b table schema seq stands next =
    let st = state_of entries in
    let had = state_had told c entries stands in
    let sound = sound_of told c entries stands in
    let t : Table = record { name = table; schema = schema; rows = [] } in
    let v : Version = record (newest st) { tables = (newest st).tables ++ t ∷ []; struck = [] } in
    let f = Created table schema seq in
    let c' = with_table (record { name = table; schema = schema; since = c.last + 1 }) c in
    let more = length-append st.versions (v ∷ []) in
    stands_with told c c' entries b f (book c entries) next
    (with_own c entries (own_items entries) (own_items (after_entry entries b))
    (sym (items_stay entries b f next.fact refl)))
    (noted_as_it_is told (book c entries) (chronicle entries) b.noted f stands.noted refl
    (noted_comes told c entries b f stands next))
    (λ so. (kept_as_it_is (book c entries) (chronicle entries) b.noted f (stands.kept so) refl
    (kept_comes told c entries b f so stands next)).kept)
    stands.spelled
    (record {
      tables = tables_created c st v [] [] sound.some_version had.last had.since had.tables t refl;
      since = all_append (λ t. t.since ≤ c.last + 1) c.tables _
          (all_weaker c.tables (λ t le. omega (arith, le)) had.since) (omega arith, tt);
      running = had.running;
      last = omega (arith, more, had.last, sound.some_version);
      number = had.number;
      floor = had.floor;
    })

-- a transaction that goes on, ends or begins

pub turned_state : (c : Catalogue) (st : State) (session : ℕ) (t t' : Transaction) → IsSound st →
    HasState c st → transaction st session ≡ Some t → t'.number ≡ t.number → t'.snapshot ≡
    t.snapshot
    → HasState c (turned session t' st)
turned_state c st session t t' sound had opened number snapshot = record {
  tables = had.tables;
  since = had.since;
  running = running_turned c st session t t' sound had.running opened number snapshot;
  last = had.last;
  number = had.number;
  floor = had.floor;
}

pub ended_state : (c : Catalogue) (st : State) (session : ℕ) (t : Transaction) → IsSound st →
    HasState c st → transaction st session ≡ Some t → HasState (without_running t.number c)
    (ended session st)
ended_state c st session t sound had opened = record {
  tables = had.tables;
  since = had.since;
  running = running_ended c st session t sound had.running opened;
  last = had.last;
  number = had.number;
  floor = had.floor;
}

none_state : (c : Catalogue) (st : State) (session : ℕ) → HasState c st → transaction st session ≡
    None → HasState c (ended session st)
none_state c st session had none = record {
  tables = had.tables;
  since = had.since;
  running = running_none c st session had.running none;
  last = had.last;
  number = had.number;
  floor = had.floor;
}

same_itself : (n : ℕ) → nat_eq n n ≡ true
same_itself n = grind arith

not_ended : (session : ℕ) (st : State) → is_some (transaction (ended session st) session) ≡ true → ⊥
not_ended session st some =
    let none = none_left session st.running in
    let no : false ≡ true = ap (λ (o : Option Transaction). is_some o) (sym none) ∙ some in
    absurd cc

not_turned : (session : ℕ) (t : Transaction) (st : State) → is_some
    (transaction (turned session t st) session) ≡ false → ⊥
not_turned session t st none =
    let some : is_some (transaction (turned session t st) session) ≡ true = ap
    (λ (b : Bool). is_some (if b then Some t else opened_by session
    (others session st.running))) (same_itself session) in
    let no : true ≡ false = sym some ∙ none in
    absurd cc

-- a stop after which the session has a transaction as before

module _ (c : Catalogue) (st : State) (session : ℕ) (ends : Bool) (sound : IsSound st)
    (had : HasState c st) where
  abbrev StaysSame : State → Type 0
  StaysSame st' = is_some (transaction st' session) ≡ is_some (transaction st session)

  ended_same : StaysSame (ended session st) → HasState c (ended session st)
  ended_same same = elim (transaction st session) as (λ o. transaction st session ≡ o → HasState c
      (ended session st)) [
        | None ↦ λ e. none_state c st session had e
        | Some t ↦ λ e. absurd (not_ended session st
            (same ∙ ap (λ (o : Option Transaction). is_some o) e))
      ] refl

  stop_same : (stays : Bool) → StaysSame (after_stop session stays st) → HasState c
      (after_stop session stays st)
  stop_same stays same =
      elim (transaction st session) as (λ o. transaction st session ≡ o → StaysSame (option_map_or
      (λ t. if t.explicit && not stays then turned session (record t { parts = t.parts + 1 }) st
      else
      ended session st) o st) → HasState c (option_map_or
      (λ t. if t.explicit && not stays then turned session (record t { parts = t.parts + 1 }) st
      else
      ended session st) o st)) [
        | None ↦ λ e same. had
        | Some t ↦ λ e same. elim (t.explicit && not stays) as (λ b. StaysSame
            (if b then turned session (record t { parts = t.parts + 1 }) st else ended session st) →
            HasState c
            (if b then turned session (record t { parts = t.parts + 1 }) st else
            ended session st)) [
              | true ↦ λ same. turned_state c st session t (record t { parts = t.parts + 1 }) sound
                  had e refl refl
              | false ↦ λ same. ended_same same
            ] same
      ] refl same

  pub stopped_state : (f : Fact) → stops f ≡ true → StaysSame (after_fact session ends f st) →
      HasState c (after_fact session ends f st)
  stopped_state (Created table schema seq) is same = absurd cc
  stopped_state (Began explicit txn snapshot) is same = absurd cc
  stopped_state (Ran reply change) is same = absurd cc
  stopped_state (Committed seq added dropped) is same = absurd cc
  stopped_state (Conflict seq) is same = ended_same same
  stopped_state Ended is same = ended_same same
  stopped_state RolledBack is same = ended_same same
  stopped_state (Refused cause) is same = stop_same false same
  stopped_state (Failed cause) is same = stop_same ends same
  stopped_state (Compacted table cells marks seq added dropped) is same = absurd cc
  stopped_state (Checkpointed table at name) is same = absurd cc
  stopped_state (Collected names floor) is same = absurd cc

-- one after which it has none

module _ (c : Catalogue) (st : State) (session : ℕ) (ends : Bool) (t : Transaction)
    (sound : IsSound st) (had : HasState c st) (opened : transaction st session ≡ Some t) where
  abbrev left : Catalogue
  left = without_running t.number c

  abbrev IsGone : State → Type 0
  IsGone st' = is_some (transaction st' session) ≡ false

  stop_gone : (stays : Bool) → IsGone (after_stop session stays st) → HasState
      (without_running t.number c) (after_stop session stays st)
  stop_gone stays gone =
      let now : after_stop session stays st ≡ (if t.explicit && not stays then turned session
      (record t { parts = t.parts + 1 }) st else ended session st) = ap
      (λ (o : Option Transaction). option_map_or
      (λ t. if t.explicit && not stays then turned session (record t { parts = t.parts + 1 }) st
      else
      ended session st) o st) opened in
      subst (λ (st' : State). HasState (without_running t.number c) st') (sym now)
      (elim (t.explicit && not stays) as (λ b. IsGone
      (if b then turned session (record t { parts = t.parts + 1 }) st else ended session st) →
      HasState (without_running t.number c)
      (if b then turned session (record t { parts = t.parts + 1 }) st else ended session st)) [
        | true ↦ λ gone. absurd (not_turned session (record t { parts = t.parts + 1 }) st gone)
        | false ↦ λ gone. ended_state c st session t sound had opened
      ] (subst IsGone now gone))

  pub gone_state : (f : Fact) → stops f ≡ true → IsGone (after_fact session ends f st) → HasState
      (without_running t.number c) (after_fact session ends f st)
  gone_state (Created table schema seq) is gone = absurd cc
  gone_state (Began explicit txn snapshot) is gone = absurd cc
  gone_state (Ran reply change) is gone = absurd cc
  gone_state (Committed seq added dropped) is gone = absurd cc
  gone_state (Conflict seq) is gone = ended_state c st session t sound had opened
  gone_state Ended is gone = ended_state c st session t sound had opened
  gone_state RolledBack is gone = ended_state c st session t sound had opened
  gone_state (Refused cause) is gone = stop_gone false gone
  gone_state (Failed cause) is gone = stop_gone ends gone
  gone_state (Compacted table cells marks seq added dropped) is gone = absurd cc
  gone_state (Checkpointed table at name) is gone = absurd cc
  gone_state (Collected names floor) is gone = absurd cc

-- a stop leaves the book

stop_leaves : (f : Fact) → stops f ≡ true → leaves_book f ≡ true
stop_leaves (Created table schema seq) is = absurd cc
stop_leaves (Began explicit txn snapshot) is = absurd cc
stop_leaves (Ran reply change) is = absurd cc
stop_leaves (Committed seq added dropped) is = absurd cc
stop_leaves (Conflict seq) is = refl
stop_leaves Ended is = refl
stop_leaves RolledBack is = refl
stop_leaves (Refused cause) is = refl
stop_leaves (Failed cause) is = refl
stop_leaves (Compacted table cells marks seq added dropped) is = absurd cc
stop_leaves (Checkpointed table at name) is = absurd cc
stop_leaves (Collected names floor) is = absurd cc

stop_writes : (f : Fact) → stops f ≡ true → writes_none f ≡ true
stop_writes (Created table schema seq) is = absurd cc
stop_writes (Began explicit txn snapshot) is = absurd cc
stop_writes (Ran reply change) is = absurd cc
stop_writes (Committed seq added dropped) is = absurd cc
stop_writes (Conflict seq) is = refl
stop_writes Ended is = refl
stop_writes RolledBack is = refl
stop_writes (Refused cause) is = refl
stop_writes (Failed cause) is = refl
stop_writes (Compacted table cells marks seq added dropped) is = absurd cc
stop_writes (Checkpointed table at name) is = absurd cc
stop_writes (Collected names floor) is = absurd cc

-- whatever becomes of the open transactions
stop_stands : (told : Bool) (c : Catalogue) (number : ℕ) (c' : Catalogue) (entries : List Beside)
    (b : Beside) (f : Fact) → IsStanding told c entries → ComesNext told entries b f → stops f ≡
    true
    → book c entries ≡ book c' entries → c'.commits ≡ c.commits → ((own : ℕ → List Item) →
    ◌≡◌ {A = Book} (record (book c entries) { items = own })
    (record (book c' entries) { items = own }))
    → HasState c' (after_fact b.noted.entry.session b.noted.ends f (state_of entries)) → IsStanding
    told c' (after_entry entries b)
stop_stands told c number c' entries b f stands next is same commits over has =
    stands_with told c c' entries b f (book c entries) next
    (with_own c entries (own_items entries) (own_items (after_entry entries b))
    (sym (items_stay entries b f next.fact (stop_writes f is))) ∙ over
    (own_items (after_entry entries b)))
    (noted_as_it_is told (book c entries) (chronicle entries) b.noted f stands.noted
    (stop_leaves f is) (noted_comes told c entries b f stands next))
    (λ so. (kept_as_it_is (book c entries) (chronicle entries) b.noted f (stands.kept so)
    (stop_leaves f is) (kept_comes told c entries b f so stands next)).kept)
    (λ so. subst (AllByRecursion SpellsItems) (sym commits) (stands.spelled so)) has

pub stands_stopped : StandsStopped
stands_stopped told c entries b f stands next is same =
    let st = state_of entries in
    let session = b.noted.entry.session in
    let now = ap (λ (s : State). is_some (transaction s session))
    (state_more told entries b f next) in
    stop_stands told c 0 c entries b f stands next is refl refl (λ own. refl)
    (stopped_state c st session b.noted.ends (sound_of told c entries stands)
    (state_had told c entries stands) f is (sym now ∙ same))

pub stands_ended : StandsEnded
stands_ended told c entries b f t stands next is opened gone =
    let st = state_of entries in
    let session = b.noted.entry.session in
    let now = ap (λ (s : State). is_some (transaction s session))
    (state_more told entries b f next) in
    stop_stands told c t.number (without_running t.number c) entries b f stands next is refl refl
    (λ own. refl)
    (gone_state c st session b.noted.ends t (sound_of told c entries stands)
    (state_had told c entries stands) opened f is (sym now ∙ gone))

-- a beginning

pub stands_began : StandsBegan
stands_began told c entries b explicit txn snapshot stands next =
    let st = state_of entries in
    let session = b.noted.entry.session in
    let had = state_had told c entries stands in
    let f = Began explicit txn snapshot in
    let c' = with_running (record { number = txn; snapshot = snapshot }) c in
    let t : Transaction = record {
      explicit = explicit;
      number = txn;
      snapshot = snapshot;
      pending = no_change;
      worn = [];
      parts = 0;
    } in
    let none : transaction st session ≡ None = is_none (transaction st session) next.allowed.0 in
    stands_with told c c' entries b f (begun (book c entries) session) next
    (with_own c entries _ _ (sym (items_began entries b explicit txn snapshot next.fact)))
    (noted_began told (book c entries) (chronicle entries) b.noted explicit txn snapshot
    stands.noted
    (noted_comes told c entries b f stands next))
    (λ so. (kept_began (book c entries) (chronicle entries) b.noted explicit txn snapshot
    (stands.kept so) (kept_comes told c entries b f so stands next)).kept)
    stands.spelled
    (record {
      tables = had.tables;
      since = had.since;
      running = running_began c st session txn t had.running none;
      last = had.last;
      number = refl;
      floor = had.floor;
    })
  where
    is_none : (o : Option Transaction) → IsNone o → o ≡ None
    is_none None e = refl
    is_none (Some t) e = absurd cc

-- a statement that ran

ran_state : (c : Catalogue) (st : State) (session : ℕ) (reply : Reply) (change : Change)
    (o : Option Transaction) → IsSound st → HasState c st → transaction st session ≡ o → HasState c
    (option_map_or (λ t. turned session (with_part reply change t) st) o st)
ran_state c st session reply change None sound had opened = had
ran_state c st session reply change (Some t) sound had opened =
    turned_state c st session t (with_part reply change t) sound had opened refl refl

pub stands_read : StandsRead
stands_read told c entries b rows change stands next none =
    let st = state_of entries in
    let session = b.noted.entry.session in
    let f = Ran (Rows rows) change in
    stands_with told c c entries b f (book c entries) next
    (with_own c entries (own_items entries) (own_items (after_entry entries b))
    (sym (items_read entries b f (Rows rows) change next.fact none)))
    (noted_query told (book c entries) (chronicle entries) b.noted rows change stands.noted
    (noted_comes told c entries b f stands next))
    (λ so. (kept_query (book c entries) (chronicle entries) b.noted rows change (stands.kept so)
    (kept_comes told c entries b f so stands next)).kept)
    stands.spelled
    (ran_state c st session (Rows rows) change (transaction st session)
    (sound_of told c entries stands) (state_had told c entries stands) refl)

-- what is noted doesn't rest on contents
pub noted_over : (told : Bool) (k : Book) (entries : List Noted) (contents : Contents) → IsNoted
    told
    k entries → IsNoted told (record k { contents = contents }) entries
noted_over told k entries contents was = record {
  legal = was.legal;
  noted = was.noted;
  agrees = record {
    within = was.agrees.within;
    given = was.agrees.given;
    ended = was.agrees.ended;
    own = was.agrees.own;
    one_table = was.agrees.one_table;
    once = was.agrees.once;
    adds = was.agrees.adds;
    marks = was.agrees.marks;
    struck = was.agrees.struck;
    versions = was.agrees.versions;
    open_items = was.agrees.open_items;
    checked = was.agrees.checked;
  };
}

pub stands_wrote : StandsWrote
stands_wrote told c entries b t reply change stands next opened counted part tells =
    let st = state_of entries in
    let session = b.noted.entry.session in
    let f = Ran reply change in
    let more = items_written b.wrote in
    let c' = with_blobs (blobs_written b.wrote) c in
    let over = noted_over told (book c entries) (chronicle entries) (book c' entries).contents
    stands.noted in
    let items = with_own c' entries _ _ (sym (items_ran entries b reply change next.fact)) in
    stands_with told c c' entries b f (with_more (book c' entries) session more) next items
    (noted_write told (book c' entries) (chronicle entries) b.noted t reply change more over
    (noted_comes told c entries b f stands next) opened counted part)
    (λ so.
    let told_so = tells so in
    let kept = kept_over_blobs (book c entries) (chronicle entries) (book c' entries).contents
    (stands.kept so)
    ((blobs_are_held rows_told gone_told c.blobs).more (blobs_written b.wrote)) in
    let after = kept_write (book c' entries) (chronicle entries) b.noted t reply change
    told_so.table
    told_so.removal told_so.files kept (kept_comes told c entries b f so stands next) told_so.asks
    in
    subst (λ (is : List Item). IsKept (with_more (book c' entries) session is)
    (chronicle entries ++ b.noted ∷ [])) (sym told_so.items) after.kept)
    stands.spelled
    (state_over (ran_state c st session reply change (transaction st session)
    (sound_of told c entries stands) (state_had told c entries stands) refl))
  where
    state_over : {st : State} → HasState c st → HasState (with_blobs (blobs_written b.wrote) c) st
    state_over had = record {
      tables = had.tables;
      since = had.since;
      running = had.running;
      last = had.last;
      number = had.number;
      floor = had.floor;
    }
