-- Each kind of entry keeps a book noted, whatever its ports tell.
use Rattle.std.proofs.Common.{◌≡◌, ℕ, ◌+◌, ◌≤◌, Bool, true, false, not, ◌&&◌, ◌||◌, nat_eq}
use Rattle.std.proofs.Common.{cond, List, [], ◌∷◌, ◌++◌, Option, None, Some, inl, inr, ◌⊎◌}
use Rattle.std.proofs.Common.{⊎_elim, filter, map, refl, sym, ap, ◌∙◌, subst}
use Rattle.std.proofs.Common.{arith, length-append, if◌then◌else◌}
use Rattle.std.proofs.lemmas.List.{append-nil}
use Rattle.std.proofs.lemmas.List.Elements.{filter-append}
use Rattle.std.specs.Prelude.{find, nat_le}
use Rattle.std.specs.Option.{option_map_or}
use Rattle.std.specs.List.{AllByRecursion, list_any}
use Rattle.lake_values.specs.declared.names.Name.{Name}
use Rattle.lake_values.specs.declared.values.Value.{Value}
use Rattle.lake_values.specs.Names.{is_among}
use Rattle.lake_values.specs.Texts.{same_text}
use Rattle.lake_values.proofs.SameTexts.{same_text_is, same_text_self}
use Rattle.sql_model.specs.declared.changes.Change.{Change}
use Rattle.sql_model.specs.declared.changes.Mark.{Mark}
use Rattle.sql_model.specs.declared.replies.Reply.{Reply}
use Rattle.sql_model.specs.declared.replies.Reply.TheVariants.{Rows}
use Rattle.sql_model.specs.Changes.{no_change, version_after}
use Rattle.sql_model.specs.Units.{marks_of}
use Rattle.sql_model.specs.Versions.{Table, Version}
use Rattle.sql_model.proofs.Lists.{all_both, all_filter, all_weaker}
use Rattle.lake_model.specs.declared.entries.Fact.{Fact}
use Rattle.lake_model.specs.declared.entries.Fact.TheVariants.{Created, Began, Ran, Committed}
use Rattle.lake_model.specs.declared.entries.Fact.TheVariants.{Conflict, Ended, RolledBack, Refused}
use Rattle.lake_model.specs.declared.entries.Fact.TheVariants.{Failed, Compacted, Checkpointed}
use Rattle.lake_model.specs.declared.entries.Fact.TheVariants.{Collected}
use Rattle.lake_model.specs.Allowed.{IsAllowedFact}
use Rattle.lake_model.specs.Laws.{IsSound}
use Rattle.lake_model.specs.State.{Check, State, Noted, Transaction, after_began, after_created}
use Rattle.lake_model.specs.State.{after_commit, after_fact, after_ran, after_stop, ended, last}
use Rattle.lake_model.specs.State.{newest, opening, parts_of, state, transaction, turned, with_part}
use Rattle.lake_model.specs.State.{version_at, with_version}
use Rattle.lake_model.proofs.Sound.{opened_all, sound_from, sound_opening}
use Rattle.manifest_block.specs.declared.items.Item.{Item}
use Rattle.table_snapshot.specs.declared.files.FileRow.{FileRow}
use Rattle.table_snapshot.specs.Files.{item_table, items_of, names_in, replay}
use Rattle.write_set_catalog.specs.Names.{NamesRow}
use Rattle.file_laws.specs.Catalogues.{has_name}
use Rattle.file_laws.specs.Collector.{checks_of, names_at}
use Rattle.file_laws.specs.Commits.{HaveNames, IsOwnedCommit}
use Rattle.file_laws.specs.Kept.{Book, HaveOneTable, adds, marks_of_table, shown, shown_row}
use Rattle.file_laws.specs.Kept.{writes}
use Rattle.file_laws.specs.KeptLaws.{HasOne, begun, leaves_book, with_more, with_rows}
use Rattle.file_laws.specs.Noting.{AreNewRows, AreWritten, ComesNext, IsNewRow, IsNoted}
use Rattle.file_laws.specs.Noting.{IsPartWritten, NotedAsItIs, NotedBegan, NotedCommit, NotedEmpty}
use Rattle.file_laws.specs.Noting.{NotedQuery, NotedWrite, NotesAgree, items_of_all, table_items}
use Rattle.file_laws.specs.Noting.{times_written}
use Rattle.file_laws.specs.Stands.{Checkpoint, files_at, rows_of, rows_to}
use Rattle.file_laws.specs.StandsLaws.{with_items}
use Rattle.file_laws.specs.Touching.{Row, is_marked, is_name_of, replay_rows}
use Rattle.file_laws.proofs.CloseLemmas.{not_ended}
use Rattle.file_laws.proofs.CommitLemmas.{commits_stand, owned_commits}
use Rattle.file_laws.proofs.EntryKept.{checks_next, names_with_none, same_itself, same_open}
use Rattle.file_laws.proofs.KeptLemmas.{OpenFrom, ended_was, turned_was}
use Rattle.file_laws.proofs.NameKept.{came_from, map_append}
use Rattle.file_laws.proofs.NoteLemmas.{AreOfVersion, all_items_append, notes_carry, notes_grow}
use Rattle.file_laws.proofs.NoteLemmas.{once_more, one_table_more}
use Rattle.file_laws.proofs.Some.{and_both, any_behind, any_filter, any_front, any_known, any_map}
use Rattle.file_laws.proofs.Some.{any_parts, or_left, or_right}
use Rattle.file_laws.proofs.SoundLemmas.{one_session, state_next, told_parts}
use Rattle.file_laws.proofs.StandLemmas.{all_map, all_passed}
use Rattle.file_laws.proofs.Weights.{weight_halves}

-- what an entry of a fact makes of a noted book
noted_next : (told : Bool) (k k' : Book) (entries : List Noted) (e : Noted) (f : Fact) → IsNoted
    told
    k entries → ComesNext told entries e f
    → map (λ (c : Checkpoint). c.check) k'.checks ≡ map (λ (c : Checkpoint). c.check) k.checks ++
    checks_of (state entries) f
    → (IsSound (state entries) → IsAllowedFact told (state entries) e.entry.session f → NotesAgree
    k'
    (after_fact e.entry.session e.ends f (state entries))) → IsNoted told k' (entries ++ e ∷ [])
noted_next told k k' entries e f was next checks step =
    let may = (told_parts told opening entries (e ∷ []) next.legal).1.0 in
    let allowed = subst (λ (f : Fact). IsAllowedFact told (state entries) e.entry.session f)
    next.fact may in
    let agrees = step (sound_from told opening entries sound_opening was.legal) allowed in
    record {
      legal = next.legal;
      noted = checks ∙ ap (λ (cs : List Check). cs ++ checks_of (state entries) f) was.noted ∙ ap
          (λ (f : Fact). (state entries).checks ++ checks_of (state entries) f) (sym next.fact) ∙
          sym (checks_next entries e);
      agrees = subst (λ (st : State). NotesAgree k' st) (sym (state_next entries e)) (subst
          (λ (f : Fact). NotesAgree k' (after_fact e.entry.session e.ends f (state entries)))
          (sym next.fact) agrees);
    }

same_checks : (k : Book) → map (λ (c : Checkpoint). c.check) k.checks ≡ map
    (λ (c : Checkpoint). c.check) k.checks ++ []
same_checks k = sym (append-nil (map (λ (c : Checkpoint). c.check) k.checks))

-- at first

pub noted_empty : NotedEmpty
noted_empty told c = record {
  legal = tt;
  noted = refl;
  agrees = record {
    within = tt;
    given = tt;
    ended = λ session t is. tt;
    own = tt;
    one_table = λ name one other is no. absurd cc;
    once = λ table name. omega arith;
    adds = tt;
    marks = tt;
    struck = λ n m le is. absurd (let no : false ≡ true = subst
        (λ (x : ℕ). is_marked (version_at opening x).struck m ≡ true) (none n le) is in cc);
    versions = λ version name low high. subst
        (λ (n : ℕ). false ≡ is_among name (names_at opening n)) (sym (none version high)) refl;
    open_items = λ session t is. absurd cc;
    checked = tt;
  };
}
  where
    none : (n : ℕ) → n ≤ 0 → n ≡ 0
    none n le = omega (arith, le)

-- a new table

created_notes : (k : Book) (st : State) (t : Table) → IsSound st → NotesAgree k st → NotesAgree k
    (after_created t st)
created_notes k st t sound agrees =
    let v : Version = record (newest st) { tables = (newest st).tables ++ t ∷ []; struck = [] } in
    let st' = after_created t st in
    let same = append-nil k.rows in
    let names = names_with_none k st v sound agrees.within agrees.versions in
    subst (λ (rs : List Row). NotesAgree (record k { rows = rs }) st') same
    (notes_grow k [] st st' v
    agrees sound.some_version refl refl (record {
      seqs = tt;
      given = tt;
      ended = λ session u is. tt;
      own = tt;
      one_table = λ name one other is no. absurd cc;
      apart = λ name old no. absurd cc;
      once = λ table name. omega arith;
      adds = tt;
      marks = tt;
      struck = λ m no. absurd cc;
    }) (λ session u is. is)
    (subst (λ (rs : List Row). HaveNames st' (shown (record k { rows = rs }) st')) (sym same)
    names))

-- an end, and a stop

ended_notes : (k : Book) (st : State) (session : ℕ) → NotesAgree k st → NotesAgree k
    (ended session st)
ended_notes k st session agrees =
    let from : (other : ℕ) (t : Transaction) → transaction (ended session st) other ≡ Some t →
    transaction st other ≡ Some t = λ other t is. ended_was session other st t is in
    notes_carry k k.items st (ended session st) agrees refl refl (omega arith) (omega arith)
    (same_open st (ended session st) from)
    (λ other t is. agrees.open_items other t (from other t is))

-- a session's transaction that goes on, with these items
turned_notes : (k : Book) (items' : ℕ → List Item) (st : State) (session : ℕ) (t t' : Transaction) →
    NotesAgree k st → transaction st session ≡ Some t → t'.number ≡ t.number → AreWritten t'.number
    t'.parts (items' session) → ((other : ℕ) → nat_eq other session ≡ false → items' other ≡ k.items
    other) → NotesAgree (record k { items = items' }) (turned session t' st)
turned_notes k items' st session t t' agrees opened number written others =
    let st' = turned session t' st in
    let from : OpenFrom st st' = λ other u is. elim (turned_was session other t' st u is) [
      | inl off ↦ inl (u, off.1, refl)
      | inr here ↦ inl (
        t,
        ap (transaction st) here.0 ∙ opened,
        sym number ∙ ap (λ (v : Transaction). v.number) here.1,
      )
    ] in
    notes_carry k items' st st' agrees refl refl (omega arith) (omega arith) from
    (λ other u is. elim (turned_was session other t' st u is) [
      | inl off ↦ subst (λ (own : List Item). AreWritten u.number u.parts own)
          (sym (others other off.0)) (agrees.open_items other u off.1)
      | inr here ↦ subst (λ (v : Transaction). AreWritten v.number v.parts (items' other)) here.1
          (subst (λ (n : ℕ). AreWritten t'.number t'.parts (items' n)) (sym here.0) written)
    ])

later_parts : (number parts more : ℕ) (items : List Item) → parts ≤ more → AreWritten number parts
    items → AreWritten number more items
later_parts number parts more items le was = record {
  own = λ name is. let own = was.own name is in (own.0, omega (arith, own.1, le));
  kinds = was.kinds;
  one_table = was.one_table;
  once = was.once;
}

stopped_notes : (k : Book) (st : State) (session : ℕ) (ends : Bool) → NotesAgree k st → NotesAgree k
    (after_stop session ends st)
stopped_notes k st session ends agrees =
    elim (transaction st session) as (λ o. transaction st session ≡ o → NotesAgree k (option_map_or
    (λ t. if t.explicit && not ends then turned session (record t { parts = t.parts + 1 }) st else
    ended session st) o st)) [
      | None ↦ λ e. agrees
      | Some t ↦ λ e. elim (t.explicit && not ends) as (λ b. NotesAgree k
          (if b then turned session (record t { parts = t.parts + 1 }) st else ended session st)) [
            | true ↦ turned_notes k k.items st session t (record t { parts = t.parts + 1 }) agrees e
                refl (later_parts t.number t.parts (t.parts + 1) (k.items session) (omega arith)
                (agrees.open_items session t e)) (λ other off. refl)
            | false ↦ ended_notes k st session agrees
          ]
    ] refl

pub noted_as_it_is : NotedAsItIs
noted_as_it_is told k entries e f was leaves next =
    noted_next told k k entries e f was next (no_check f leaves)
    (λ sound may. by f leaves sound)
  where
    no_check : (f : Fact) → leaves_book f ≡ true → map (λ (c : Checkpoint). c.check) k.checks ≡ map
        (λ (c : Checkpoint). c.check) k.checks ++ checks_of (state entries) f
    no_check (Created table schema seq) leaves = same_checks k
    no_check (Began explicit txn snapshot) leaves = same_checks k
    no_check (Ran reply change) leaves = same_checks k
    no_check (Committed seq added dropped) leaves = same_checks k
    no_check (Conflict seq) leaves = same_checks k
    no_check Ended leaves = same_checks k
    no_check RolledBack leaves = same_checks k
    no_check (Refused cause) leaves = same_checks k
    no_check (Failed cause) leaves = same_checks k
    no_check (Compacted table cells marks seq added dropped) leaves = same_checks k
    no_check (Checkpointed table at name) leaves = absurd cc
    no_check (Collected names floor) leaves = same_checks k

    by : (f : Fact) → leaves_book f ≡ true → IsSound (state entries) → NotesAgree k
        (after_fact e.entry.session e.ends f (state entries))
    by (Created table schema seq) leaves sound = created_notes k (state entries)
        (record { name = table; schema = schema; rows = [] }) sound was.agrees
    by (Began explicit txn snapshot) leaves sound = absurd cc
    by (Ran reply change) leaves sound = absurd cc
    by (Committed seq added dropped) leaves sound = absurd cc
    by (Conflict seq) leaves sound = ended_notes k (state entries) e.entry.session was.agrees
    by Ended leaves sound = ended_notes k (state entries) e.entry.session was.agrees
    by RolledBack leaves sound = ended_notes k (state entries) e.entry.session was.agrees
    by (Refused cause) leaves sound = stopped_notes k (state entries) e.entry.session false
        was.agrees
    by (Failed cause) leaves sound = stopped_notes k (state entries) e.entry.session e.ends
        was.agrees
    by (Compacted table cells marks seq added dropped) leaves sound = absurd cc
    by (Checkpointed table at name) leaves sound = absurd cc
    by (Collected names floor) leaves sound = absurd cc

-- a beginning

began_notes : (k : Book) (st : State) (session : ℕ) (explicit : Bool) (number snapshot : ℕ) → number
    ≡ st.last_number + 1 → NotesAgree k st → NotesAgree (begun k session)
    (after_began session explicit number snapshot st)
began_notes k st session explicit number snapshot is agrees =
    let t : Transaction = record {
      explicit = explicit;
      number = number;
      snapshot = snapshot;
      pending = no_change;
      worn = [];
      parts = 0;
    } in
    let items' = with_items session [] k.items in
    let st' = after_began session explicit number snapshot st in
    let from : OpenFrom st st' = λ other u is'. elim (turned_was session other t st u is') [
      | inl off ↦ inl (u, off.1, refl)
      | inr here ↦ inr (omega (arith, is, ap (λ (v : Transaction). v.number) here.1))
    ] in
    notes_carry k items' st st' agrees refl refl (omega (arith, is)) (omega arith) from
    (λ other u is'. elim (turned_was session other t st u is') [
      | inl off ↦ subst (λ (own : List Item). AreWritten u.number u.parts own)
          (sym (ap (λ (b : Bool). if b then [] else k.items other) off.0))
          (agrees.open_items other u off.1)
      | inr here ↦
          let mine : items' other ≡ [] = ap (λ (n : ℕ). items' n) here.0 ∙ ap
          (λ (b : Bool). if b then [] else k.items session) (same_itself session) in
          subst (λ (own : List Item). AreWritten u.number u.parts own) (sym mine) (subst
          (λ (v : Transaction). AreWritten v.number v.parts []) here.1 (record {
            own = λ name no. absurd cc;
            kinds = λ name no. absurd cc;
            one_table = λ name one other no. absurd cc;
            once = λ name. omega arith;
          }))
    ])

pub noted_began : NotedBegan
noted_began told k entries e explicit txn snapshot was next =
    noted_next told k (begun k e.entry.session) entries e (Began explicit txn snapshot) was next
    (same_checks k)
    (λ sound may. began_notes k (state entries) e.entry.session explicit txn snapshot may.1
    was.agrees)

-- a statement that ran

ran_notes : (k : Book) (items' : ℕ → List Item) (st : State) (session : ℕ) (reply : Reply)
    (change : Change) (t : Transaction) → NotesAgree k st → transaction st session ≡ Some t →
    AreWritten t.number (t.parts + parts_of reply) (items' session) → ((other : ℕ) → nat_eq other
    session ≡ false → items' other ≡ k.items other) → NotesAgree (record k { items = items' })
    (after_ran session reply change st)
ran_notes k items' st session reply change t agrees opened written others =
    let now : after_ran session reply change st ≡ turned session (with_part reply change t) st = ap
    (λ (o : Option Transaction). option_map_or (λ t. turned session (with_part reply change t) st) o
    st) opened in
    subst (λ (st' : State). NotesAgree (record k { items = items' }) st') (sym now)
    (turned_notes k items' st session t (with_part reply change t) agrees opened refl written
    others)

query_notes : (told : Bool) (k : Book) (st : State) (session : ℕ) (rows : List (List Value))
    (change : Change) (o : Option Transaction) → transaction st session ≡ o → NotesAgree k st →
    NotesAgree k (option_map_or (λ t. turned session (with_part (Rows rows) change t) st) o st)
query_notes told k st session rows change None opened agrees = agrees
query_notes told k st session rows change (Some t) opened agrees =
    turned_notes k k.items st session t (with_part (Rows rows) change t) agrees opened refl
    (later_parts t.number t.parts (t.parts + 0) (k.items session) (omega arith)
    (agrees.open_items session t opened)) (λ other off. refl)

pub noted_query : NotedQuery
noted_query told k entries e rows change was next =
    noted_next told k k entries e (Ran (Rows rows) change) was next (same_checks k)
    (λ sound may. query_notes told k (state entries) e.entry.session rows change
    (transaction (state entries) e.entry.session) refl was.agrees)

written_more : (number parts : ℕ) (items more : List Item) → AreWritten number parts items →
    IsPartWritten number (parts + 1) more → AreWritten number (parts + 1) (items ++ more)
written_more number parts items more was new = record {
  own = λ name is. ⊎_elim
      (λ old. let own = was.own name old in (own.0, omega (arith, own.1)))
      (λ here. let own = new.own name here in (own.0, omega (arith, own.1)))
      (any_parts (writes name) items more is);
  kinds = λ name is. ⊎_elim (was.kinds name) (new.kinds name)
      (any_parts (writes name) items more is);
  one_table = one_table_more items more apart was.one_table new.one_table;
  once = λ name. once_more items more name (apart name) (was.once name) (new.once name);
}
  where
    apart : (name : Name) → list_any (writes name) items ≡ true → list_any (writes name) more ≡ true
        → ⊥
    apart name old here = absurd (omega (arith, (was.own name old).1, (new.own name here).1))

pub noted_write : NotedWrite
noted_write told k entries e t reply change more was next opened counted new =
    let session = e.entry.session in
    let mine = k.items session ++ more in
    let items' = with_items session mine k.items in
    let here : items' session ≡ mine = ap (λ (b : Bool). if b then mine else k.items session)
    (same_itself session) in
    let written : AreWritten t.number (t.parts + parts_of reply) (items' session) = subst
    (λ (is : List Item). AreWritten t.number (t.parts + parts_of reply) is) (sym here)
    (later_parts t.number (t.parts + 1) (t.parts + parts_of reply) mine (omega (arith, counted))
    (written_more t.number t.parts (k.items session) more
    (was.agrees.open_items session t opened) new)) in
    noted_next told k (with_more k session more) entries e (Ran reply change) was next
    (same_checks k)
    (λ sound may. ran_notes k items' (state entries) session reply change t was.agrees opened
    written
    (λ other off. ap (λ (b : Bool). if b then mine else k.items other) off))

-- a commit

-- items of a table are among those of all rows
in_items : (rows : List Row) → AllByRecursion
    (λ r. (n : Name) (table : List ℕ) → list_any (writes n)
    (items_of table r.items) ≡ true → list_any (writes n) (items_of table (items_of_all rows)) ≡
    true) rows
in_items [] = tt
in_items (r ∷ rs) = (
  (λ n table is. subst (λ (is : List Item). list_any (writes n) is ≡ true)
      (sym (parted table))
      (any_front (writes n) (items_of table r.items) (items_of table (items_of_all rs)) is)),
  all_weaker rs (λ s all n table is. subst (λ (is : List Item). list_any (writes n) is ≡ true)
      (sym (parted table))
      (any_behind (writes n) (items_of table r.items) (items_of table (items_of_all rs))
      (all n table is))) (in_items rs),
)
  where
    parted : (table : List ℕ) → items_of table (items_of_all (r ∷ rs)) ≡ items_of table r.items ++
        items_of table (items_of_all rs)
    parted table = filter-append (λ (i : Item). same_text (item_table i) table) r.items
        (items_of_all rs)

-- rows of one commit have its items
all_mine : (mine : List Item) (n : Name) (table : List ℕ) (rows : List Row) → AllByRecursion
    (λ r. r.items ≡ mine) rows → list_any (writes n) (items_of table (items_of_all rows)) ≡ true →
    list_any (writes n) (items_of table mine) ≡ true
all_mine mine n table [] all is = absurd cc
all_mine mine n table (r ∷ rs) all is =
    ⊎_elim (λ here. subst (λ (is : List Item). list_any (writes n) (items_of table is) ≡ true) all.0
    here) (λ rest. all_mine mine n table rs all.1 rest)
    (any_parts (writes n) (items_of table r.items) (items_of table (items_of_all rs))
    (ap (list_any (writes n)) (sym (filter-append (λ (i : Item). same_text (item_table i) table)
    r.items (items_of_all rs))) ∙ is))

any_mine : (mine : List Item) (n : Name) (rows : List Row) → AllByRecursion (λ r. r.items ≡ mine)
    rows → list_any (writes n) (items_of_all rows) ≡ true → list_any (writes n) mine ≡ true
any_mine mine n [] all is = absurd cc
any_mine mine n (r ∷ rs) all is =
    ⊎_elim (λ here. ap (list_any (writes n)) (sym all.0) ∙ here)
    (λ rest. any_mine mine n rs all.1 rest)
    (any_parts (writes n) r.items (items_of_all rs) is)

-- a name of replayed files was there, or an item of the rows writes it
replayed_from : (n : Name) (rows : List Row) (files : List FileRow) → is_among n (names_in
    (replay_rows rows files)) ≡ true → (is_among n (names_in files) ≡ true) ⊎
    (list_any (λ r. list_any (writes n) (items_of r.table r.items)) rows ≡ true)
replayed_from n [] files is = inl is
replayed_from n (r ∷ rs) files is =
    let mine = items_of r.table r.items in
    let rest = list_any (λ (r : Row). list_any (writes n) (items_of r.table r.items)) rs in
    ⊎_elim (λ before. ⊎_elim (λ was. inl was)
    (λ here. inr (or_left (list_any (writes n) mine) rest here))
    (came_from r.seq mine files n before))
    (λ later. inr (or_right (list_any (writes n) mine) rest later))
    (replayed_from n rs (replay r.seq mine files) is)

-- so a table's files at a version have names that its items write
pub names_written : (rows : List Row) (version : ℕ) (table : List ℕ) (n : Name) → is_among n
    (names_in (files_at rows version table)) ≡ true → list_any (writes n)
    (items_of table (items_of_all rows)) ≡ true
names_written rows version table n is =
    ⊎_elim (λ none. absurd (nothing none)) (λ some. any_known
    (λ r. ((m : Name) (t : List ℕ) → list_any (writes m) (items_of t r.items) ≡ true → list_any
    (writes m) (items_of t (items_of_all rows)) ≡ true) × (same_text r.table table ≡ true))
    (λ r. list_any (writes n) (items_of r.table r.items))
    (list_any (writes n) (items_of table (items_of_all rows)) ≡ true) (rows_of table rows)
    (all_both (rows_of table rows) (λ r a b. (a, b)) (all_filter
    (λ r. (m : Name) (t : List ℕ) → list_any (writes m) (items_of t r.items) ≡ true → list_any
    (writes m) (items_of t (items_of_all rows)) ≡ true) (λ r. same_text r.table table) rows
    (in_items rows)) (all_passed (λ r. same_text r.table table) rows))
    (λ r both wrote. subst (λ (t : List ℕ). list_any (writes n) (items_of t (items_of_all rows)) ≡
    true) (same_text_is r.table table both.1) (both.0 n r.table wrote))
    (any_filter (λ r. list_any (writes n) (items_of r.table r.items)) (λ r. nat_le r.seq version)
    (rows_of table rows) some))
    (replayed_from n (rows_to version (rows_of table rows)) [] is)
  where
    nothing : false ≡ true → ⊥
    nothing e = absurd cc

-- fewer items write a name no more often
pub fewer_written : (n : Name) (q : Item → Bool) (items : List Item) → times_written n
    (filter q items) ≤
    times_written n items
fewer_written n q items =
    omega (arith, weight_halves q (λ (i : Item). if writes n i then 1 else 0) items)

module _ (k : Book) (st : State) (session : ℕ) (t : Transaction) (gained lost : List Name)
    (more : List Row) (sound : IsSound st) (agrees : NotesAgree k st)
    (opened : transaction st session ≡ Some t)
    (asks : AreNewRows k st t (k.items session) (marks_of t.pending.removed) gained lost more) where
  abbrev mine : List Item
  mine = k.items session

  abbrev IsMine : Row → Type 0
  IsMine r = IsNewRow k st t (k.items session) (marks_of t.pending.removed) r

  written : AreWritten t.number t.parts (k.items session)
  written = agrees.open_items session t opened

  have_mine : AllByRecursion (λ r. r.items ≡ k.items session) more
  have_mine = all_weaker more (λ r is. is.items) asks.rows

  -- what a row adds its items write
  adds_written : AllByRecursion (λ r. (n : Name) → adds n r ≡ true → list_any (writes n)
      (items_of r.table r.items) ≡ true) more
  adds_written = all_weaker more one asks.rows
    where
      one : (r : Row) → IsMine r → (n : Name) → adds n r ≡ true → list_any (writes n)
          (items_of r.table r.items) ≡ true
      one r is n e =
          let old = files_at k.rows t.snapshot r.table in
          let both = and_both (is_among n (names_in (replay 0 (items_of r.table r.items) old)))
          (not (is_among n (names_in old))) (sym (is.names.gains n) ∙ e) in
          ⊎_elim (λ was. absurd (not_both (is_among n (names_in old)) was both.1)) (λ new. new)
          (came_from 0 (items_of r.table r.items) old n both.0)
        where
          not_both : (b : Bool) → b ≡ true → not b ≡ true → ⊥
          not_both true e f = absurd cc
          not_both false e f = absurd cc

  -- so its names are the transaction's
  pub commit_adds : AllByRecursion (λ r. (n : Name) → adds n r ≡ true → list_any (writes n)
      (k.items session) ≡ true) more
  commit_adds = all_both more (λ r wrote has n e. ap (list_any (writes n)) (sym has) ∙ any_filter
      (writes n) (λ i. same_text (item_table i) r.table) r.items (wrote n e)) adds_written have_mine

  -- what it drops an earlier row's items wrote
  drops_written : AllByRecursion
      (λ r. (n : Name) → is_among n r.dropped ≡ true → list_any (writes n)
      (items_of r.table (items_of_all k.rows)) ≡ true) more
  drops_written = all_weaker more
      (λ r is n e. names_written k.rows t.snapshot r.table n (and_both
      (is_among n (names_in (files_at k.rows t.snapshot r.table)))
      (not (is_among n (names_in (replay 0 (items_of r.table r.items)
      (files_at k.rows t.snapshot r.table))))) (sym (is.names.loses n) ∙ e)).0) asks.rows

  numbered : t.number ≤ st.last_number
  numbered = opened_all (λ u. u.number ≤ st.last_number) session st.running t sound.given opened

  -- no earlier row's items write what the transaction's write
  apart : (name : Name) → list_any (writes name) (items_of_all k.rows) ≡ true → list_any
      (writes name) (items_of_all more) ≡ true → ⊥
  apart name old new =
      let own = (written.own name (any_mine (k.items session) name more have_mine new)).0 in
      at k.rows (all_both k.rows (λ r a b. (a, b)) agrees.own (agrees.ended session t opened)) own
      old
    where
      differ : (n a b : ℕ) → nat_eq n a ≡ true → nat_eq n b ≡ true → nat_eq a b ≡ false → ⊥
      differ n a b e f off = absurd (grind arith)

      at : (rows : List Row) → AllByRecursion (λ r.
          ((name : Name) → list_any (writes name) r.items ≡ true → is_name_of r.txn name ≡ true) ×
          (nat_eq r.txn t.number ≡ false)) rows → is_name_of t.number name ≡ true → list_any
          (writes name) (items_of_all rows) ≡ true → ⊥
      at [] all own is = absurd cc
      at (r ∷ rs) all own is = ⊎_elim
          (λ here. differ name.txn r.txn t.number (all.0.0 name here) own all.0.1)
          (λ rest. at rs all.1 own rest)
          (any_parts (writes name) r.items (items_of_all rs) is)

  once_here : (table : List ℕ) (name : Name) → times_written name (table_items (rows_of table more))
      ≤ 1
  once_here table name = by (asks.each table)
    where
      by : HasOne (k.items session) more table → times_written name
          (table_items (rows_of table more)) ≤ 1
      by (inl none) = subst (λ (rs : List Row). times_written name (table_items rs) ≤ 1)
          (sym none.0) (omega arith)
      by (inr (r, is)) =
          let has = subst (λ (rs : List Row). AllByRecursion (λ r. r.items ≡ k.items session) rs) is
          (all_filter (λ r. r.items ≡ k.items session) (λ r. same_text r.table table) more
          have_mine) in
          let few : times_written name (items_of r.table r.items) ≤ 1 = omega (
            arith,
            fewer_written name (λ i. same_text (item_table i) r.table) r.items,
            ap (times_written name) has.0,
            written.once name,
          ) in
          subst (λ (rs : List Row). times_written name (table_items rs) ≤ 1) (sym is)
          (subst (λ (is : List Item). times_written name is ≤ 1)
          (sym (append-nil (items_of r.table r.items))) few)

  one_table_here : HaveOneTable (items_of_all more)
  one_table_here name one other is is' =
      written.one_table name one other (all_mine (k.items session) name one more have_mine is)
      (all_mine (k.items session) name other more have_mine is')

  abbrev ending_state : Version → State
  ending_state v = ended session (with_version v lost gained st)

  new_rows : (v : Version) → v.struck ≡ marks_of t.pending.removed → AreOfVersion k st
      (ending_state v) v more
  new_rows v struck = record {
    seqs = all_weaker more (λ r is. is.seq) asks.rows;
    given = all_weaker more (λ r is. omega (arith, is.txn, numbered)) asks.rows;
    ended = λ other u is. all_weaker more
        (λ r mine. differ r.txn t.number u.number mine.txn (λ same.
        not_ended session other (with_version v lost gained st) u is
        (one_session session other st.running t u sound.numbers opened
        (ended_was session other (with_version v lost gained st) u is) same))) asks.rows;
    own = all_weaker more (λ r is n wrote. subst (λ (m : ℕ). is_name_of m n ≡ true) (sym is.txn)
        (written.own n (ap (list_any (writes n)) (sym is.items) ∙ wrote)).0) asks.rows;
    one_table = one_table_here;
    apart = apart;
    once = once_here;
    adds = adds_written;
    marks = all_weaker more (λ r is. is.marks ∙ ap
        (λ (ms : List Mark). marks_of_table r.table ms) (sym struck))
        asks.rows;
    struck = λ m is. asks.struck_rows m (ap (λ (ms : List Mark). is_marked ms m) (sym struck) ∙ is);
  }
    where
      differ : (a n m : ℕ) → a ≡ n → (nat_eq n m ≡ true → ⊥) → nat_eq a m ≡ false
      differ a n m is off = ap (λ (k : ℕ). nat_eq k m) is ∙ elim (nat_eq n m) as
          (λ b. nat_eq n m ≡ b → b ≡ false) [ true ↦ λ e. absurd (off e) | false ↦ λ e. refl ] refl

  -- the table whose items write a name
  abbrev all_rows : List Row
  all_rows = k.rows ++ more

  owner : Name → List ℕ
  owner n = option_map_or item_table (find (writes n) (items_of_all (k.rows ++ more))) []

  one_table_now : HaveOneTable (items_of_all (k.rows ++ more))
  one_table_now = subst HaveOneTable
      (sym (all_items_append k.rows more))
      (one_table_more (items_of_all k.rows) (items_of_all more) apart agrees.one_table
      one_table_here)

  owner_is : (n : Name) (table : List ℕ) → list_any (writes n)
      (items_of table (items_of_all (k.rows ++ more))) ≡ true → table ≡ owner n
  unfolding owner
  owner_is n table is =
      let items = items_of_all (k.rows ++ more) in
      elim (find (writes n) items) as
      (λ o. find (writes n) items ≡ o → table ≡ option_map_or item_table o []) [
        | None ↦ λ e. let no : true ≡ false = sym
            (any_filter (writes n) (λ i. same_text (item_table i) table) items is) ∙
            none_any (writes n) items e in absurd cc
        | Some i ↦ λ e. one_table_now n table (item_table i) is (found_writes n items i e)
      ] refl
    where
      none_any : {X : Type 0} (p : X → Bool) (xs : List X) → find p xs ≡ None → list_any p xs ≡
          false
      none_any p [] e = refl
      none_any p (x ∷ xs) e =
          elim (p x) as (λ b. cond b (Some x) (find p xs) ≡ None → (b || list_any p xs) ≡ false)
          [ true ↦ λ e. absurd cc | false ↦ λ e. none_any p xs e ] e

      found_writes : (n : Name) (items : List Item) (i : Item) → find (writes n) items ≡ Some i →
          list_any (writes n) (items_of (item_table i) items) ≡ true
      found_writes n [] i e = absurd cc
      found_writes n (j ∷ js) i e =
          elim (writes n j) as (λ b. writes n j ≡ b → cond b (Some j) (find (writes n) js) ≡ Some i
          →
          list_any (writes n) (items_of (item_table i) (j ∷ js)) ≡ true) [
            | true ↦ λ h e.
                let same : j ≡ i = cc in
                subst (λ (i : Item). list_any (writes n) (items_of (item_table i) (j ∷ js)) ≡ true)
                same (ap (λ (b : Bool). list_any (writes n)
                (cond b (j ∷ items_of (item_table j) js) (items_of (item_table j) js)))
                (same_text_self (item_table j)) ∙ or_left (writes n j)
                (list_any (writes n) (items_of (item_table j) js)) h)
            | false ↦ λ h e. elim (same_text (item_table j) (item_table i)) as (λ b. list_any
                (writes n) (cond b (j ∷ items_of (item_table i) js) (items_of (item_table i) js)) ≡
                true) [
                  | true ↦ or_right (writes n j)
                      (list_any (writes n) (items_of (item_table i) js)) (found_writes n js i e)
                  | false ↦ found_writes n js i e
                ]
          ] refl e

  old_owner : (n : Name) (table : List ℕ) → list_any (writes n)
      (items_of table (items_of_all k.rows)) ≡ true → table ≡ owner n
  old_owner n table is = owner_is n table (subst (λ (is : List Item). list_any (writes n) is ≡ true)
      (sym (ap (items_of table) (all_items_append k.rows more) ∙
      filter-append (λ (i : Item). same_text (item_table i) table) (items_of_all k.rows)
      (items_of_all more)))
      (any_front (writes n) (items_of table (items_of_all k.rows))
      (items_of table (items_of_all more)) is))

  commit : IsOwnedCommit (shown k st) (map shown_row more) gained lost owner
  commit = record {
    behind = all_map (λ r. r.seq ≤ last st) shown_row k.rows agrees.within;
    next = all_map (λ r. r.seq ≡ last st + 1) shown_row more
        (all_weaker more (λ r is. is.seq) asks.rows);
    added = λ name. any_map (λ r. is_among name r.added) shown_row more ∙ asks.added name;
    dropped = λ name. any_map (λ r. is_among name r.dropped) shown_row more ∙ asks.dropped name;
    adds_own = all_map (λ r. (name : Name) → is_among name r.added ≡ true → r.table ≡ owner name)
        shown_row k.rows (all_both k.rows
        (λ r wrote inside name e. old_owner name r.table (inside name r.table (wrote name e)))
        agrees.adds (in_items k.rows));
    drops_own = all_map (λ r. (name : Name) → is_among name r.dropped ≡ true → r.table ≡ owner name)
        shown_row more
        (all_weaker more (λ r wrote name e. old_owner name r.table (wrote name e)) drops_written);
  }

  commit_names : (v : Version) → HaveNames (with_version v lost gained st)
      (shown (record k { rows = k.rows ++ more }) (with_version v lost gained st))
  commit_names v version name low high =
      ap (λ (rs : List NamesRow). has_name
      (record (shown k st) { rows = rs; last = last st + 1 }) version name)
      (map_append shown_row k.rows more)
      ∙ commits_stand st (shown k st) (map shown_row more) v gained lost sound.counted
      sound.some_version refl sound.floor
      (owned_commits (shown k st) (map shown_row more) gained lost owner commit) agrees.versions
      version name low (omega (arith, high, longer))
    where
      longer : last (with_version v lost gained st) ≡ last st + 1
      longer = omega (arith, length-append st.versions (v ∷ []), sound.some_version)

  pub commit_notes : NotesAgree (with_rows k more) (after_commit session lost gained st)
  commit_notes =
      let v = version_after (last st + 1) t.pending t.worn (newest st) in
      let now : after_commit session lost gained st ≡ ended session (with_version v lost gained st)
      =
      ap (λ (o : Option Transaction). option_map_or (λ t. ended session (with_version
      (version_after (last st + 1) t.pending t.worn (newest st)) lost gained st)) o st) opened in
      subst (λ (st' : State). NotesAgree (with_rows k more) st') (sym now)
      (notes_grow k more st (ending_state v) v agrees sound.some_version refl refl
      (new_rows v refl) (λ other u is. ended_was session other st u is)
      (λ version name low high. commit_names v version name low high))

pub noted_commit : NotedCommit
noted_commit told k entries e t seq gained lost more was next opened asks =
    noted_next told k (with_rows k more) entries e (Committed seq gained lost) was next
    (same_checks k)
    (λ sound may. commit_notes k (state entries) e.entry.session t gained lost more sound was.agrees
    opened asks)
