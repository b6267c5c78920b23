-- What stays of a book with an entry.
use Rattle.std.proofs.Common.{◌≡◌, ℕ, ◌+◌, ◌-◌, ◌<◌, ◌≤◌, true, false, not, ◌&&◌, nat_eq, List, []}
use Rattle.std.proofs.Common.{◌∷◌, ◌++◌, Option, None, Some, inl, inr, ◌⊎◌, length, map, filter}
use Rattle.std.proofs.Common.{unwrap_or, refl, sym, ap, ◌∙◌, subst, arith, length-append, Bool}
use Rattle.std.proofs.Common.{cond, ◌||◌, if◌then◌else◌}
use Rattle.std.proofs.lemmas.Bool.{eqb-true, le-leb, leb-true}
use Rattle.std.proofs.lemmas.List.{append-nil}
use Rattle.std.specs.Prelude.{nat_le, slice_get}
use Rattle.std.specs.Option.{option_map_or}
use Rattle.std.specs.List.{AllByRecursion, list_any}
use Rattle.lake_values.specs.declared.names.Name.{Name}
use Rattle.sql_model.specs.declared.changes.Mark.{Mark}
use Rattle.sql_model.specs.declared.changes.MarkedRow.{MarkedRow}
use Rattle.sql_model.specs.Changes.{is_nil}
use Rattle.sql_model.specs.Listing.{weight}
use Rattle.lake_values.specs.Names.{is_among}
use Rattle.lake_model.specs.State.{State, Transaction, ended, last, opened_by, transaction, turned}
use Rattle.lake_model.specs.State.{version_at}
use Rattle.sql_model.specs.Units.{ConflictUnit, share_unit, same_unit}
use Rattle.sql_model.specs.Versions.{Version, empty_version, wrote}
use Rattle.lake_values.specs.Texts.{same_text}
use Rattle.lake_model.proofs.Growth.{version_kept, version_made}
use Rattle.sql_model.proofs.Lists.{all_append, all_both, all_filter, all_weaker}
use Rattle.sql_model.proofs.Removal.{filter_all}
use Rattle.sql_model.proofs.Sorting.{all_placed}
use Rattle.data_cell.specs.Live.{live_rows}
use Rattle.manifest_block.specs.declared.items.Item.{Item}
use Rattle.manifest_block.specs.declared.items.Item.TheVariants.{Add, Remove, SetVector}
use Rattle.table_snapshot.specs.declared.files.FileRow.{FileRow}
use Rattle.file_laws.specs.Collector.{names_at}
use Rattle.file_laws.specs.Contents.{Contents, live_of, mark_of, rows_in, with_mark}
use Rattle.table_snapshot.specs.Files.{after_item, file_cmp, is_file, items_of, new_file, replay}
use Rattle.table_snapshot.specs.Files.{with_vector, without_file}
use Rattle.file_laws.specs.Kept.{Agrees, Book, HasBlobs, HasFile, IsOwnItem, IsOwnName, NamesAgree}
use Rattle.file_laws.specs.Kept.{OwnsItems, TellsMarks, has_row_at, marks_of_table, unit_of}
use Rattle.file_laws.specs.KeptLaws.{HasMore, SameAt}
use Rattle.table_snapshot.specs.Files.{vector_names}
use Rattle.file_laws.specs.Standing.{FilesStand}
use Rattle.file_laws.specs.Stands.{Stands, files_at, rows_of, rows_to}
use Rattle.file_laws.specs.StandsLaws.{NumbersStand}
use Rattle.file_laws.specs.Touching.{Row, adds_own, AddsOwn, is_marked, is_name_of, replay_rows}
use Rattle.file_laws.proofs.ChangeLemmas.{still_open}
use Rattle.file_laws.proofs.Some.{any_behind, any_front}
use Rattle.file_laws.proofs.CloseLemmas.{checks_stay, files_before}

-- what items make of files

abbrev pub Makes : (FileRow → Type 0) → ℕ → Item → Type 0
Makes P seq (Add table cell part file rows) = P (new_file seq cell part file rows)
Makes P seq (Remove table file) = Unit {0}
Makes P seq (SetVector table file vector removed) =
    (f : FileRow) → P f → P (record f { vector = Some (vector, removed) })

pub replay_keeps : (P : FileRow → Type 0) (seq : ℕ) (items : List Item) → AllByRecursion
    (Makes P seq) items → (files : List FileRow) → AllByRecursion P files → AllByRecursion P
    (replay seq items files)
replay_keeps P seq [] makes files all = all
replay_keeps P seq (i ∷ is) makes files all =
    replay_keeps P seq is makes.1 (after_item seq files i) (one i makes.0)
  where
    vector_all : (file vector : Name) (removed : ℕ) →
        ((f : FileRow) → P f → P (record f { vector = Some (vector, removed) })) →
        (fs : List FileRow) → AllByRecursion P fs → AllByRecursion P
        (map (with_vector file vector removed) fs)
    vector_all file vector removed keeps [] all = tt
    vector_all file vector removed keeps (f ∷ fs) all = (
      elim (is_file file f) as
          (λ b. P (if b then record f { vector = Some (vector, removed) } else f))
          [ true ↦ keeps f all.0 | false ↦ all.0 ],
      vector_all file vector removed keeps fs
          all.1,
    )

    one : (i : Item) → Makes P seq i → AllByRecursion P (after_item seq files i)
    one (Add table cell part file rows) new = all_placed file_cmp P
        (new_file seq cell part file rows) (without_file file files) new
        (all_filter P (λ f. not (is_file file f)) files all)
    one (Remove table file) new = all_filter P (λ f. not (is_file file f)) files all
    one (SetVector table file vector removed) keeps = vector_all file vector removed keeps files all

-- the blobs of what a transaction's items make are there
pub own_blobs : (c : Contents) (number parts seq : ℕ) (items : List Item) → AllByRecursion
    (IsOwnItem c number parts) items → (files : List FileRow) → HasBlobs c files → HasBlobs c
    (replay seq items files)
own_blobs c number parts seq items own files has =
    replay_keeps (HasFile c) seq items (all_weaker items makes own) files has
  where
    makes : (i : Item) → IsOwnItem c number parts i → Makes (HasFile c) seq i
    makes (Add table cell part file rows) is = (is.0.here, tt)
    makes (Remove table file) is = tt
    makes (SetVector table file vector removed) is = λ f has. (has.0, (is.here, tt))

pub items_add_own : (c : Contents) (number parts : ℕ) (items : List Item) → AllByRecursion
    (IsOwnItem c number parts) items → AddsOwn number items
items_add_own c number parts items own = all_weaker items adds own
  where
    adds : (i : Item) → IsOwnItem c number parts i → adds_own number i ≡ true
    adds (Add table cell part file rows) is = is.0.own
    adds (Remove table file) is = refl
    adds (SetVector table file vector removed) is = refl

-- a later part
pub name_later : (c : Contents) (number parts more : ℕ) → parts ≤ more → (n : Name) → IsOwnName c
    number parts n → IsOwnName c number more n
name_later c number parts more le n is =
    record { own = is.own; up_to = omega (arith, is.up_to, le); here = is.here }

pub item_later : (c : Contents) (number parts more : ℕ) → parts ≤ more → (i : Item) → IsOwnItem c
    number parts i → IsOwnItem c number more i
item_later c number parts more le (Add table cell part file rows) is =
    (name_later c number parts more le file is.0, omega (arith, is.1, le))
item_later c number parts more le (Remove table file) is = tt
item_later c number parts more le (SetVector table file vector removed) is =
    name_later c number parts more le vector is

pub owns_later : (c : Contents) (items : List Item) (t : Transaction) → OwnsItems c items t →
    OwnsItems c items (record t { parts = t.parts + 1 })
owns_later c items t owns = record {
  items = all_weaker items (item_later c t.number t.parts (t.parts + 1) (omega arith)) owns.items;
  added = all_weaker t.pending.added (λ a is. (omega (arith, is.0), is.1)) owns.added;
  apart = owns.apart;
  worn = all_weaker t.worn (λ m le. omega (arith, le)) owns.worn;
  one_table = owns.one_table;
}

-- over other contents

abbrev pub SameFile : Contents → Contents → FileRow → Type 0
SameFile c c' f = AllByRecursion (SameAt c c') (f.file ∷ vector_names f.vector)

live_alike : (c c' : Contents) (f : FileRow) → SameAt c c' f.file → (v : Option (Name × ℕ)) →
    AllByRecursion (SameAt c c') (vector_names v) → live_rows
    (option_map_or (λ v. c'.gone v.0) v []) (c'.rows f.file) ≡ live_rows
    (option_map_or (λ v. c.gone v.0) v []) (c.rows f.file)
live_alike c c' f same None all = ap (live_rows []) same.0
live_alike c c' f same (Some v) all = λ i. live_rows (all.0.1 i) (same.0 i)

rows_alike : (c c' : Contents) (table : List ℕ) (files : List FileRow) → AllByRecursion
    (λ f. live_of c' f ≡ live_of c f) files → rows_in c' table files ≡ rows_in c table files
rows_alike c c' table [] all = refl
rows_alike c c' table (f ∷ fs) all =
    λ i. map (with_mark (mark_of table f)) (all.0 i) ++ rows_alike c c' table fs all.1 i

pub files_over : (c c' : Contents) (table : List ℕ) (files : List FileRow) (rows : List MarkedRow)
    (worn : List Mark) → AllByRecursion (SameFile c c') files → FilesStand c table files rows worn →
    FilesStand c' table files rows worn
files_over c c' table files rows worn alike stands =
    let same = all_weaker files (λ f is. live_alike c c' f is.0 f.vector is.1) alike in
    record {
      same = λ g. ap (weight g) (rows_alike c c' table files same) ∙ stands.same g;
      vectors = stands.vectors;
      filled = all_both files (λ f is filled. ap is_nil is ∙ filled) same stands.filled;
      one_each = stands.one_each;
    }

pub stands_over : (c c' : Contents) (rows : List Row) (items : ℕ → List Item) (st : State) → Stands
    c rows items st
    → ((n : ℕ) (table : List ℕ) → st.floor ≤ n → n ≤ last st → AllByRecursion (SameFile c c')
    (files_at rows n table))
    → ((session : ℕ) (t : Transaction) (table : List ℕ) → transaction st session ≡ Some t →
    AllByRecursion (SameFile c c')
    (replay 0 (items_of table (items session)) (files_at rows t.snapshot table)))
    → Stands c' rows items st
stands_over c c' rows items st stands versions opens = record {
  some = stands.some;
  order = stands.order;
  within = stands.within;
  touching = stands.touching;
  versions = λ n low high. let was = stands.versions n low high in record {
    each = λ table.
        files_over c c' table _ _ _ (versions n table low high) (was.each table);
    up_to = was.up_to;
  };
  open_ones = λ session t is.
      let was = stands.open_ones session t is in
      record {
        known = was.known;
        snapshot = was.snapshot;
        each = λ table. let seen = was.each table in record {
          may = seen.may;
          none = seen.none;
          part = seen.part;
          own_rows = seen.own_rows;
          own_marks = seen.own_marks;
          stands =
              files_over c c' table _ _ _ (opens session t table is) seen.stands;
        };
      };
}

pub more_same : (c c' : Contents) → HasMore c c' → (files : List FileRow) → HasBlobs c files →
    AllByRecursion (SameFile c c') files
more_same c c' more files has =
    all_weaker files
    (λ f is. all_weaker (f.file ∷ vector_names f.vector) (λ n held. (more n held).1) is) has

-- a session's transaction after an entry

pub ended_was : (session other : ℕ) (st : State) (u : Transaction) → transaction (ended session st)
    other ≡ Some u → transaction st other ≡ Some u
ended_was session other st u is = still_open session other st.running u is

pub turned_was : (session other : ℕ) (t : Transaction) (st : State) (u : Transaction) → transaction
    (turned session t st) other ≡ Some u →
    ((nat_eq other session ≡ false) × (transaction st other ≡ Some u)) ⊎
    ((other ≡ session) × (t ≡ u))
turned_was session other t st u is =
    elim (nat_eq session other) as (λ b. nat_eq session other ≡ b → (if b then Some t else
    opened_by other (filter (λ o. not (nat_eq o.0 session)) st.running)) ≡ Some u →
    ((nat_eq other session ≡ false) × (transaction st other ≡ Some u)) ⊎
    ((other ≡ session) × (t ≡ u))) [
      | true ↦ λ e is. inr (sym (eqb-true session other e), some_same is)
      | false ↦ λ e is. inl (flip session other e, still_open session other st.running u is)
    ] refl is
  where
    flip : (a b : ℕ) → nat_eq a b ≡ false → nat_eq b a ≡ false
    flip a b e = grind arith

    some_same : {x y : Transaction} → ◌≡◌ {A = Option Transaction} (Some x) (Some y) → x ≡ y
    some_same e = cc

-- each open transaction was open, or is newer than all
abbrev pub OpenFrom : State → State → Type 0
OpenFrom st st' =
    (session : ℕ) (t : Transaction) → transaction st' session ≡ Some t →
    ((u : Transaction) × (transaction st session ≡ Some u) × (u.number ≡ t.number)) ⊎
    (st.last_number < t.number)

pub numbers_from : (rows : List Row) (st st' : State) → NumbersStand rows st → AllByRecursion
    (λ r. r.txn ≤ st.last_number) rows → OpenFrom st st' → NumbersStand rows st'
numbers_from rows st st' numbers given from = record {
  apart = numbers.apart;
  open_ones = λ session t is. at session t (from session t is);
  own_adds = numbers.own_adds;
}
  where
    newer : (a n l : ℕ) → a ≤ l → l < n → nat_eq a n ≡ false
    newer a n l le less = grind arith

    at : (session : ℕ) (t : Transaction) →
        ((u : Transaction) × (transaction st session ≡ Some u) × (u.number ≡ t.number)) ⊎
        (st.last_number < t.number) → AllByRecursion (λ r. nat_eq r.txn t.number ≡ false) rows
    at session t (inl (u, was, same)) = all_weaker rows
        (λ r off. ap (nat_eq r.txn) (sym same) ∙ off) (numbers.open_ones session u was)
    at session t (inr new) = all_weaker rows (λ r le. newer r.txn t.number st.last_number le new)
        given

-- an entry that makes no version

names_carried : (k : Book) (items' : ℕ → List Item) (st st' : State) → NamesAgree k st → last st' ≡
    last st → st'.names ≡ st.names → st.floor ≤ st'.floor → NamesAgree (record k { items = items' })
    st'
names_carried k items' st st' agrees last_same same up = record {
  once = agrees.once;
  turns = agrees.turns;
  own = agrees.own;
  one_table = agrees.one_table;
  versions = λ version name low high. agrees.versions version name (omega (arith, low, up))
      (omega (arith, high, last_same)) ∙ ap
      (λ (ns : List (List Name)). is_among name (names_at (record st { names = ns }) version))
      (sym same);
}

-- fewer marks, fewer units
fewer_units : (q : Mark → Bool) (marks : List Mark) (us : List ConflictUnit) → share_unit us
    (map unit_of marks) ≡ false → share_unit us (map unit_of (filter q marks)) ≡ false
fewer_units q marks [] e = refl
fewer_units q marks (u ∷ us) e =
    let both = parts (list_any (same_unit u) (map unit_of marks))
    (share_unit us (map unit_of marks)) e in
    rw (one marks both.0) (fewer_units q marks us both.1)
  where
    parts : (a b : Bool) → (a || b) ≡ false → (a ≡ false) × (b ≡ false)
    parts true b e = absurd cc
    parts false b e = (refl, e)

    one : (ms : List Mark) → list_any (same_unit u) (map unit_of ms) ≡ false → list_any
        (same_unit u) (map unit_of (filter q ms)) ≡ false
    one [] e = refl
    one (m ∷ ms) e =
        let both = parts (same_unit u (unit_of m)) (list_any (same_unit u) (map unit_of ms)) e in
        elim (q m) as (λ b. list_any (same_unit u)
        (map unit_of (cond b (m ∷ filter q ms) (filter q ms))) ≡ false) [
          | true ↦ rw both.0 (one ms both.1)
          | false ↦ one ms both.1
        ]

-- who shares no unit with what a row's commit wrote shares none with the row
pub row_units : (st : State) (r : Row) (us : List ConflictUnit) → TellsMarks st r → share_unit us
    (wrote (version_at st r.seq)) ≡ false → share_unit us (map unit_of r.marks) ≡ false
row_units st r us tells free =
    ap (λ (ms : List Mark). share_unit us (map unit_of ms)) tells ∙ fewer_units
    (λ m. same_text m.table r.table) (version_at st r.seq).struck us free

pub carry : (k : Book) (items' : ℕ → List Item) (st st' : State) → Agrees k st → Stands k.contents
    k.rows items' st' → st'.versions ≡ st.versions → st'.names ≡ st.names → st.last_number ≤
    st'.last_number → st.floor ≤ st'.floor → OpenFrom st st'
    → ((session : ℕ) (t : Transaction) → transaction st' session ≡ Some t → OwnsItems k.contents
    (items' session) t) → Agrees (record k { items = items' }) st'
carry k items' st st' agrees stands same same_names later up from owns = record {
  stands = stands;
  numbers = numbers_from k.rows st st' agrees.numbers agrees.given from;
  given = all_weaker k.rows (λ r le. omega (arith, le, later)) agrees.given;
  open_items = owns;
  checks = agrees.checks;
  checked = all_weaker k.checks (λ c le. omega (arith, le, last_same)) agrees.checked;
  marks = all_weaker k.rows (λ r is. is ∙ ap (λ (v : Version). marks_of_table r.table v.struck)
      (sym (version_same r.seq))) agrees.marks;
  struck = λ n m le is. agrees.struck n m (omega (arith, le, last_same))
      (ap (λ (v : Version). is_marked v.struck m) (sym (version_same n)) ∙ is);
  names = names_carried k items' st st' agrees.names last_same same_names up;
  blobs = λ version table low high. agrees.blobs version table (omega (arith, low, up))
      (omega (arith, high, last_same));
}
  where
    version_same : (n : ℕ) → version_at st' n ≡ version_at st n
    version_same n = ap (λ (vs : List Version). unwrap_or (slice_get vs n) empty_version) same

    last_same : last st' ≡ last st
    last_same = ap (λ (vs : List Version). length vs - 1) same

-- an entry that makes a version

pub files_above : (rows : List Row) (n last : ℕ) (table : List ℕ) → last ≤ n → AllByRecursion
    (λ r. r.seq ≤ last) rows → files_at rows n table ≡ files_at rows last table
files_above rows n last table le within =
    ap (λ (rs : List Row). replay_rows rs []) (all n le ∙ sym (all last (omega arith)))
  where
    all : (m : ℕ) → last ≤ m → rows_to m (rows_of table rows) ≡ rows_of table rows
    all m le = filter_all (λ r. nat_le r.seq m) (rows_of table rows) (all_filter
        (λ r. nat_le r.seq m ≡ true) (λ r. same_text r.table table) rows
        (all_weaker rows (λ r up. le-leb r.seq m (omega (arith, up, le))) within))

pub grow : (k : Book) (more : List Row) (st st' : State) (v : Version) → Agrees k st → Stands
    k.contents (k.rows ++ more) k.items st' → NumbersStand (k.rows ++ more) st' → st'.versions ≡
    st.versions ++ v ∷ [] → st'.last_number ≡ st.last_number → st'.floor ≡ st.floor
    → AllByRecursion (λ r. r.seq ≡ last st + 1) more → AllByRecursion (λ r. r.txn ≤ st.last_number)
    more
    → AllByRecursion (λ r. r.marks ≡ marks_of_table r.table v.struck) more →
    ((m : Mark) → is_marked v.struck m ≡ true → has_row_at more (last st + 1) m.table ≡ true) →
    NamesAgree (record k { rows = k.rows ++ more }) st'
    → ((session : ℕ) (t : Transaction) → transaction st' session ≡ Some t → transaction st session
    ≡ Some t)
    → ((table : List ℕ) → HasBlobs k.contents (files_at (k.rows ++ more) (last st + 1) table)) →
    Agrees (record k { rows = k.rows ++ more }) st'
grow k more st st' v agrees stands numbers made number floor new given marks struck names from has =
    record {
      stands = stands;
      numbers = numbers;
      given = all_append (λ r. r.txn ≤ st'.last_number) k.rows more
          (all_weaker k.rows (λ r le. omega (arith, le, number)) agrees.given)
          (all_weaker more (λ r le. omega (arith, le, number)) given);
      open_items = λ session t is. agrees.open_items session t (from session t is);
      checks = checks_stay k.rows more k.checks (last st) agrees.checked new agrees.checks;
      checked = all_weaker k.checks (λ c le. omega (arith, le, longer)) agrees.checked;
      marks = all_append (λ r. r.marks ≡ marks_of_table r.table (version_at st' r.seq).struck)
          k.rows
          more
          (all_both k.rows (λ r is le. is ∙ ap (λ (v : Version). marks_of_table r.table v.struck)
          (sym (old r.seq le))) agrees.marks agrees.stands.within)
          (all_both more (λ r marks is. marks ∙ ap
          (λ (v : Version). marks_of_table r.table v.struck)
          (sym (ap (version_at st') is ∙ new_one))) marks new);
      struck = λ n m le is. struck_at n m (omega (arith, le, longer)) is;
      names = names;
      blobs = λ version table low high. blobs version table (omega (arith, low, floor))
          (omega (arith, high, longer));
    }
  where
    some : 0 < length st.versions
    some = agrees.stands.some

    longer : last st' ≡ last st + 1
    longer = omega (
      arith,
      ap (λ (vs : List Version). length vs) made,
      length-append st.versions
          (v ∷ []),
      some,
    )

    old : (n : ℕ) → n ≤ last st → version_at st' n ≡ version_at st n
    old n le = version_kept st st' (v ∷ [], made) n (omega (arith, le, some))

    new_one : version_at st' (last st + 1) ≡ v
    new_one = let place : length st.versions ≡ last st + 1 = omega (arith, some) in ap
        (version_at st') (sym place) ∙ version_made st st' v []
        (made ∙ sym (append-nil (st.versions ++ v ∷ [])))

    next : (n l : ℕ) → nat_le n l ≡ false → n ≤ l + 1 → n ≡ l + 1
    next n l e le = grind arith

    struck_at : (n : ℕ) (m : Mark) → n ≤ last st + 1 → is_marked (version_at st' n).struck m ≡ true
        → has_row_at (k.rows ++ more) n m.table ≡ true
    struck_at n m high is = elim (nat_le n (last st)) as
        (λ b. nat_le n (last st) ≡ b → has_row_at (k.rows ++ more) n m.table ≡ true) [
          | true ↦ λ e.
              let le = leb-true n (last st) e in
              any_front (λ r. same_text r.table m.table && nat_eq r.seq n) k.rows more
              (agrees.struck n
              m le (ap (λ (v : Version). is_marked v.struck m) (sym (old n le)) ∙ is))
          | false ↦ λ e.
              let at = next n (last st) e high in
              subst (λ (x : ℕ). has_row_at (k.rows ++ more) x m.table ≡ true) (sym at)
              (any_behind (λ r. same_text r.table m.table && nat_eq r.seq (last st + 1)) k.rows more
              (struck m (ap (λ (v : Version). is_marked v.struck m)
              (sym (ap (version_at st') at ∙ new_one)) ∙ is)))
        ] refl

    blobs : (n : ℕ) (table : List ℕ) → st.floor ≤ n → n ≤ last st + 1 → HasBlobs k.contents
        (files_at (k.rows ++ more) n table)
    blobs n table low high = elim (nat_le n (last st)) as
        (λ b. nat_le n (last st) ≡ b → HasBlobs k.contents (files_at (k.rows ++ more) n table)) [
          | true ↦ λ e. let le = leb-true n (last st) e in subst
              (λ (fs : List FileRow). HasBlobs k.contents fs)
              (sym (files_before k.rows more n (last st) table le new))
              (agrees.blobs n table low le)
          | false ↦ λ e. subst (λ (m : ℕ). HasBlobs k.contents (files_at (k.rows ++ more) m table))
              (sym (next n (last st) e high)) (has table)
        ] refl

-- over more blobs

pub owns_over : (c c' : Contents) (items : List Item) (t : Transaction) →
    ((n : Name) → is_name_of t.number n ≡ true → c.has n ≡ true → c'.has n ≡ true) → OwnsItems c
    items t → OwnsItems c' items t
owns_over c c' items t more owns =
    record {
      items = all_weaker items over owns.items;
      added = owns.added;
      apart = owns.apart;
      worn
          = owns.worn;
      one_table = owns.one_table;
    }
  where
    name_over : (n : Name) → IsOwnName c t.number t.parts n → IsOwnName c' t.number t.parts n
    name_over n is = record { own = is.own; up_to = is.up_to; here = more n is.own is.here }

    over : (i : Item) → IsOwnItem c t.number t.parts i → IsOwnItem c' t.number t.parts i
    over (Add table cell part file rows) is = (name_over file is.0, is.1)
    over (Remove table file) is = tt
    over (SetVector table file vector removed) is = name_over vector is
