-- What a kept book tells.
use Rattle.std.proofs.Common.{◌≡◌, ℕ, ◌<◌, ◌≤◌, Bool, true, false, not, ◌&&◌, ◌||◌, cond, List, []}
use Rattle.std.proofs.Common.{◌∷◌, ◌++◌, Option, None, Some, inl, inr, flat_map, map, filter, refl}
use Rattle.std.proofs.Common.{sym, ap, ◌∙◌, subst, arith, nat_eq, if◌then◌else◌}
use Rattle.std.proofs.lemmas.Bool.Decides.{nat_tests}
use Rattle.std.proofs.lemmas.List.{append-nil}
use Rattle.std.specs.Prelude.{nat_le, nat_lt}
use Rattle.std.specs.Option.{option_map, option_map_or}
use Rattle.std.specs.Ordering.{is_eq, is_gt, ordering_reverse}
use Rattle.std.specs.declared.cmp.Ordering.TheVariants.{Less, Equal, Greater}
use Rattle.std.specs.List.{AllByRecursion, list_any}
use Rattle.lake_values.specs.declared.names.Name.{Name}
use Rattle.sql_model.specs.Listing.{IsOneOf, placed, weight}
use Rattle.sql_model.specs.declared.changes.Change.{Change}
use Rattle.sql_model.specs.Changes.{added_to, applied, changed_table, marked_cmp, without}
use Rattle.sql_model.specs.Changes.{as_commit, has_mark, same_mark, version_after}
use Rattle.lake_values.specs.Names.{is_among, name_cmp}
use Rattle.lake_model.specs.State.{Check, State, Transaction, last, state, version_at, view}
use Rattle.lake_model.specs.State.{view_of}
use Rattle.sql_model.specs.Versions.{Table, Tables, marked_rows_of, table_of, empty_version}
use Rattle.sql_model.specs.Versions.{Version}
use Rattle.lake_values.specs.Texts.{same_text}
use Rattle.sql_model.proofs.Lists.{all_filter, all_weaker}
use Rattle.lake_values.proofs.SameTexts.{same_text_is, same_text_self}
use Rattle.table_snapshot.specs.declared.files.FileRow.{FileRow}
use Rattle.write_set_catalog.specs.Names.{NamesRow}
use Rattle.file_laws.specs.Catalogues.{gives, has_name, table_has}
use Rattle.write_set_catalog.specs.Names.{drops}
use Rattle.file_laws.specs.Collector.{names_at}
use Rattle.file_laws.specs.Contents.{Contents, mark_of}
use Rattle.manifest_block.specs.declared.items.Item.{Item}
use Rattle.manifest_block.specs.declared.items.Item.TheVariants.{Add, Remove, SetVector}
use Rattle.sql_model.proofs.Sorting.{all_placed}
use Rattle.table_snapshot.specs.Files.{after_item, file_cmp, is_file, items_of, new_file, replay}
use Rattle.table_snapshot.specs.Files.{with_vector, without_file}
use Rattle.file_laws.specs.Kept.{Agrees, AreLater, Ascend, Book, adds, shown, shown_row}
use Rattle.file_laws.specs.KeptLaws.{KeptTells}
use Rattle.file_laws.specs.NameLaws as names
use Rattle.table_snapshot.specs.Files.{names_in}
use Rattle.file_laws.specs.NameLaws.{NamesInTurn}
use Rattle.file_laws.specs.Standing.{FilesStand}
use Rattle.file_laws.specs.Stands.{added_of, files_at, files_from, removed_of, rows_behind, rows_of}
use Rattle.file_laws.specs.Stands.{rows_to, Checkpoint}
use Rattle.file_laws.specs.Touching.{Row, replay_rows, is_marked}
use Rattle.file_laws.proofs.ChangeLemmas.{found_changed, found_name, without_nothing}
use Rattle.file_laws.proofs.ReplayLemmas.{name_total}
use Rattle.file_laws.proofs.StandLemmas.{all_map, all_passed}
use Rattle.file_laws.proofs.NameLaw.{names_are_by_rows}
use Rattle.file_laws.proofs.RowLemmas.{checks_give_files, in_two, order_filter}
use Rattle.file_laws.proofs.Some.{and_both, any_known, any_weaker, or_left, or_right}
use Rattle.std.proofs.lemmas.Bool.{eqb-true}
use Rattle.sql_model.specs.declared.changes.Mark.{Mark}
use Rattle.sql_model.specs.declared.changes.MarkedRow.{MarkedRow}
use Rattle.sql_model.specs.Units.{marks_of}
use Rattle.file_laws.proofs.StandsLaw.{files_have_rows, stand_again, worn_alike}

-- Bools

pub both_ways : (a b : Bool) → (a ≡ true → b ≡ true) → (b ≡ true → a ≡ true) → a ≡ b
both_ways true b f g = sym (f refl)
both_ways false true f g = g refl
both_ways false false f g = refl

pub any_filtered : {X : Type 0} (p q : X → Bool) (xs : List X) → list_any p (filter q xs) ≡ list_any
    (λ x. q x && p x) xs
any_filtered p q [] = refl
any_filtered p q (x ∷ xs) = elim (q x) as (λ b. list_any p (cond b (x ∷ filter q xs) (filter q xs))
    ≡ ((b && p x) || list_any (λ x. q x && p x) xs)) [
      | true ↦ ap (λ (b : Bool). p x || b) (any_filtered p q xs)
      | false ↦ any_filtered p q xs
    ]

pub any_mapped : {X Y : Type 0} (p : Y → Bool) (f : X → Y) (xs : List X) → list_any p (map f xs) ≡
    list_any (λ x. p (f x)) xs
any_mapped p f [] = refl
any_mapped p f (x ∷ xs) = ap (λ (b : Bool). p (f x) || b) (any_mapped p f xs)

any_same : {X : Type 0} (p q : X → Bool) (xs : List X) → ((x : X) → p x ≡ q x) → list_any p xs ≡
    list_any q xs
any_same p q [] same = refl
any_same p q (x ∷ xs) same = λ i. same x i || any_same p q xs same i

any_same_in : {X : Type 0} (p q : X → Bool) (xs : List X) → AllByRecursion (λ x. p x ≡ q x) xs →
    list_any p xs ≡ list_any q xs
any_same_in p q [] same = refl
any_same_in p q (x ∷ xs) same = λ i. same.0 i || any_same_in p q xs same.1 i

pub any_at : {X : Type 0} (xs : List X) → AllByRecursion
    (λ x. (p : X → Bool) → p x ≡ true → list_any p xs ≡ true) xs
any_at [] = tt
any_at (x ∷ xs) = (
  (λ p e. or_left (p x) (list_any p xs) e),
  all_weaker xs
      (λ y h p e. or_right (p x) (list_any p xs) (h p e)) (any_at xs),
)

-- a name that a later row doesn't drop, by numbers of commits in place of places in the list

abbrev drops_later : Name → Row → Row → Bool
drops_later n r s = nat_lt r.seq s.seq && is_among n s.dropped

abbrev gives_in : Name → List Row → Row → Bool
gives_in n rs r = adds n r && not (list_any (drops_later n r) rs)

not_self : (n : ℕ) → nat_lt n n ≡ false
not_self n = grind (arith, nat_tests)

not_back : (m n : ℕ) → m < n → nat_lt n m ≡ false
not_back m n less = grind (arith, nat_tests)

is_less : (m n : ℕ) → m < n → nat_lt m n ≡ true
is_less m n less = grind (arith, nat_tests)

by_numbers : (n : Name) (rs : List Row) → AreLater rs → names.has_name n rs ≡ list_any
    (gives_in n rs) rs
by_numbers n [] later = refl
by_numbers n (r ∷ rs) later =
    (λ i. by_numbers n rs later.1 i || here i) ∙ turn (list_any (gives_in n rs) rs)
    (gives_in n (r ∷ rs) r) ∙ ap (λ (b : Bool). gives_in n (r ∷ rs) r || b) (any_same_in
    (gives_in n rs) (gives_in n (r ∷ rs)) rs
    (all_weaker rs (λ s less. others s less) later.0))
  where
    turn : (a b : Bool) → (a || b) ≡ (b || a)
    turn true true = refl
    turn true false = refl
    turn false true = refl
    turn false false = refl

    later_drops : (ss : List Row) → AllByRecursion (λ s. r.seq < s.seq) ss → names.drops n ss ≡
        list_any (λ s. nat_lt r.seq s.seq && is_among n s.dropped) ss
    later_drops [] all = refl
    later_drops (s ∷ ss) all = λ i.
        (sym (ap (λ (b : Bool). b && is_among n s.dropped) (is_less r.seq s.seq all.0)) i) ||
        later_drops ss all.1 i

    here : (is_among n r.added && not (names.drops n rs)) ≡ gives_in n (r ∷ rs) r
    here = ap (λ (b : Bool). is_among n r.added && not b) (later_drops rs later.0 ∙ ap (λ
        (b : Bool). (b && is_among n r.dropped) || list_any
        (λ s. nat_lt r.seq s.seq && is_among n s.dropped) rs) (sym (not_self r.seq)))

    others : (s : Row) → r.seq < s.seq → gives_in n rs s ≡ gives_in n (r ∷ rs) s
    others s less = ap (λ (b : Bool). is_among n s.added && not ((b && is_among n r.dropped) ||
        list_any (λ u. nat_lt s.seq u.seq && is_among n u.dropped) rs))
        (sym (not_back r.seq s.seq less))

turns_front : (files : List FileRow) (xs ys : List Row) → NamesInTurn files (xs ++ ys) → NamesInTurn
    files xs
turns_front files [] ys turns = tt
turns_front files (x ∷ xs) ys turns =
    (turns.0, turns_front (replay x.seq (items_of x.table x.items) files) xs ys turns.1)

later_filter : (q : Row → Bool) (rs : List Row) → AreLater rs → AreLater (filter q rs)
later_filter q [] later = tt
later_filter q (r ∷ rs) later = elim (q r) as
    (λ b. AreLater (cond b (r ∷ filter q rs) (filter q rs))) [
      | true ↦ (all_filter (λ s. r.seq < s.seq) q rs later.0, later_filter q rs later.1)
      | false ↦ later_filter q rs later.1
    ]

-- the names of a table's files at a version
pub files_have_names : (k : Book) (st : State) (version : ℕ) (table : List ℕ) (n : Name) → Agrees k
    st → is_among n (names_in (files_at k.rows version table)) ≡ table_has (shown k st) version
    table n
files_have_names k st version table n agrees =
    names_are_by_rows xs front n ∙ by_numbers n xs
    (later_filter (λ r. nat_le r.seq version) (rows_of table k.rows) (agrees.names.once table))
    ∙ any_filtered (gives_in n xs) (λ r. nat_le r.seq version) (rows_of table k.rows)
    ∙ any_filtered (λ r. nat_le r.seq version && gives_in n xs r) (λ r. same_text r.table table)
    k.rows
    ∙ any_same (λ r. same_text r.table table && (nat_le r.seq version && gives_in n xs r))
    (λ r. same_text r.table table && gives (shown k st) version n (shown_row r)) k.rows one
    ∙ sym (any_mapped (λ r. same_text r.table table && gives (shown k st) version n r) shown_row
    k.rows)
  where
    xs : List Row
    xs = rows_to version (rows_of table k.rows)

    front : NamesInTurn [] (rows_to version (rows_of table k.rows))
    front = turns_front [] (rows_to version (rows_of table k.rows))
        (rows_behind version (rows_of table k.rows)) (subst (λ (rs : List Row). NamesInTurn [] rs)
        (sym (in_two version (rows_of table k.rows)
        (order_filter (λ r. same_text r.table table) k.rows agrees.stands.order)))
        (agrees.names.turns table))

    orders : (a b c d : Bool) → (a && (b && (c && d))) ≡ (((a && c) && b) && d)
    orders true true true d = refl
    orders true true false d = refl
    orders true false true d = refl
    orders true false false d = refl
    orders false b c d = refl

    grouped : (a b c : Bool) → (a && (b && c)) ≡ ((a && b) && c)
    grouped true b c = refl
    grouped false b c = refl

    dropped : (r : Row) → r.table ≡ table → list_any (drops_later n r)
        (rows_to version (rows_of table k.rows)) ≡ list_any (drops version (shown_row r) n)
        (map shown_row k.rows)
    dropped r is =
        any_filtered (drops_later n r) (λ s. nat_le s.seq version) (rows_of table k.rows)
        ∙ any_filtered (λ s. nat_le s.seq version && drops_later n r s)
        (λ s. same_text s.table table) k.rows
        ∙ any_same (λ s. same_text s.table table &&
        (nat_le s.seq version && (nat_lt r.seq s.seq && is_among n s.dropped)))
        (λ s. drops version (shown_row r) n (shown_row s)) k.rows
        (λ s. orders (same_text s.table table) (nat_le s.seq version) (nat_lt r.seq s.seq)
        (is_among n s.dropped) ∙ ap (λ (t : List ℕ).
        ((same_text s.table t && nat_lt r.seq s.seq) && nat_le s.seq version) && is_among n
        s.dropped) (sym is))
        ∙ sym (any_mapped (drops version (shown_row r) n) shown_row k.rows)

    one : (r : Row) → (same_text r.table table &&
        (nat_le r.seq version && gives_in n (rows_to version (rows_of table k.rows)) r)) ≡
        (same_text r.table table && gives (shown k st) version n (shown_row r))
    one r = elim (same_text r.table table) as (λ b. same_text r.table table ≡ b →
        (b && (nat_le r.seq version && gives_in n (rows_to version (rows_of table k.rows)) r)) ≡
        (b && gives (shown k st) version n (shown_row r))) [
          | true ↦ λ e. ap (λ (b : Bool). nat_le r.seq version && (is_among n r.added && not b))
              (dropped r (same_text_is r.table table e)) ∙ grouped (nat_le r.seq version)
              (is_among n r.added)
              (not (list_any (drops version (shown_row r) n) (map shown_row k.rows)))
          | false ↦ λ e. refl
        ] refl

-- over all tables
pub together : (k : Book) (st : State) (version : ℕ) (n : Name) → Agrees k st → st.floor ≤ version →
    version ≤ last st → list_any (λ r. is_among n (names_in (files_at k.rows version r.table)))
    k.rows ≡ is_among n (names_at st version)
together k st version n agrees low high =
    any_same (λ r. is_among n (names_in (files_at k.rows version r.table)))
    (λ r. table_has (shown k st) version r.table n) k.rows
    (λ r. files_have_names k st version r.table n agrees)
    ∙ both_ways (list_any (λ r. table_has (shown k st) version r.table n) k.rows)
    (has_name (shown k st) version n) given giving
    ∙ agrees.names.versions version n low high
  where
    here : (r : NamesRow) (table : List ℕ) →
        (same_text r.table table && gives (shown k st) version n r) ≡ true → gives (shown k st)
        version n r ≡ true
    here r table e = (and_both (same_text r.table table) (gives (shown k st) version n r) e).1

    given : list_any (λ r. table_has (shown k st) version r.table n) k.rows ≡ true → has_name
        (shown k st) version n ≡ true
    given is = any_known (λ r. Unit {0}) (λ r. table_has (shown k st) version r.table n)
        (has_name (shown k st) version n ≡ true) k.rows (all_units k.rows)
        (λ r _ e. any_weaker (λ s. same_text s.table r.table && gives (shown k st) version n s)
        (gives (shown k st) version n) (map shown_row k.rows) (λ s. here s r.table) e) is
      where
        all_units : (rs : List Row) → AllByRecursion (λ r. Unit {0}) rs
        all_units [] = tt
        all_units (r ∷ rs) = (tt, all_units rs)

    giving : has_name (shown k st) version n ≡ true → list_any
        (λ r. table_has (shown k st) version r.table n) k.rows ≡ true
    giving is = any_known (λ r. (p : Row → Bool) → p r ≡ true → list_any p k.rows ≡ true)
        (λ r. gives (shown k st) version n (shown_row r))
        (list_any (λ r. table_has (shown k st) version r.table n) k.rows ≡ true) k.rows
        (any_at k.rows)
        (λ r at e. at (λ s. table_has (shown k st) version s.table n)
        (any_mapped (λ s. same_text s.table r.table && gives (shown k st) version n s) shown_row
        k.rows ∙ at
        (λ s. same_text s.table r.table && gives (shown k st) version n (shown_row s)) (ap
        (λ (b : Bool). b && gives (shown k st) version n (shown_row r))
        (same_text_self r.table) ∙ e)))
        (sym (any_mapped (gives (shown k st) version n) shown_row k.rows) ∙ is)

each_is_one : {X : Type 0} (xs : List X) → AllByRecursion (IsOneOf xs) xs
each_is_one [] = tt
each_is_one (x ∷ xs) = (inl refl, all_weaker xs (λ y one. inr one) (each_is_one xs))

-- the rows of a table behind a change
rows_pended : (change : Change) (table : List ℕ) (tables : Tables) → without marked_cmp
    (marked_rows_of table tables) (removed_of table change.removed) ++ added_of table tables 0
    change.added ≡ marked_rows_of table (applied 0 change tables)
rows_pended change table tables =
    elim (table_of table tables) as (λ o. table_of table tables ≡ o → without marked_cmp
    (option_map_or (λ t. t.rows) o []) (removed_of table change.removed) ++ option_map_or
    (λ t. flat_map (added_to t 0) change.added) o [] ≡ option_map_or (λ t. t.rows)
    (option_map (changed_table 0 change) o) []) [
      | None ↦ λ e. append-nil (without marked_cmp [] (removed_of table change.removed)) ∙
          without_nothing (removed_of table change.removed)
      | Some s ↦ λ e. ap (λ (n : List ℕ). without marked_cmp s.rows (removed_of n change.removed)
          ++ flat_map (added_to s 0) change.added) (sym (found_name table tables s e))
    ] refl
    ∙ sym (ap (λ (o : Option Table). option_map_or (λ t. t.rows) o [])
    (found_changed 0 change table tables))

own_seqs : (ms : List Mark) → AllByRecursion (λ m. nat_eq m.seq 0 ≡ true) ms → map (as_commit 0) ms
    ≡ ms
own_seqs [] all = refl
own_seqs (m ∷ ms) all =
    let zero : m.seq ≡ 0 = eqb-true m.seq 0 all.0 in
    let same : as_commit 0 m ≡ m = ap (λ (n : ℕ). record m { seq = n }) (sym zero) in
    (λ i. same i ∷ own_seqs ms all.1 i)

-- files that stand for what a transaction changed of its snapshot stand for the version that it
-- sees
view_stands : (c : Contents) (table : List ℕ) (files : List FileRow) (snap : Version)
    (t : Transaction) → AllByRecursion (λ m. nat_eq m.seq 0 ≡ true) t.worn
    → FilesStand c table files (without marked_cmp (marked_rows_of table snap.tables)
    (removed_of table t.pending.removed) ++ added_of table snap.tables 0 t.pending.added)
    (snap.worn ++ marks_of (removed_of table t.pending.removed) ++ t.worn)
    → FilesStand c table files (marked_rows_of table (version_after 0 t.pending t.worn snap).tables)
    (version_after 0 t.pending t.worn snap).worn
view_stands c table files snap t own stands =
    let v = version_after 0 t.pending t.worn snap in
    let old_rows = without marked_cmp (marked_rows_of table snap.tables)
    (removed_of table t.pending.removed) ++ added_of table snap.tables 0 t.pending.added in
    let old_worn = snap.worn ++ marks_of (removed_of table t.pending.removed) ++ t.worn in
    let same = rows_pended t.pending table snap.tables in
    stand_again c table files old_rows (marked_rows_of table v.tables) old_worn v.worn stands same
    (all_weaker files
    (λ f some.
    worn_alike table v.tables t.pending.removed snap.worn t.worn (mark_of table f) refl (subst (λ
    (rs : List MarkedRow). 1 ≤ weight
    (λ r. if same_mark (mark_of table f) r.mark then 1 else 0) rs) same some)
    ∙ ap (λ (ms : List Mark). is_marked
    (filter (has_mark v.tables) (snap.worn ++ marks_of t.pending.removed ++ ms))
    (mark_of table f)) (sym (own_seqs t.worn own)))
    (files_have_rows c table files old_rows old_worn stands))

-- files stay in order

ascend_filter : (q : FileRow → Bool) (fs : List FileRow) → Ascend fs → Ascend (filter q fs)
ascend_filter q [] asc = tt
ascend_filter q (f ∷ fs) asc = elim (q f) as
    (λ b. Ascend (cond b (f ∷ filter q fs) (filter q fs))) [
      | true ↦ (all_filter (λ g. file_cmp f g ≡ Less) q fs asc.0, ascend_filter q fs asc.1)
      | false ↦ ascend_filter q fs asc.1
    ]

ascend_placed : (f : FileRow) (fs : List FileRow) → AllByRecursion (λ g. is_file f.file g ≡ false)
    fs → Ascend fs → Ascend (placed file_cmp f fs)
ascend_placed f [] other asc = (tt, tt)
ascend_placed f (x ∷ xs) other asc =
    elim (file_cmp f x) as
    (λ o. file_cmp f x ≡ o → Ascend (if is_gt o then x ∷ placed file_cmp f xs else f ∷ x ∷ xs)) [
      | Less ↦ λ e.
          ((e, all_weaker xs (λ g less. name_total.trans f.file x.file g.file e less) asc.0), asc)
      | Equal ↦ λ e. let no : true ≡ false = ap is_eq (sym e) ∙ other.0 in absurd cc
      | Greater ↦ λ e. (
        all_placed file_cmp (λ g. file_cmp x g ≡ Less) f xs
            (name_total.antisymm x.file f.file ∙ ap ordering_reverse e) asc.0,
        ascend_placed f xs
            other.1 asc.1,
      )
    ] refl

ascend_vector : (name vector : Name) (removed : ℕ) (fs : List FileRow) → Ascend fs → Ascend
    (map (with_vector name vector removed) fs)
ascend_vector name vector removed [] asc = tt
ascend_vector name vector removed (f ∷ fs) asc = (
  all_map (λ g. file_cmp (with_vector name vector removed f) g ≡ Less)
      (with_vector name vector removed) fs
      (all_weaker fs (λ g less. (λ i. name_cmp (file_same f i) (file_same g i)) ∙ less) asc.0),
  ascend_vector name vector removed fs asc.1,
)
  where
    file_same : (f : FileRow) → (with_vector name vector removed f).file ≡ f.file
    file_same f = elim (is_file name f) as
        (λ b. (if b then record f { vector = Some (vector, removed) } else f).file ≡ f.file)
        [ true ↦ refl | false ↦ refl ]

items_ascend : (seq : ℕ) (items : List Item) (fs : List FileRow) → Ascend fs → Ascend
    (replay seq items fs)
items_ascend seq [] fs asc = asc
items_ascend seq (i ∷ is) fs asc = items_ascend seq is (after_item seq fs i) (one i)
  where
    none_named : (name : Name) (fs : List FileRow) → AllByRecursion (λ g. is_file name g ≡ false)
        (without_file name fs)
    none_named name fs = all_weaker (without_file name fs) (λ g e. back (is_file name g) e)
        (all_passed (λ g. not (is_file name g)) fs)
      where
        back : (b : Bool) → not b ≡ true → b ≡ false
        back true e = absurd cc
        back false e = refl

    one : (i : Item) → Ascend (after_item seq fs i)
    one (Add table cell part file rows) = ascend_placed (new_file seq cell part file rows)
        (without_file file fs) (none_named file fs)
        (ascend_filter (λ f. not (is_file file f)) fs asc)
    one (Remove table file) = ascend_filter (λ f. not (is_file file f)) fs asc
    one (SetVector table file vector removed) = ascend_vector file vector removed fs asc

rows_ascend : (rows : List Row) (fs : List FileRow) → Ascend fs → Ascend (replay_rows rows fs)
rows_ascend [] fs asc = asc
rows_ascend (r ∷ rs) fs asc =
    rows_ascend rs (replay r.seq (items_of r.table r.items) fs)
    (items_ascend r.seq (items_of r.table r.items) fs asc)

pub kept_tells : KeptTells
kept_tells k entries kept =
    let st = state entries in
    let agrees = kept.agrees in
    let same : (version : ℕ) (table : List ℕ) → files_from k.checks k.rows version table ≡ files_at
    k.rows version table = λ version table. checks_give_files k.rows k.checks
    agrees.stands.order agrees.checks version table in
    record {
      files = same;
      versions = λ version low high.
          record {
            rows = λ table. subst (λ (fs : List FileRow). FilesStand k.contents table fs
                (marked_rows_of table (version_at st version).tables)
                (version_at st version).worn) (sym (same version table))
                ((agrees.stands.versions version low high).each table);
            ascend = λ table. subst Ascend (sym (same version table))
                (rows_ascend (rows_to version (rows_of table k.rows)) [] tt);
            by_table = λ table name. ap (λ (fs : List FileRow). is_among name (names_in fs))
                (same version table) ∙ files_have_names k st version table name agrees;
            together = λ name. any_same
                (λ r. is_among name (names_in (files_from k.checks k.rows version r.table)))
                (λ r. is_among name (names_in (files_at k.rows version r.table))) k.rows (λ r. ap
                (λ (fs : List FileRow). is_among name (names_in fs)) (same version r.table)) ∙
                together k st version name agrees low high;
          };
      views = λ session t is table.
          let seen = (agrees.stands.open_ones session t is).each table in
          let shows : view st session ≡ view_of st t = ap
          (λ (o : Option Transaction). option_map_or (view_of st) o empty_version) is in
          let items = items_of table (k.items session) in
          subst (λ (v : Version). FilesStand k.contents table
          (replay 0 items (files_from k.checks k.rows t.snapshot table))
          (marked_rows_of table v.tables) v.worn) (sym shows)
          (subst (λ (fs : List FileRow). FilesStand k.contents table (replay 0 items fs)
          (marked_rows_of table (view_of st t).tables) (view_of st t).worn)
          (sym (same t.snapshot table))
          (view_stands k.contents table (replay 0 items (files_at k.rows t.snapshot table))
          (version_at st t.snapshot) t seen.own_marks seen.stands));
      collector = record {
        names = agrees.names.versions;
        running = refl;
        last_number = refl;
        last = refl;
        floor = refl;
        checks = subst (λ (cs : List Check). AllByRecursion (IsOneOf cs)
            (map (λ (c : Checkpoint). c.check) k.checks)) kept.noted
            (each_is_one (map (λ (c : Checkpoint). c.check) k.checks));
      };
      marks = agrees.marks;
      struck = agrees.struck;
    }
