-- A statement that ran, over all tables.
use Rattle.std.proofs.Common.{◌≡◌, ℕ, ◌+◌, Bool, true, false, not, ◌||◌, cond, nat_eq, List, []}
use Rattle.std.proofs.Common.{◌∷◌, ◌++◌, Option, None, Some, map, filter, flat_map, refl, sym, ap}
use Rattle.std.proofs.Common.{◌∙◌, arith, subst, append_assoc, if◌then◌else◌}
use Rattle.std.proofs.lemmas.List.{append-nil}
use Rattle.std.proofs.lemmas.List.Elements.{filter-append}
use Rattle.std.specs.Prelude.{is_some}
use Rattle.std.specs.Ordering.{is_gt}
use Rattle.std.specs.List.{AllByRecursion}
use Rattle.std.specs.Option.{option_map_or}
use Rattle.lake_values.specs.declared.names.Name.{Name}
use Rattle.sql_model.specs.declared.changes.Added.{Added}
use Rattle.sql_model.specs.declared.changes.Change.{Change}
use Rattle.sql_model.specs.declared.changes.Mark.{Mark}
use Rattle.sql_model.specs.declared.changes.MarkedRow.{MarkedRow}
use Rattle.sql_model.specs.declared.replies.Reply.{Reply}
use Rattle.sql_model.specs.Listing.{IsPartOf, placed, weight, SameBag}
use Rattle.sql_model.specs.Changes.{added_to, additions_left, changed_table, committed, is_nil}
use Rattle.sql_model.specs.Changes.{is_own, left_of, marked_cmp, own, pend, removed_from, without}
use Rattle.sql_model.specs.Units.{marks_of}
use Rattle.lake_values.specs.Names.{same_name}
use Rattle.lake_model.specs.State.{State, Transaction, transaction, turned, version_at, with_part}
use Rattle.sql_model.specs.Versions.{Table, Tables, has_table, marked_rows_of, table_of}
use Rattle.lake_values.specs.Texts.{same_text}
use Rattle.sql_model.proofs.Bags.{weight_append}
use Rattle.sql_model.proofs.Lists.{all_append, all_weaker, all_filter}
use Rattle.sql_model.proofs.Sorting.{all_placed}
use Rattle.sql_model.proofs.Removal.{filter_all, filter_none}
use Rattle.lake_values.proofs.SameTexts.{same_text_is, same_text_self}
use Rattle.manifest_block.specs.declared.items.Item.{Item}
use Rattle.manifest_block.specs.declared.items.Item.TheVariants.{Add, Remove, SetVector}
use Rattle.table_snapshot.specs.declared.files.FileRow.{FileRow}
use Rattle.file_laws.specs.Contents.{Contents, mark_of}
use Rattle.table_snapshot.specs.Files.{after_item, file_cmp, is_file, item_table, items_of}
use Rattle.table_snapshot.specs.Files.{new_file, replay, with_vector, without_file}
use Rattle.file_laws.specs.Marking.{HaveOwnNames, Removal, mark_items}
use Rattle.file_laws.specs.Pends.{HaveOwnParts}
use Rattle.file_laws.specs.RanLaw.{IsWrite, StandsRan, files_seen}
use Rattle.file_laws.specs.Standing.{FilesStand, IsSeenBy, agrees}
use Rattle.file_laws.specs.Stands.{OpenStands, Stands, VersionStands, added_of, files_at}
use Rattle.file_laws.specs.Stands.{removed_of, rows_of, rows_to}
use Rattle.file_laws.specs.StandsLaws.{with_items}
use Rattle.file_laws.specs.StatementLaws.{Written, add_item}
use Rattle.file_laws.specs.Touching.{AddsOwn, Row, adds_own, is_marked, replay_rows}
use Rattle.file_laws.proofs.ChangeLemmas.{found_name}
use Rattle.file_laws.proofs.CommitLaw.{committed_rows, not_zero}
use Rattle.file_laws.proofs.EntryLaws.{turned_stands}
use Rattle.file_laws.proofs.PendLaw.{added_own, pends_as_seen}
use Rattle.file_laws.proofs.ReplayLemmas.{name_self, name_tells}
use Rattle.file_laws.proofs.SeenLaw.{seen_after_statement}
use Rattle.file_laws.proofs.StandLemmas.{all_map, all_passed, marked_append, not_marked}

-- replay keeps names apart

other_file : (f g : FileRow) → is_file f.file g ≡ false → is_file g.file f ≡ false
other_file f g differ = elim (is_file g.file f) as (λ b. is_file g.file f ≡ b → b ≡ false) [
  | true ↦ λ e. let back : is_file f.file g ≡ true = ap (λ (n : Name). same_name n g.file)
      (sym (name_tells g.file f.file e)) ∙ name_self g.file in sym back ∙ differ
  | false ↦ λ e. refl
] refl

names_filter : (q : FileRow → Bool) (fs : List FileRow) → HaveOwnNames fs → HaveOwnNames
    (filter q fs)
names_filter q [] own = tt
names_filter q (f ∷ fs) own = elim (q f) as
    (λ b. HaveOwnNames (cond b (f ∷ filter q fs) (filter q fs))) [
      | true ↦ (all_filter (λ g. is_file f.file g ≡ false) q fs own.0, names_filter q fs own.1)
      | false ↦ names_filter q fs own.1
    ]

names_placed : (f : FileRow) (fs : List FileRow) → HaveOwnNames fs → AllByRecursion
    (λ g. is_file f.file g ≡ false) fs → HaveOwnNames (placed file_cmp f fs)
names_placed f [] own none = (tt, tt)
names_placed f (x ∷ xs) own none = elim (is_gt (file_cmp f x)) as
    (λ b. HaveOwnNames (if b then x ∷ placed file_cmp f xs else f ∷ x ∷ xs)) [
      | true ↦ (
        all_placed file_cmp (λ g. is_file x.file g ≡ false) f xs (other_file f x none.0) own.0,
        names_placed f xs own.1 none.1,
      )
      | false ↦ (none, own)
    ]

names_vector : (name vector : Name) (removed : ℕ) (fs : List FileRow) → HaveOwnNames fs →
    HaveOwnNames (map (with_vector name vector removed) fs)
names_vector name vector removed [] own = tt
names_vector name vector removed (f ∷ fs) own = (
  all_map (λ g. is_file (with_vector name vector removed f).file g ≡ false)
      (with_vector name vector removed) fs
      (all_weaker fs (λ g e. (λ i. same_name (file_same f i) (file_same g i)) ∙ e) own.0),
  names_vector name vector removed fs own.1,
)
  where
    file_same : (f : FileRow) → (with_vector name vector removed f).file ≡ f.file
    file_same f = elim (is_file name f) as
        (λ b. (if b then record f { vector = Some (vector, removed) } else f).file ≡ f.file)
        [ true ↦ refl | false ↦ refl ]

none_named : (name : Name) (fs : List FileRow) → AllByRecursion (λ g. is_file name g ≡ false)
    (without_file name fs)
none_named name [] = tt
none_named name (f ∷ fs) = elim (is_file name f) as (λ b. is_file name f ≡ b → AllByRecursion
    (λ g. is_file name g ≡ false)
    (cond (not b) (f ∷ without_file name fs) (without_file name fs))) [
      | true ↦ λ e. none_named name fs
      | false ↦ λ e. (e, none_named name fs)
    ] refl

pub replay_names : (seq : ℕ) (items : List Item) (fs : List FileRow) → HaveOwnNames fs →
    HaveOwnNames (replay seq items fs)
replay_names seq [] fs own = own
replay_names seq (i ∷ is) fs own = replay_names seq is (after_item seq fs i) (one i)
  where
    one : (i : Item) → HaveOwnNames (after_item seq fs i)
    one (Add table cell part file rows) = names_placed (new_file seq cell part file rows)
        (without_file file fs) (names_filter (λ f. not (is_file file f)) fs own)
        (none_named file fs)
    one (Remove table file) = names_filter (λ f. not (is_file file f)) fs own
    one (SetVector table file vector removed) = names_vector file vector removed fs own

pub rows_own_names : (rows : List Row) (fs : List FileRow) → HaveOwnNames fs → HaveOwnNames
    (replay_rows rows fs)
rows_own_names [] fs own = own
rows_own_names (r ∷ rs) fs own =
    rows_own_names rs (replay r.seq (items_of r.table r.items) fs)
    (replay_names r.seq (items_of r.table r.items) fs own)

-- over the same bag of rows, and worn marks that are alike for the table
stand_in_table : (c : Contents) (table : List ℕ) (files : List FileRow)
    (rows rows' : List MarkedRow) (worn worn' : List Mark) → FilesStand c table files rows worn →
    SameBag rows rows'
    → ((m : Mark) → m.table ≡ table → is_marked worn m ≡ is_marked worn' m) → FilesStand c table
    files rows' worn'
stand_in_table c table files rows rows' worn worn' stands same alike = record {
  same = λ g. stands.same g ∙ same g;
  vectors = all_weaker files
      (λ f was. ap (agrees (is_some f.vector)) (sym (alike (mark_of table f) refl)) ∙ was)
      stands.vectors;
  filled = stands.filled;
  one_each = stands.one_each;
}

other_text : (a b : List ℕ) → same_text a b ≡ false → same_text b a ≡ false
other_text a b e = elim (same_text b a) as (λ x. same_text b a ≡ x → x ≡ false) [
  | true ↦ λ h. let same : a ≡ b = sym (same_text_is b a h) in sym (same_text_self b) ∙ ap
      (λ (n : List ℕ). same_text n b) (sym same) ∙ e
  | false ↦ λ h. refl
] refl

known_left : (removed : List MarkedRow) (P : List ℕ → Type 0) (as' : List Added) → AllByRecursion
    (λ a. P a.table) as' → AllByRecursion (λ a. P a.table) (additions_left removed as')
known_left removed P as' all =
    all_filter (λ a. P a.table) (λ a. not (is_nil a.rows)) (map (left_of removed) as')
    (all_map (λ a. P a.table) (left_of removed) as' all)

none_to : (u : Table) (as' : List Added) (name : List ℕ) → same_text name u.name ≡ false →
    AllByRecursion (λ a. a.table ≡ name) as' → flat_map (added_to u 0) as' ≡ []
none_to u [] name differ all = refl
none_to u (a ∷ as') name differ all =
    let off : same_text a.table u.name ≡ false = ap (λ (n : List ℕ). same_text n u.name) all.0 ∙
    differ in rw off (none_to u as' name differ all.1)

module _ (c : Contents) (rows : List Row) (items : ℕ → List Item) (more : List Item) (st : State)
    (session : ℕ) (t : Transaction) (s : Table) (reply : Reply) (change : Change) (r : Removal)
    (ws : List Written)
    (stands : Stands c rows items st) (opened : transaction st session ≡ Some t)
    (parts : HaveOwnParts t.pending.added) (adds : AddsOwn t.number (items session))
    (is : IsWrite c rows (items session) more st t s change r ws) where
  abbrev tabs : Tables
  tabs = (version_at st t.snapshot).tables

  abbrev worn : List Mark
  worn = (version_at st t.snapshot).worn

  abbrev base : List ℕ → List FileRow
  base table = files_at rows t.snapshot table

  open_one : OpenStands c rows st (items session) t
  open_one = stands.open_ones session t opened

  snapshot_stands : VersionStands c rows t.snapshot (version_at st t.snapshot)
  snapshot_stands = stands.versions t.snapshot open_one.snapshot.0 open_one.snapshot.1

  base_kept : (table : List ℕ) → AllByRecursion (λ f. nat_eq f.seq 0 ≡ false) (base table)
  base_kept table = all_weaker (base table) (λ f both. not_zero f.seq both.0)
      (snapshot_stands.up_to table).of_files

  base_names : (table : List ℕ) → HaveOwnNames (base table)
  base_names table = rows_own_names (rows_to t.snapshot (rows_of table rows)) [] tt

  rows_kept : (table : List ℕ) → AllByRecursion (λ m. is_own m ≡ false) (marked_rows_of table tabs)
  rows_kept table = committed_rows c table (base table) (marked_rows_of table tabs)
      (base_kept table) (snapshot_stands.each table).same

  abbrev t' : Transaction
  t' = with_part reply change t

  abbrev Seen : List ℕ → Type 0
  Seen table = IsSeenBy c table t.number (base table) (marked_rows_of table tabs) worn
      (items_of table (items session ++ more)) (removed_of table (pend t.pending change).removed)
      (added_of table tabs 0 (pend t.pending change).added)
      (t.worn ++ marks_of (own change.removed))

  items_are : (table : List ℕ) → items_of table (items session ++ more) ≡ items_of table
      (items session) ++ items_of table more
  items_are table = filter-append (λ i. same_text (item_table i) table) (items session) more

  -- the table that is written
  here : Seen s.name
  here =
      let was : IsSeenBy c s.name t.number (base s.name) s.rows worn
      (items_of s.name (items session)) (removed_from s t.pending.removed)
      (flat_map (added_to s 0) t.pending.added) t.worn =
      subst (λ (o : Option Table). IsSeenBy c s.name t.number (base s.name)
      (option_map_or (λ t. t.rows) o []) worn (items_of s.name (items session))
      (removed_from s t.pending.removed)
      (option_map_or (λ u. flat_map (added_to u 0) t.pending.added) o []) t.worn) is.table
      (open_one.each s.name) in
      let kept : AllByRecursion (λ m. is_own m ≡ false) s.rows = subst (λ (o : Option Table).
      AllByRecursion (λ m. is_own m ≡ false) (option_map_or (λ t. t.rows) o [])) is.table
      (rows_kept s.name) in
      let own_adds : AddsOwn t.number (items_of s.name (items session)) = all_filter
      (λ i. adds_own t.number i ≡ true) (λ i. same_text (item_table i) s.name) (items session)
      adds in
      let grown = seen_after_statement c s t.number (base s.name) worn
      (items_of s.name (items session)) t.pending change t.worn r (t.parts + 1) ws was kept
      (base_kept s.name) parts (base_names s.name)
      (replay_names 0 (items_of s.name (items session)) (base s.name) (base_names s.name)) own_adds
      is.statement in
      let all_here : removed_from s change.removed ≡ change.removed = filter_all
      (λ m. same_text m.mark.table s.name) change.removed is.removed in
      let list : items_of s.name (items session) ++ flat_map (mark_items c s.name r)
      (files_seen rows (items session) t s.name) ++ map (add_item s.name (t.parts + 1)) ws ≡
      items_of s.name (items session ++ more) =
      append_assoc (items_of s.name (items session))
      (flat_map (mark_items c s.name r) (files_seen rows (items session) t s.name))
      (map (add_item s.name (t.parts + 1)) ws) ∙ ap
      (λ (xs : List Item). items_of s.name (items session) ++ xs) (sym is.own_items) ∙ sym
      (items_are s.name) in
      let now : IsSeenBy c s.name t.number (base s.name) s.rows worn
      (items_of s.name (items session ++ more)) (removed_from s (pend t.pending change).removed)
      (flat_map (added_to s 0) (pend t.pending change).added)
      (t.worn ++ marks_of (own change.removed)) =
      subst (λ (xs : List Item). IsSeenBy c s.name t.number (base s.name) s.rows worn xs
      (removed_from s (pend t.pending change).removed)
      (flat_map (added_to s 0) (pend t.pending change).added)
      (t.worn ++ marks_of (own change.removed))) list
      (subst (λ (ms : List MarkedRow). IsSeenBy c s.name t.number (base s.name) s.rows worn
      (items_of s.name (items session) ++ flat_map (mark_items c s.name r)
      (files_seen rows (items session) t s.name) ++ map (add_item s.name (t.parts + 1))
      ws) (removed_from s (pend t.pending change).removed)
      (flat_map (added_to s 0) (pend t.pending change).added) (t.worn ++ marks_of (own ms)))
      all_here grown) in
      subst (λ (o : Option Table). IsSeenBy c s.name t.number (base s.name)
      (option_map_or (λ t. t.rows) o []) worn (items_of s.name (items session ++ more))
      (removed_from s (pend t.pending change).removed)
      (option_map_or (λ u. flat_map (added_to u 0) (pend t.pending change).added) o [])
      (t.worn ++ marks_of (own change.removed))) (sym is.table) now

  -- another table
  module _ (table : List ℕ) (differ : same_text table s.name ≡ false) where
    apart : AllByRecursion (λ m. same_text m.mark.table table ≡ false) change.removed
    apart = all_weaker change.removed (λ m e. ap (λ (n : List ℕ). same_text n table)
        (same_text_is m.mark.table s.name e) ∙ other_text table s.name differ) is.removed

    none_removed : (q : MarkedRow → Bool) → removed_of table (filter q change.removed) ≡ []
    none_removed q = filter_none (λ m. same_text m.mark.table table) (filter q change.removed)
        (all_filter (λ m. same_text m.mark.table table ≡ false) q change.removed apart)

    none_changed : removed_of table change.removed ≡ []
    none_changed = filter_none (λ m. same_text m.mark.table table) change.removed apart

    same_removed : removed_of table (pend t.pending change).removed ≡ removed_of table
        t.pending.removed
    same_removed = filter-append (λ m. same_text m.mark.table table) t.pending.removed
        (committed change.removed) ∙ ap
        (λ (ms : List MarkedRow). removed_of table t.pending.removed ++ ms)
        (none_removed (λ m. not (is_own m))) ∙ append-nil (removed_of table t.pending.removed)

    same_items : items_of table (items session ++ more) ≡ items_of table (items session)
    same_items = items_are table ∙ ap (λ (xs : List Item). items_of table (items session) ++ xs)
        (is.other_items table differ) ∙ append-nil (items_of table (items session))

    same_added : SameBag (added_of table tabs 0 t.pending.added)
        (added_of table tabs 0 (pend t.pending change).added)
    same_added =
        elim (table_of table tabs) as (λ o. table_of table tabs ≡ o → SameBag
        (option_map_or (λ u. flat_map (added_to u 0) t.pending.added) o [])
        (option_map_or (λ u. flat_map (added_to u 0) (pend t.pending change).added) o [])) [
          | None ↦ λ e g. refl
          | Some u ↦ λ e.
              let name : u.name ≡ table = found_name table tabs u e in
              let kept : AllByRecursion (λ m. is_own m ≡ false) u.rows = subst (λ
              (o : Option Table). AllByRecursion (λ m. is_own m ≡ false)
              (option_map_or (λ t. t.rows) o [])) e (rows_kept table) in
              let part : IsPartOf (removed_from u t.pending.removed) u.rows = subst
              (λ (n : List ℕ). IsPartOf (removed_of n t.pending.removed) u.rows) (sym name)
              (subst (λ (o : Option Table). IsPartOf (removed_of table t.pending.removed)
              (option_map_or (λ t. t.rows) o [])) e (open_one.each table).part) in
              let none : removed_from u change.removed ≡ [] = ap
              (λ (n : List ℕ). removed_of n change.removed) name ∙ none_changed in
              let nothing_of : IsPartOf [] (changed_table 0 t.pending u).rows =
              ((changed_table 0 t.pending u).rows, λ g. refl) in
              let sees = pends_as_seen u t.pending change kept part parts (subst
              (λ (ms : List MarkedRow). IsPartOf ms (changed_table 0 t.pending u).rows)
              (sym none) nothing_of) in
              let off : same_text s.name u.name ≡ false = ap (same_text s.name) name ∙ other_text
              table s.name differ in
              let nothing : flat_map (added_to u 0) change.added ≡ [] = none_to u change.added
              s.name off is.added in
              let removed_same : removed_from u (pend t.pending change).removed ≡ removed_from u
              t.pending.removed = ap
              (λ (n : List ℕ). removed_of n (pend t.pending change).removed) name ∙ same_removed
              ∙ ap (λ (n : List ℕ). removed_of n t.pending.removed) (sym name) in
              weights u removed_same none nothing sees.weighs
        ] refl
      where
        weights : (u : Table) → removed_from u (pend t.pending change).removed ≡ removed_from u
            t.pending.removed → removed_from u change.removed ≡ [] → flat_map (added_to u 0)
            change.added ≡ []
            → ((g : MarkedRow → ℕ) → weight g (changed_table 0 (pend t.pending change) u).rows +
            weight g (removed_from u change.removed) ≡ weight g
            (changed_table 0 t.pending u).rows + weight g
            (flat_map (added_to u 0) change.added))
            → SameBag (flat_map (added_to u 0) t.pending.added)
            (flat_map (added_to u 0) (pend t.pending change).added)
        weights u same none nothing weighs g =
            omega (
              arith,
              weighs g,
              ap (weight g) none,
              ap (weight g) nothing,
              ap (λ (ms : List MarkedRow). weight g (without marked_cmp u.rows ms)) same,
              weight_append g
                  (without marked_cmp u.rows (removed_from u (pend t.pending change).removed))
                  (flat_map (added_to u 0) (pend t.pending change).added),
              weight_append g (without marked_cmp u.rows (removed_from u t.pending.removed))
                  (flat_map (added_to u 0) t.pending.added),
            )

    own_added : AllByRecursion (λ m. is_own m ≡ true)
        (added_of table tabs 0 (pend t.pending change).added)
    own_added = elim (table_of table tabs) as (λ o. AllByRecursion (λ m. is_own m ≡ true)
        (option_map_or (λ u. flat_map (added_to u 0) (pend t.pending change).added) o []))
        [ None ↦ tt | Some u ↦ added_own u (pend t.pending change).added ]

    elsewhere : Seen table
    elsewhere =
        let was = open_one.each table in
        let files = replay 0 (items_of table (items session)) (base table) in
        let old_worn = worn ++ marks_of (removed_of table t.pending.removed) ++ t.worn in
        let alike : (m : Mark) → m.table ≡ table → is_marked old_worn m ≡ is_marked (worn ++
        marks_of (removed_of table t.pending.removed) ++
        (t.worn ++ marks_of (own change.removed))) m = λ m here.
        let none : is_marked (marks_of (own change.removed)) m ≡ false = not_marked
        (λ x. same_text x.table s.name ≡ true) (marks_of (own change.removed)) m (all_map
        (λ x. same_text x.table s.name ≡ true) (λ (x : MarkedRow). x.mark)
        (own change.removed) (all_filter (λ x. same_text x.mark.table s.name ≡ true) is_own
        change.removed is.removed))
        (λ h. let off : true ≡ false = sym h ∙ ap (λ (n : List ℕ). same_text n s.name) here ∙
        differ in absurd cc) in
        marked_append (worn ++ marks_of (removed_of table t.pending.removed)) t.worn m
        ∙ ap
        (λ (b : Bool). is_marked (worn ++ marks_of (removed_of table t.pending.removed)) m || b)
        (sym (marked_append t.worn (marks_of (own change.removed)) m ∙ ap
        (λ (b : Bool). is_marked t.worn m || b) none ∙ or_false (is_marked t.worn m)))
        ∙ sym (marked_append (worn ++ marks_of (removed_of table t.pending.removed))
        (t.worn ++ marks_of (own change.removed)) m) in
        let now : IsSeenBy c table t.number (base table) (marked_rows_of table tabs) worn
        (items_of table (items session)) (removed_of table t.pending.removed)
        (added_of table tabs 0 (pend t.pending change).added)
        (t.worn ++ marks_of (own change.removed)) = record {
          may = was.may;
          none = was.none;
          part = was.part;
          own_rows = own_added;
          own_marks = all_append (λ m. nat_eq m.seq 0 ≡ true) t.worn (marks_of (own change.removed))
              was.own_marks (all_map (λ m. nat_eq m.seq 0 ≡ true) (λ (x : MarkedRow). x.mark)
              (own change.removed) (all_passed is_own change.removed));
          stands = stand_in_table c table files (without marked_cmp (marked_rows_of table tabs)
              (removed_of table t.pending.removed) ++ added_of table tabs 0 t.pending.added)
              (without marked_cmp (marked_rows_of table tabs) (removed_of table t.pending.removed)
              ++ added_of table tabs 0 (pend t.pending change).added) old_worn (worn ++ marks_of
              (removed_of table t.pending.removed) ++ (t.worn ++ marks_of (own change.removed)))
              was.stands
              (λ g. omega (
                arith,
                weight_append g (without marked_cmp (marked_rows_of table tabs)
                    (removed_of table t.pending.removed))
                    (added_of table tabs 0 t.pending.added),
                weight_append g (without marked_cmp
                    (marked_rows_of table tabs) (removed_of table t.pending.removed))
                    (added_of table tabs 0 (pend t.pending change).added),
                same_added g,
              )) alike;
        } in
        subst (λ (xs : List Item). IsSeenBy c table t.number (base table)
        (marked_rows_of table tabs) worn xs
        (removed_of table (pend t.pending change).removed)
        (added_of table tabs 0 (pend t.pending change).added)
        (t.worn ++ marks_of (own change.removed))) (sym same_items)
        (subst (λ (ms : List MarkedRow). IsSeenBy c table t.number (base table)
        (marked_rows_of table tabs) worn (items_of table (items session)) ms
        (added_of table tabs 0 (pend t.pending change).added)
        (t.worn ++ marks_of (own change.removed))) (sym same_removed) now)
      where
        or_false : (a : Bool) → (a || false) ≡ a
        or_false true = refl
        or_false false = refl

  at_table : (table : List ℕ) → Seen table
  at_table table = elim (same_text table s.name) as (λ b. same_text table s.name ≡ b → Seen table) [
    | true ↦ λ e. subst (λ (n : List ℕ). Seen n) (sym (same_text_is table s.name e)) here
    | false ↦ λ e. elsewhere table e
  ] refl

  ran : Stands c rows (with_items session (items session ++ more) items) (turned session t' st)
  ran =
      let items' = with_items session (items session ++ more) items in
      let mine : items' session ≡ items session ++ more = ap
      (λ (b : Bool). if b then items session ++ more else items session) (same session) in
      let name_there : has_table s.name tabs ≡ true = ap (λ (o : Option Table). is_some o) is.table
      in
      turned_stands c rows items items' st session t' stands
      (subst (λ (own : List Item). OpenStands c rows st own t') (sym mine) (record {
        known = all_append (λ a. has_table a.table tabs ≡ true)
            (additions_left (own change.removed) t.pending.added) change.added (known_left
            (own change.removed) (λ n. has_table n tabs ≡ true) t.pending.added open_one.known)
            (all_weaker change.added (λ a e. ap (λ (n : List ℕ). has_table n tabs) e ∙ name_there)
            is.added);
        snapshot = open_one.snapshot;
        each = at_table;
      }))
      (λ other differ. ap (λ (b : Bool). if b then items session ++ more else items other) differ)
    where
      same : (n : ℕ) → nat_eq n n ≡ true
      same n = grind arith

pub stands_ran : StandsRan
stands_ran c rows items more st session t s reply change r ws stands opened parts adds is =
    subst (λ (o : Option Transaction). Stands c rows
    (with_items session (items session ++ more) items)
    (option_map_or (λ t. turned session (with_part reply change t) st) o st)) (sym opened)
    (ran c rows items more st session t s reply change r ws stands opened parts adds is)
