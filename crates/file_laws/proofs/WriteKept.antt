-- A write that ran keeps a book right.
use Rattle.std.proofs.Common.{◌≡◌, ℕ, ◌+◌, ◌≤◌, Bool, true, false, not, ◌||◌, nat_eq, cond, List}
use Rattle.std.proofs.Common.{[], ◌∷◌, ◌++◌, Option, inl, inr, ◌⊎◌, ⊎_elim, map, filter, flat_map}
use Rattle.std.proofs.Common.{refl, sym, ap, ◌∙◌, subst, arith, if◌then◌else◌}
use Rattle.std.specs.Prelude.{nat_le}
use Rattle.std.specs.Option.{option_map_or}
use Rattle.std.specs.List.{AllByRecursion, list_any}
use Rattle.std.proofs.lemmas.Bool.{eqb-true}
use Rattle.std.proofs.lemmas.Bool.Decides.{nat_tests}
use Rattle.std.proofs.lemmas.List.{append-nil}
use Rattle.std.proofs.lemmas.List.Elements.{filter-append}
use Rattle.lake_values.specs.declared.names.Name.{Name}
use Rattle.sql_model.specs.declared.changes.Added.{Added}
use Rattle.sql_model.specs.declared.changes.Change.{Change}
use Rattle.lake_model.specs.declared.entries.Fact.TheVariants.{Ran}
use Rattle.sql_model.specs.declared.changes.Mark.{Mark}
use Rattle.sql_model.specs.declared.changes.MarkedRow.{MarkedRow}
use Rattle.sql_model.specs.declared.replies.Reply.{Reply}
use Rattle.sql_model.specs.Changes.{added_to, additions_left, changed_table, is_nil, is_own}
use Rattle.sql_model.specs.Changes.{left_of, marked, marked_cmp, own, removed_from, same_mark}
use Rattle.sql_model.specs.Changes.{without, without_one}
use Rattle.sql_model.specs.Units.{marks_of}
use Rattle.std.specs.Ordering.{is_eq}
use Rattle.std.specs.declared.cmp.Ordering.{Ordering}
use Rattle.sql_model.specs.Listing.{placed, IsPartOf}
use Rattle.lake_values.specs.Names.{same_name}
use Rattle.lake_model.specs.State.{State, Transaction, after_ran, state, transaction, turned}
use Rattle.lake_model.specs.State.{version_at, with_part}
use Rattle.sql_model.specs.Versions.{Table, marked_rows_of}
use Rattle.lake_values.specs.Texts.{same_text}
use Rattle.sql_model.proofs.Lists.{all_append, all_both, all_filter, all_parts, all_weaker}
use Rattle.sql_model.proofs.Removal.{filter_all, filter_none}
use Rattle.sql_model.proofs.Sorting.{all_placed}
use Rattle.lake_values.proofs.SameTexts.{same_text_is, same_text_self, same_text_sym}
use Rattle.manifest_block.specs.declared.items.Item.{Item}
use Rattle.manifest_block.specs.declared.items.Item.TheVariants.{Add, Remove, SetVector}
use Rattle.table_snapshot.specs.declared.files.FileRow.{FileRow}
use Rattle.file_laws.specs.Contents.{Contents, mark_of}
use Rattle.table_snapshot.specs.Files.{file_cmp, is_file, item_table, items_of, replay}
use Rattle.table_snapshot.specs.Files.{without_file}
use Rattle.file_laws.specs.Kept.{Agrees, Book, IsOwnItem, IsOwnName, HaveOneTable, OwnsItems}
use Rattle.file_laws.specs.Kept.{shown_row, writes}
use Rattle.file_laws.specs.KeptLaws.{AllOther, AsksOfWrite, IsPartItem, IsPartName, KeptWrite}
use Rattle.file_laws.specs.KeptLaws.{with_more, write_items}
use Rattle.file_laws.specs.Marking.{Removal, items_by, leaves_none, mark_items, removes_none}
use Rattle.file_laws.specs.Pends.{HaveOwnParts}
use Rattle.file_laws.specs.RanLaw.{IsWrite, files_seen}
use Rattle.file_laws.specs.Stands.{OpenStands, Stands, VersionStands, files_at, removed_of}
use Rattle.file_laws.specs.Stands.{Checkpoint}
use Rattle.file_laws.specs.StandsLaws.{with_items}
use Rattle.file_laws.specs.StatementLaws.{AreNew, IsStatement, Written, add_item, file_of}
use Rattle.file_laws.specs.Touching.{is_marked, is_name_of}
use Rattle.file_laws.proofs.CommitLaw.{committed_rows, not_zero, weight_nothing}
use Rattle.file_laws.proofs.EntryKept.{kept_next}
use Rattle.file_laws.proofs.KeptLemmas.{Makes, OpenFrom, carry, item_later, items_add_own}
use Rattle.file_laws.proofs.KeptLemmas.{replay_keeps, turned_was}
use Rattle.file_laws.proofs.RanLemmas.{stands_ran}
use Rattle.file_laws.proofs.ReplayLemmas.{mark_tells, name_tells}
use Rattle.file_laws.proofs.Some.{any_filter, any_known, any_parts}
use Rattle.file_laws.proofs.StandLemmas.{all_bag, all_flat, all_map, all_passed, not_marked}
use Rattle.file_laws.proofs.TouchLaw.{none_with}

-- lists

all_unmap : {X Y : Type 0} (P : Y → Type 0) (f : X → Y) (xs : List X) → AllByRecursion P (map f xs)
    → AllByRecursion (λ x. P (f x)) xs
all_unmap P f [] all = tt
all_unmap P f (x ∷ xs) all = (all.0, all_unmap P f xs all.1)

all_without_one : {X : Type 0} (cmp : X → X → Ordering) (P : X → Type 0) (xs : List X) (x : X) →
    AllByRecursion P xs → AllByRecursion P (without_one cmp xs x)
all_without_one cmp P [] x all = tt
all_without_one cmp P (y ∷ ys) x all =
    elim (is_eq (cmp x y)) as (λ b. AllByRecursion P (if b then ys else y ∷ without_one cmp ys x))
    [ true ↦ all.1 | false ↦ (all.0, all_without_one cmp P ys x all.1) ]

pub all_without : {X : Type 0} (cmp : X → X → Ordering) (P : X → Type 0) (removed xs : List X) →
    AllByRecursion P xs → AllByRecursion P (without cmp xs removed)
all_without cmp P [] xs all = all
all_without cmp P (r ∷ rs) xs all =
    all_without cmp P rs (without_one cmp xs r) (all_without_one cmp P xs r all)

not_same : (a b : ℕ) → a ≡ b → nat_eq a b ≡ false → ⊥
not_same a b e off = absurd (grind arith)

-- parts

parts_left : (removed : List MarkedRow) (as' : List Added) → HaveOwnParts as' → HaveOwnParts
    (additions_left removed as')
parts_left removed [] own = tt
parts_left removed (a ∷ as') own = elim (is_nil (left_of removed a).rows) as (λ b. HaveOwnParts
    (cond (not b) (left_of removed a ∷ additions_left removed as') (additions_left removed as'))) [
      | true ↦ parts_left removed as' own.1
      | false ↦ (
        all_filter (λ b. nat_eq a.part b.part ≡ false) (λ b. not (is_nil b.rows))
            (map (left_of removed) as')
            (all_map (λ b. nat_eq a.part b.part ≡ false) (left_of removed) as' own.0),
        parts_left
            removed as' own.1,
      )
    ]

parts_append : (n : ℕ) (xs ys : List Added) → HaveOwnParts xs → AllByRecursion (λ a. a.part ≤ n) xs
    → HaveOwnParts ys → AllByRecursion (λ a. a.part ≡ n + 1) ys → HaveOwnParts (xs ++ ys)
parts_append n [] ys own up own' new = own'
parts_append n (x ∷ xs) ys own up own' new = (
  all_append (λ b. nat_eq x.part b.part ≡ false) xs ys own.0
      (all_weaker ys (λ b is. apart x.part b.part n up.0 is) new),
  parts_append n xs ys own.1
      up.1 own' new,
)
  where
    apart : (a b n : ℕ) → a ≤ n → b ≡ n + 1 → nat_eq a b ≡ false
    apart a b n le is = grind arith

-- the items of a write

marks_in_table : (c : Contents) (table : List ℕ) (r : Removal) (f : FileRow) → AllByRecursion
    (λ i. same_text (item_table i) table ≡ true) (mark_items c table r f)
marks_in_table c table r f = by (removes_none c r f) (leaves_none c r f)
  where
    by : (none leaves : Bool) → AllByRecursion (λ i. same_text (item_table i) table ≡ true)
        (items_by none leaves table r f)
    by true leaves = tt
    by false true = (same_text_self table, tt)
    by false false = (same_text_self table, tt)

items_in_table : (c : Contents) (table : List ℕ) (seen : List FileRow) (r : Removal) (part : ℕ)
    (ws : List Written) → AllByRecursion (λ i. same_text (item_table i) table ≡ true)
    (write_items c table seen r part ws)
items_in_table c table seen r part ws =
    all_append (λ i. same_text (item_table i) table ≡ true) (flat_map (mark_items c table r) seen)
    (map (add_item table part) ws)
    (all_flat (λ i. same_text (item_table i) table ≡ true) (mark_items c table r) seen
    (all_of seen))
    (all_map (λ i. same_text (item_table i) table ≡ true) (add_item table part) ws (all_of' ws))
  where
    all_of : (fs : List FileRow) → AllByRecursion
        (λ f. AllByRecursion (λ i. same_text (item_table i) table ≡ true) (mark_items c table r f))
        fs
    all_of [] = tt
    all_of (f ∷ fs) = (marks_in_table c table r f, all_of fs)

    all_of' : (ws : List Written) → AllByRecursion (λ w. same_text table table ≡ true) ws
    all_of' [] = tt
    all_of' (w ∷ ws) = (same_text_self table, all_of' ws)

-- new files

-- neither the name nor the mark of the file is that of the written one
record Unlike (table : List ℕ) (part : ℕ) (f : FileRow) (w : Written) : Type 0 where
  name : is_file w.name f ≡ false
  mark : same_mark (mark_of table (file_of part w)) (mark_of table f) ≡ false

are_new : (c : Contents) (table : List ℕ) (txn part : ℕ) (worn : List Mark) (ws : List Written)
    (files : List FileRow) → AllByRecursion (λ w. is_name_of txn w.name ≡ true) ws → AllByRecursion
    (λ w. is_nil (c.rows w.name) ≡ false) ws
    → AllByRecursion (λ w. is_marked worn (mark_of table (file_of part w)) ≡ false) ws → AllOther ws
    → AllByRecursion (λ f. AllByRecursion (Unlike table part f) ws) files → AreNew c table txn
    part ws files worn
are_new c table txn part worn [] files own filled unworn other unlike = tt
are_new c table txn part worn (w ∷ ws) files own filled unworn other unlike = (
  own.0,
  filled.0,
  none_with (is_file w.name) files (all_weaker files (λ f all. all.0.name) unlike),
  weight_nothing
      (λ f. if same_mark (mark_of table (file_of part w)) (mark_of table f) then 1 else 0) files
      (all_weaker files (λ f all. ap (λ (b : Bool). if b then 1 else 0) all.0.mark) unlike),
  unworn.0,
  are_new c table txn part worn ws (placed file_cmp (file_of part w) (without_file w.name files))
      own.1 filled.1 unworn.1 other.1
      (all_placed file_cmp (λ f. AllByRecursion (Unlike table part f) ws) (file_of part w)
      (without_file w.name files)
      (all_weaker ws
      (λ x differ. record { name = flipped w x differ.1; mark = other_mark w x differ.0 })
      other.0) (all_filter (λ f. AllByRecursion (Unlike table part f) ws)
      (λ f. not (is_file w.name f)) files (all_weaker files (λ f all. all.1) unlike))),
)
  where
    flipped : (w x : Written) → same_name w.name x.name ≡ false → same_name x.name w.name ≡ false
    flipped w x off = elim (same_name x.name w.name) as
        (λ b. same_name x.name w.name ≡ b → b ≡ false) [
          | true ↦ λ e. let is = name_tells x.name w.name e in sym e ∙ ap
              (λ (n : Name). same_name n w.name) is ∙ ap (same_name w.name) (sym is) ∙ off
          | false ↦ λ e. refl
        ] refl

    other_mark : (w x : Written) → nat_eq w.cell x.cell ≡ false → same_mark
        (mark_of table (file_of part x)) (mark_of table (file_of part w)) ≡ false
    other_mark w x off = elim
        (same_mark (mark_of table (file_of part x)) (mark_of table (file_of part w))) as (λ b.
        same_mark (mark_of table (file_of part x)) (mark_of table (file_of part w)) ≡ b → b ≡
        false) [
          | true ↦ λ e. absurd (not_same w.cell x.cell (ap (λ (m : Mark). m.cell) (sym
              (mark_tells (mark_of table (file_of part x)) (mark_of table (file_of part w)) e)))
              off)
          | false ↦ λ e. refl
        ] refl

-- an uncommitted mark of a part up to this one, or a committed one
abbrev is_old : ℕ → Mark → Bool
is_old parts m = not (nat_eq m.seq 0) || nat_le m.part parts

old_part : (parts : ℕ) (m : Mark) → m.part ≤ parts → is_old parts m ≡ true
old_part parts m le = by (nat_eq m.seq 0) m.part le
  where
    by : (b : Bool) (p : ℕ) → p ≤ parts → (not b || nat_le p parts) ≡ true
    by true p le = grind (arith, nat_tests)
    by false p le = refl

old_commit : (parts : ℕ) (m : Mark) → nat_eq m.seq 0 ≡ false → is_old parts m ≡ true
old_commit parts m e = ap (λ (b : Bool). not b || nat_le m.part parts) e

old_is : (parts : ℕ) (m : Mark) → is_old parts m ≡ true → m.seq ≡ 0 → m.part ≤ parts
old_is parts m old zero_is = by m.seq m.part old zero_is
  where
    by : (s p : ℕ) → (not (nat_eq s 0) || nat_le p parts) ≡ true → s ≡ 0 → p ≤ parts
    by s p old e = grind (arith, nat_tests)

module _ (k : Book) (st : State) (session : ℕ) (t : Transaction) (reply : Reply) (change : Change)
    (s : Table) (r : Removal) (ws : List Written) (agrees : Agrees k st)
    (asks : AsksOfWrite k st session t reply change s r ws) where
  abbrev mine : List Item
  mine = k.items session

  abbrev seen : List FileRow
  seen = files_seen k.rows mine t s.name

  abbrev part : ℕ
  part = t.parts + 1

  abbrev more : List Item
  more = write_items k.contents s.name seen r part ws

  abbrev base : List FileRow
  base = files_at k.rows t.snapshot s.name

  abbrev matched : List MarkedRow
  matched = filter (λ m. r.matches m.row) (changed_table 0 t.pending s).rows

  abbrev worn : List Mark
  worn = (version_at st t.snapshot).worn ++ marks_of (removed_from s t.pending.removed) ++ t.worn

  open_one : OpenStands k.contents k.rows st mine t
  open_one = agrees.stands.open_ones session t asks.opened

  owns : OwnsItems k.contents mine t
  owns = agrees.open_items session t asks.opened

  snapshot_stands : VersionStands k.contents k.rows t.snapshot (version_at st t.snapshot)
  snapshot_stands = agrees.stands.versions t.snapshot open_one.snapshot.0 open_one.snapshot.1

  base_kept : AllByRecursion (λ f. nat_eq f.seq 0 ≡ false) base
  base_kept = all_weaker base (λ f both. not_zero f.seq both.0)
      (snapshot_stands.up_to s.name).of_files

  rows_kept : AllByRecursion (λ m. is_own m ≡ false) s.rows
  rows_kept = subst (λ (o : Option Table). AllByRecursion (λ m. is_own m ≡ false)
      (option_map_or (λ t. t.rows) o [])) asks.table
      (committed_rows k.contents s.name base _ base_kept (snapshot_stands.each s.name).same)

  -- what the transaction sees has no mark of this part
  seen_old : AllByRecursion (λ m. is_old t.parts m.mark ≡ true) (changed_table 0 t.pending s).rows
  seen_old =
      all_append (λ m. is_old t.parts m.mark ≡ true)
      (without marked_cmp s.rows (removed_from s t.pending.removed))
      (flat_map (added_to s 0) t.pending.added)
      (all_without marked_cmp (λ m. is_old t.parts m.mark ≡ true)
      (removed_from s t.pending.removed) s.rows
      (all_weaker s.rows (λ m e. old_commit t.parts m.mark e) rows_kept))
      (all_flat (λ m. is_old t.parts m.mark ≡ true) (added_to s 0) t.pending.added
      (all_weaker t.pending.added (λ a is. of_part a is.0) owns.added))
    where
      rows_part : (a : Added) (n : ℕ) (rows : List _) → a.part ≤ n → AllByRecursion
          (λ m. is_old n m.mark ≡ true) (map (marked s.name s.schema 0 a.part) rows)
      rows_part a n [] le = tt
      rows_part a n (row ∷ rows) le =
          (old_part n (marked s.name s.schema 0 a.part row).mark le, rows_part a n rows le)

      of_part : (a : Added) → a.part ≤ t.parts → AllByRecursion (λ m. is_old t.parts m.mark ≡ true)
          (added_to s 0 a)
      of_part a le = elim (same_text a.table s.name) as (λ b. AllByRecursion
          (λ m. is_old t.parts m.mark ≡ true)
          (if b then map (marked s.name s.schema 0 a.part) a.rows else []))
          [ true ↦ rows_part a t.parts a.rows le | false ↦ tt ]

  matched_old : AllByRecursion (λ m. is_old t.parts m.mark ≡ true) matched
  matched_old = all_filter (λ m. is_old t.parts m.mark ≡ true) (λ m. r.matches m.row)
      (changed_table 0 t.pending s).rows seen_old

  removed_here : removed_from s change.removed ≡ change.removed
  removed_here = filter_all (λ m. same_text m.mark.table s.name) change.removed asks.removed

  removed_old : AllByRecursion (λ m. is_old t.parts m.mark ≡ true) change.removed
  removed_old = subst
      (λ (ms : List MarkedRow). AllByRecursion (λ m. is_old t.parts m.mark ≡ true) ms) removed_here
      (all_bag (λ m. is_old t.parts m.mark) (removed_from s change.removed) matched asks.removes
      matched_old)

  -- neither has a file that it sees, or a worn mark of it

  abbrev OldFile : FileRow → Type 0
  OldFile f = (is_name_of t.number f.file ≡ true → f.file.part ≤ t.parts) ×
      (f.seq ≡ 0 → f.part ≤ t.parts)

  base_old : AllByRecursion OldFile base
  base_old = all_both base (λ f none kept. (
    (λ own. let no : true ≡ false = sym own ∙ none in absurd cc),
    (λ e. absurd (not_same f.seq 0 e kept)),
  )) (open_one.each s.name).none base_kept

  own_makes : (i : Item) → IsOwnItem k.contents t.number t.parts i → Makes OldFile 0 i
  own_makes (Add table cell p file rows) is = ((λ own. is.0.up_to), (λ e. is.1))
  own_makes (Remove table file) is = tt
  own_makes (SetVector table file vector removed) is = λ f old. old

  seen_files_old : AllByRecursion OldFile seen
  seen_files_old = replay_keeps OldFile 0 (items_of s.name mine) (all_filter (Makes OldFile 0)
      (λ i. same_text (item_table i) s.name) mine (all_weaker mine own_makes owns.items)) base
      base_old

  removal_makes : (fs : List FileRow) → AllByRecursion (Makes OldFile 0)
      (flat_map (mark_items k.contents s.name r) fs)
  removal_makes fs = all_flat (Makes OldFile 0) (mark_items k.contents s.name r) fs (each fs)
    where
      by : (none leaves : Bool) (f : FileRow) → AllByRecursion (Makes OldFile 0)
          (items_by none leaves s.name r f)
      by true leaves f = tt
      by false true f = (tt, tt)
      by false false f = ((λ f old. old), tt)

      each : (fs : List FileRow) → AllByRecursion
          (λ f. AllByRecursion (Makes OldFile 0) (mark_items k.contents s.name r f)) fs
      each [] = tt
      each (f ∷ fs) = (by (removes_none k.contents r f) (leaves_none k.contents r f) f, each fs)

  left_old : AllByRecursion OldFile (replay 0 (flat_map (mark_items k.contents s.name r) seen) seen)
  left_old = replay_keeps OldFile 0 (flat_map (mark_items k.contents s.name r) seen)
      (removal_makes seen) seen seen_files_old

  both_blobs : AllByRecursion (IsPartItem k.contents t.number part)
      (flat_map (mark_items k.contents s.name r) seen) × AllByRecursion
      (IsPartItem k.contents t.number part) (map (add_item s.name part) ws)
  both_blobs = all_parts (IsPartItem k.contents t.number part)
      (flat_map (mark_items k.contents s.name r) seen) (map (add_item s.name part) ws) asks.blobs

  written_blobs : AllByRecursion (λ w. IsPartName k.contents t.number part w.name × (part ≡ part))
      ws
  written_blobs = all_unmap (IsPartItem k.contents t.number part) (add_item s.name part) ws
      both_blobs.1

  unlike_old : (f : FileRow) → OldFile f → (w : Written) → IsPartName k.contents t.number part
      w.name → Unlike s.name part f w
  unlike_old f old w is = record {
    name = elim (is_file w.name f) as (λ b. is_file w.name f ≡ b → b ≡ false) [
      | true ↦ λ e.
          let same = name_tells w.name f.file e in
          let up = old.0 (ap (λ (n : Name). is_name_of t.number n) (sym same) ∙ is.own) in
          absurd (omega (arith, up, is.of_part, ap (λ (n : Name). n.part) same))
      | false ↦ λ e. refl
    ] refl;
    mark = elim (same_mark (mark_of s.name (file_of part w)) (mark_of s.name f)) as
        (λ b. same_mark (mark_of s.name (file_of part w)) (mark_of s.name f) ≡ b → b ≡ false) [
          | true ↦ λ e.
              let same = mark_tells (mark_of s.name (file_of part w)) (mark_of s.name f) e in
              let up = old.1 (ap (λ (m : Mark). m.seq) (sym same)) in
              absurd (omega (arith, up, ap (λ (m : Mark). m.part) same))
          | false ↦ λ e. refl
        ] refl;
  }

  worn_old : AllByRecursion (λ m. is_old t.parts m ≡ true) (worn ++ marks_of matched)
  worn_old =
      let old_marks : (rows : List MarkedRow) → AllByRecursion (λ m. is_old t.parts m.mark ≡ true)
      rows → AllByRecursion (λ m. is_old t.parts m ≡ true) (marks_of rows) = λ rows all. all_map
      (λ m. is_old t.parts m ≡ true) (λ (m : MarkedRow). m.mark) rows all in
      all_append (λ m. is_old t.parts m ≡ true) worn (marks_of matched)
      (all_append (λ m. is_old t.parts m ≡ true)
      ((version_at st t.snapshot).worn ++ marks_of (removed_from s t.pending.removed)) t.worn
      (all_append (λ m. is_old t.parts m ≡ true) (version_at st t.snapshot).worn
      (marks_of (removed_from s t.pending.removed))
      (all_weaker (version_at st t.snapshot).worn
      (λ m both. old_commit t.parts m (not_zero m.seq both.0))
      (snapshot_stands.up_to s.name).of_worn)
      (old_marks (removed_from s t.pending.removed) (all_weaker (removed_from s t.pending.removed)
      (λ m e. old_commit t.parts m.mark e) pending_kept)))
      (all_weaker t.worn (λ m le. old_part t.parts m le) owns.worn))
      (old_marks matched matched_old)
    where
      kept_true : AllByRecursion (λ m. not (is_own m) ≡ true) s.rows
      kept_true = all_weaker s.rows (λ m e. ap not e) rows_kept

      part_of_rows : IsPartOf (removed_of s.name t.pending.removed)
          (marked_rows_of s.name (version_at st t.snapshot).tables)
      part_of_rows = (open_one.each s.name).part

      pending_kept : AllByRecursion (λ m. is_own m ≡ false) (removed_from s t.pending.removed)
      pending_kept =
          let rows = subst (λ (o : Option Table). AllByRecursion (λ m. not (is_own m) ≡ true)
          (option_map_or (λ t. t.rows) o [])) (sym asks.table) kept_true in
          let all = all_bag (λ m. not (is_own m))
          (removed_of s.name t.pending.removed ++ part_of_rows.0) _ part_of_rows.1 rows in
          all_weaker (removed_from s t.pending.removed) (λ m e. back (is_own m) e) (all_parts
          (λ m. not (is_own m) ≡ true) (removed_of s.name t.pending.removed) part_of_rows.0
          all).0
        where
          back : (b : Bool) → not b ≡ true → b ≡ false
          back true e = absurd cc
          back false e = refl

  new_unworn : (w : Written) → is_marked (worn ++ marks_of matched)
      (mark_of s.name (file_of part w)) ≡ false
  new_unworn w = not_marked (λ m. is_old t.parts m ≡ true) (worn ++ marks_of matched)
      (mark_of s.name (file_of part w)) worn_old
      (λ old. absurd (omega (arith, old_is t.parts (mark_of s.name (file_of part w)) old refl)))

  statement : IsStatement k.contents s t.number seen worn t.pending change r part ws
  statement = record {
    removes = asks.removes;
    adds = asks.adds;
    vectors = asks.vectors;
    written = are_new k.contents s.name t.number part (worn ++ marks_of matched) ws
        (replay 0 (flat_map (mark_items k.contents s.name r) seen) seen)
        (all_weaker ws (λ w is. is.0.own) written_blobs) asks.written
        (all_weaker ws (λ w is. new_unworn w) written_blobs) asks.other
        (all_weaker (replay 0 (flat_map (mark_items k.contents s.name r) seen) seen)
        (λ f old. all_weaker ws (λ w is. unlike_old f old w is.0) written_blobs) left_old);
  }

  in_table : AllByRecursion (λ i. same_text (item_table i) s.name ≡ true) more
  in_table = items_in_table k.contents s.name seen r part ws

  is_write : IsWrite k.contents k.rows mine more st t s change r ws
  is_write = record {
    table = asks.table;
    removed = asks.removed;
    added = all_weaker change.added (λ a is. is.0) asks.added;
    statement = statement;
    own_items = filter_all (λ i. same_text (item_table i) s.name) more in_table;
    other_items = λ table differ. filter_none (λ i. same_text (item_table i) table) more (
        all_weaker more (λ i e. ap (λ (n : List ℕ). same_text n table)
        (same_text_is (item_table i) s.name e) ∙ same_text_sym s.name table ∙ differ) in_table);
  }

  -- old blobs are of earlier parts, and the new ones are of the table
  one_table_now : HaveOneTable (mine ++ more)
  one_table_now name one other is is' =
      ⊎_elim (λ old. ⊎_elim (λ old'. owns.one_table name one other old old')
      (λ new'. absurd (clash one other old new')) (halves other is'))
      (λ new. ⊎_elim (λ old'. absurd (clash other one old' new))
      (λ new'. at_table one new ∙ sym (at_table other new')) (halves other is'))
      (halves one is)
    where
      halves : (table : List ℕ) → list_any (writes name) (items_of table (mine ++ more)) ≡ true →
          (list_any (writes name) (items_of table mine) ≡ true) ⊎
          (list_any (writes name) (items_of table more) ≡ true)
      halves table is = any_parts (writes name) (items_of table mine) (items_of table more) (ap
          (list_any (writes name))
          (sym (filter-append (λ i. same_text (item_table i) table) mine more)) ∙ is)

      old_written : (i : Item) → IsOwnItem k.contents t.number t.parts i → writes name i ≡ true →
          name.part ≤ t.parts
      old_written (Add table cell p file rows) is e = omega
          (arith, is.0.up_to, ap (λ (n : Name). n.part) (name_tells name file e))
      old_written (Remove table file) is e = absurd cc
      old_written (SetVector table file vector removed) is e = omega
          (arith, is.up_to, ap (λ (n : Name). n.part) (name_tells name vector e))

      new_written : (i : Item) → IsPartItem k.contents t.number part i → writes name i ≡ true →
          name.part ≡ t.parts + 1
      new_written (Add table cell p file rows) is e = ap (λ (n : Name). n.part)
          (name_tells name file e) ∙ is.0.of_part
      new_written (Remove table file) is e = absurd cc
      new_written (SetVector table file vector removed) is e = ap (λ (n : Name). n.part)
          (name_tells name vector e) ∙ is.of_part

      clash : (one other : List ℕ) → list_any (writes name) (items_of one mine) ≡ true → list_any
          (writes name) (items_of other more) ≡ true → ⊥
      clash one other old new =
          let low = any_known (IsOwnItem k.contents t.number t.parts) (writes name)
          (name.part ≤ t.parts) mine owns.items old_written
          (any_filter (writes name) (λ i. same_text (item_table i) one) mine old) in
          let high = any_known (IsPartItem k.contents t.number part) (writes name)
          (name.part ≡ t.parts + 1) more asks.blobs new_written
          (any_filter (writes name) (λ i. same_text (item_table i) other) more new) in
          absurd (omega (arith, low, high))

      at_table : (table : List ℕ) → list_any (writes name) (items_of table more) ≡ true → table ≡
          s.name
      at_table table new =
          any_known (λ i. (same_text (item_table i) table ≡ true) ×
          (same_text (item_table i) s.name ≡ true)) (writes name) (table ≡ s.name)
          (items_of table more)
          (all_both (items_of table more) (λ i a b. (a, b))
          (all_passed (λ i. same_text (item_table i) table) more) (all_filter
          (λ i. same_text (item_table i) s.name ≡ true)
          (λ i. same_text (item_table i) table) more in_table))
          (λ i both e. sym (same_text_is (item_table i) table both.0) ∙ same_text_is (item_table i)
          s.name both.1) new

  abbrev t' : Transaction
  t' = with_part reply change t

  owns_now : OwnsItems k.contents (mine ++ more) t'
  owns_now = record {
    items = all_append (IsOwnItem k.contents t'.number t'.parts) mine more
        (all_weaker mine (item_later k.contents t.number t.parts t'.parts (omega arith)) owns.items)
        (all_weaker more new_item asks.blobs);
    added = all_append (λ a. (a.part ≤ t'.parts) × (is_nil a.rows ≡ false))
        (additions_left (own change.removed) t.pending.added) change.added
        (all_both (additions_left (own change.removed) t.pending.added)
        (λ a le some. (omega (arith, le), back (is_nil a.rows) some))
        (all_filter (λ a. a.part ≤ t.parts) (λ a. not (is_nil a.rows))
        (map (left_of (own change.removed)) t.pending.added) (all_map (λ a. a.part ≤ t.parts)
        (left_of (own change.removed)) t.pending.added
        (all_weaker t.pending.added (λ a is. is.0) owns.added)))
        (all_passed (λ a. not (is_nil a.rows))
        (map (left_of (own change.removed)) t.pending.added)))
        (all_weaker change.added (λ a is. (omega (arith, is.1, asks.counted), is.2)) asks.added);
    apart = parts_append t.parts (additions_left (own change.removed) t.pending.added) change.added
        (parts_left (own change.removed) t.pending.added owns.apart)
        (all_filter (λ a. a.part ≤ t.parts) (λ a. not (is_nil a.rows))
        (map (left_of (own change.removed)) t.pending.added) (all_map (λ a. a.part ≤ t.parts)
        (left_of (own change.removed)) t.pending.added
        (all_weaker t.pending.added (λ a is. is.0) owns.added)))
        asks.one_part (all_weaker change.added (λ a is. is.1) asks.added);
    worn = all_append (λ m. m.part ≤ t'.parts) t.worn (marks_of (own change.removed))
        (all_weaker t.worn (λ m le. omega (arith, le)) owns.worn)
        (all_map (λ m. m.part ≤ t'.parts) (λ (m : MarkedRow). m.mark) (own change.removed)
        (all_both (own change.removed) (λ m own old. let le = old_is t.parts m.mark old
        (eqb-true m.mark.seq 0 own) in omega (arith, le))
        (all_passed is_own change.removed)
        (all_filter (λ m. is_old t.parts m.mark ≡ true) is_own change.removed removed_old)));
    one_table = one_table_now;
  }
    where
      back : (b : Bool) → not b ≡ true → b ≡ false
      back true e = absurd cc
      back false e = refl

      new_name : (n : Name) → IsPartName k.contents t.number part n → IsOwnName k.contents t.number
          t'.parts n
      new_name n is = record
          { own = is.own; up_to = omega (arith, is.of_part, asks.counted); here = is.here }

      new_item : (i : Item) → IsPartItem k.contents t.number part i → IsOwnItem k.contents t.number
          t'.parts i
      new_item (Add table cell p file rows) is =
          (new_name file is.0, omega (arith, is.1, asks.counted))
      new_item (Remove table file) is = tt
      new_item (SetVector table file vector removed) is = new_name vector is

  pub write_agrees : Agrees (with_more k session more) (after_ran session reply change st)
  write_agrees =
      let st' = turned session t' st in
      let items' = with_items session (mine ++ more) k.items in
      let now : after_ran session reply change st ≡ st' = ap (λ (o : Option Transaction).
      option_map_or (λ t. turned session (with_part reply change t) st) o st) asks.opened in
      let stands : Stands k.contents k.rows items' st' =
      subst (λ (st' : State). Stands k.contents k.rows items' st') now (stands_ran k.contents
      k.rows k.items more st session t s reply change r ws agrees.stands asks.opened
      owns.apart (items_add_own k.contents t.number t.parts mine owns.items) is_write) in
      let from : OpenFrom st st' = λ other u is. elim (turned_was session other t' st u is) [
        | inl
            off ↦ inl (u, off.1, refl)
        | inr here ↦ inl (
          t,
          ap (transaction st) here.0 ∙
              asks.opened,
          ap (λ (v : Transaction). v.number) here.1,
        )
      ] in
      subst (λ (st' : State). Agrees (with_more k session more) st') (sym now)
      (carry k items' st st' agrees stands refl refl (omega arith) (omega arith) from
      (λ other u is. elim (turned_was session other t' st u is) [
        | inl off ↦ subst (λ (own : List Item). OwnsItems k.contents own u)
            (sym (ap (λ (b : Bool). if b then mine ++ more else k.items other) off.0))
            (agrees.open_items other u off.1)
        | inr here ↦
            let at_own : items' other ≡ mine ++ more = ap (λ (n : ℕ). items' n) here.0 ∙ ap
            (λ (b : Bool). if b then mine ++ more else k.items session) (same_itself session) in
            subst (λ (own : List Item). OwnsItems k.contents own u) (sym at_own)
            (subst (λ (v : Transaction). OwnsItems k.contents (mine ++ more) v) here.1 owns_now)
      ]))
    where
      same_itself : (n : ℕ) → nat_eq n n ≡ true
      same_itself n = grind arith

pub kept_write : KeptWrite
kept_write k entries e t reply change s r ws kept next asks =
    kept_next k (with_more k e.entry.session (write_items k.contents s.name
    (files_seen k.rows (k.items e.entry.session) t s.name) r (t.parts + 1) ws)) entries e
    (Ran reply change) [] kept next
    (sym (append-nil (map (λ (c : Checkpoint). c.check) k.checks)))
    (sym (append-nil (map shown_row k.rows))) tt
    (λ sound may. write_agrees k (state entries) e.entry.session t reply change s r ws kept.agrees
    asks)
