-- What a further statement makes of what a transaction sees.
use Rattle.std.proofs.Common.{◌≡◌, ℕ, ◌≤◌, Bool, true, false, not, ◌&&◌, ◌||◌, cond, nat_eq, List}
use Rattle.std.proofs.Common.{[], ◌∷◌, ◌++◌, Some, map, filter, flat_map, refl, sym, ap, ◌∙◌, arith}
use Rattle.std.proofs.Common.{subst, append_assoc, if◌then◌else◌}
use Rattle.std.proofs.lemmas.Bool.{eqb-true}
use Rattle.std.proofs.lemmas.List.{append-nil}
use Rattle.std.proofs.lemmas.List.Elements.{filter-append}
use Rattle.std.specs.Prelude.{is_some}
use Rattle.std.specs.List.{AllByRecursion, list_any}
use Rattle.lake_values.specs.declared.names.Name.{Name}
use Rattle.sql_model.specs.declared.changes.Change.{Change}
use Rattle.sql_model.specs.declared.changes.Mark.{Mark}
use Rattle.sql_model.specs.declared.changes.MarkedRow.{MarkedRow}
use Rattle.sql_model.specs.Changes.{added_to, changed_table, committed, is_own, own, pend}
use Rattle.sql_model.specs.Changes.{removed_from, same_mark}
use Rattle.sql_model.specs.Units.{marks_of}
use Rattle.sql_model.specs.Listing.{weight, SameBag}
use Rattle.sql_model.specs.Versions.{Table}
use Rattle.lake_values.specs.Texts.{same_text}
use Rattle.sql_model.proofs.Bags.{weight_append}
use Rattle.sql_model.proofs.Lists.{all_append, all_weaker, all_both, all_filter}
use Rattle.sql_model.proofs.Sorting.{all_placed}
use Rattle.manifest_block.specs.declared.items.Item.{Item}
use Rattle.manifest_block.specs.declared.items.Item.TheVariants.{Add, Remove, SetVector}
use Rattle.table_snapshot.specs.declared.files.FileRow.{FileRow}
use Rattle.table_snapshot.specs.Files.{after_item, file_cmp, is_file, item_file, new_file, replay}
use Rattle.table_snapshot.specs.Files.{with_vector, without_file}
use Rattle.file_laws.specs.Contents.{Contents, mark_of, marked_live}
use Rattle.file_laws.specs.Marking.{HaveOwnNames, Removal, items_by, leaves_none, mark_items}
use Rattle.file_laws.specs.Marking.{removes_none}
use Rattle.file_laws.specs.Pends.{HaveOwnParts, SeesAfter}
use Rattle.file_laws.specs.Standing.{FilesStand, IsSeenBy, agrees}
use Rattle.file_laws.specs.StatementLaws.{AreNew, IsStatement, SeenAfterStatement, Written}
use Rattle.file_laws.specs.StatementLaws.{add_item, file_of}
use Rattle.file_laws.specs.Touching.{AddsOwn, MayTouch, adds_own, all_marked, is_marked, is_name_of}
use Rattle.file_laws.specs.Touching.{is_there, may_name}
use Rattle.file_laws.proofs.PendLaw.{added_own, filter_swap, pends_as_seen}
use Rattle.file_laws.proofs.ReplayLemmas.{mark_tells, name_self, name_tells, replay_append}
use Rattle.file_laws.proofs.StandLemmas.{all_flat, all_map, all_passed, not_marked, unmarked}
use Rattle.file_laws.proofs.StandLemmas.{each_weighs, mark_self, marked_append}
use Rattle.file_laws.proofs.StatementLaw.{loses_mark, marked_some, stands_after_addition}
use Rattle.file_laws.proofs.StatementLaw.{stands_after_removal}
use Rattle.file_laws.proofs.TouchLaw.{both_true}
use Rattle.file_laws.proofs.Weights.{weight_halves}

-- files that stand, over the same bag of rows and worn marks that are alike for the files
stand_for : (c : Contents) (table : List ℕ) (files : List FileRow) (rows rows' : List MarkedRow)
    (worn worn' : List Mark) → FilesStand c table files rows worn → SameBag rows rows'
    → ((m : Mark) → is_marked worn m ≡ is_marked worn' m) → FilesStand c table files rows' worn'
stand_for c table files rows rows' worn worn' stands same alike = record {
  same = λ g. stands.same g ∙ same g;
  vectors = all_weaker files
      (λ f was. ap (agrees (is_some f.vector)) (sym (alike (mark_of table f))) ∙ was)
      stands.vectors;
  filled = stands.filled;
  one_each = stands.one_each;
}

-- the files that a statement writes
adds_stand : (c : Contents) (table : List ℕ) (txn part : ℕ) (ws : List Written)
    (files : List FileRow) (rows : List MarkedRow) (worn : List Mark) → FilesStand c table files
    rows worn → AreNew c table txn part ws files worn
    → FilesStand c table (replay 0 (map (add_item table part) ws) files)
    (rows ++ flat_map (λ w. marked_live c table (file_of part w)) ws) worn
adds_stand c table txn part [] files rows worn stands new =
    subst (λ (ms : List MarkedRow). FilesStand c table files ms worn) (sym (append-nil rows)) stands
adds_stand c table txn part (w ∷ ws) files rows worn stands new =
    let first = stands_after_addition c table 0 w.cell part w.rows w.name files rows worn stands
    new.2 new.1 new.3 new.4 in
    let mine = marked_live c table (file_of part w) in
    let rest = flat_map (λ w. marked_live c table (file_of part w)) ws in
    subst (λ (ms : List MarkedRow). FilesStand c table
    (replay 0 (map (add_item table part) ws) (replay 0 (add_item table part w ∷ []) files))
    ms worn) (append_assoc rows mine rest)
    (adds_stand c table txn part ws (replay 0 (add_item table part w ∷ []) files) (rows ++ mine)
    worn first new.5)

-- where the files of a transaction come from: it wrote them, or its snapshot has them under the
-- same mark
comes_from : ℕ → List ℕ → List FileRow → FileRow → Bool
comes_from txn table files f =
    is_name_of txn f.file || list_any
    (λ g. is_file f.file g && same_mark (mark_of table f) (mark_of table g)) files

any_member : {X : Type 0} (xs : List X) → AllByRecursion
    (λ x. (p : X → Bool) → p x ≡ true → list_any p xs ≡ true) xs
any_member [] = tt
any_member (x ∷ xs) =
    (λ p e. rw e refl, all_weaker xs (λ y h p e. or_right (p x) (h p e)) (any_member xs))
  where
    or_right : (a : Bool) {b : Bool} → b ≡ true → (a || b) ≡ true
    or_right true e = refl
    or_right false e = e

module _ (txn : ℕ) (table : List ℕ) (files : List FileRow) where
  come_first : AllByRecursion (λ f. comes_from txn table files f ≡ true) files
  unfolding comes_from
  come_first = all_weaker files (λ f h. or_right (is_name_of txn f.file) (h
      (λ g. is_file f.file g && same_mark (mark_of table f) (mark_of table g))
      (rw (name_self f.file) (mark_self (mark_of table f))))) (any_member files)
    where
      or_right : (a : Bool) {b : Bool} → b ≡ true → (a || b) ≡ true
      or_right true e = refl
      or_right false e = e

  come_all : (items : List Item) → AddsOwn txn items → (fs : List FileRow) → AllByRecursion
      (λ f. comes_from txn table files f ≡ true) fs → AllByRecursion
      (λ f. comes_from txn table files f ≡ true) (replay 0 items fs)
  unfolding comes_from
  come_all [] own fs all = all
  come_all (i ∷ is) own fs all = come_all is own.1 (after_item 0 fs i) (one i own.0)
    where
      vector_all : (file vector : Name) (removed : ℕ) (gs : List FileRow) → AllByRecursion
          (λ f. comes_from txn table files f ≡ true) gs → AllByRecursion
          (λ f. comes_from txn table files f ≡ true) (map (with_vector file vector removed) gs)
      vector_all file vector removed [] all = tt
      vector_all file vector removed (f ∷ gs) all = (
        elim (is_file file f) as (λ b. comes_from txn table files
            (if b then record f { vector = Some (vector, removed) } else f) ≡ true)
            [ true ↦ all.0 | false ↦ all.0 ],
        vector_all file vector removed gs all.1,
      )

      one : (i : Item) → adds_own txn i ≡ true → AllByRecursion
          (λ f. comes_from txn table files f ≡ true) (after_item 0 fs i)
      one (Add t cell part file rows) mine = all_placed file_cmp
          (λ f. comes_from txn table files f ≡ true) (new_file 0 cell part file rows)
          (without_file file fs) (ap (λ (b : Bool). b || list_any (λ g. is_file file g && same_mark
          (mark_of table (new_file 0 cell part file rows)) (mark_of table g)) files) mine)
          (all_filter (λ f. comes_from txn table files f ≡ true) (λ f. not (is_file file f)) fs all)
      one (Remove t file) mine = all_filter (λ f. comes_from txn table files f ≡ true)
          (λ f. not (is_file file f)) fs all
      one (SetVector t file vector removed) mine = vector_all file vector removed fs all

-- a name that a file of this mark has may be named, where the mark is

none_marked : (table : List ℕ) (ms : List Mark) (name : Name) (files : List FileRow) →
    AllByRecursion (λ g. is_file name g ≡ false) files → all_marked table ms name files ≡ true
none_marked table ms name [] all = refl
none_marked table ms name (g ∷ gs) all = rw all.0 (none_marked table ms name gs all.1)

none_of : (m : Mark) (table : List ℕ) (name : Name) (files : List FileRow) → AllByRecursion
    (λ g. is_file name g ≡ false) files → list_any
    (λ g. is_file name g && same_mark m (mark_of table g)) files ≡ false
none_of m table name [] all = refl
none_of m table name (g ∷ gs) all = rw all.0 (none_of m table name gs all.1)

or_false : (a : Bool) {b : Bool} → b ≡ false → (a || b) ≡ true → a ≡ true
or_false true e h = refl
or_false false e h = sym e ∙ h

named_marked : (table : List ℕ) (ms : List Mark) (name : Name) (m : Mark) (files : List FileRow) →
    HaveOwnNames files → is_marked ms m ≡ true → list_any
    (λ g. is_file name g && same_mark m (mark_of table g)) files ≡ true
    → (is_there name files ≡ true) × (all_marked table ms name files ≡ true)
named_marked table ms name m [] own is e = absurd cc
named_marked table ms name m (g ∷ gs) own is e =
    elim (is_file name g) as (λ b. is_file name g ≡ b → (b && same_mark m (mark_of table g) ||
    list_any (λ g. is_file name g && same_mark m (mark_of table g)) gs) ≡ true
    → ((b || is_there name gs) ≡ true) ×
    (((not b || is_marked ms (mark_of table g)) && all_marked table ms name gs) ≡ true)) [
      | true ↦ λ h e.
          let others : AllByRecursion (λ x. is_file name x ≡ false) gs = all_weaker gs
          (λ x differ. ap (λ (n : Name). is_file n x) (name_tells name g.file h) ∙ differ) own.0
          in
          let same : same_mark m (mark_of table g) ≡ true = or_false (same_mark m (mark_of table g))
          (none_of m table name gs others) e in
          let mine : is_marked ms (mark_of table g) ≡ true = ap (is_marked ms)
          (sym (mark_tells m (mark_of table g) same)) ∙ is in
          (refl, rw mine (none_marked table ms name gs others))
      | false ↦ λ h e. named_marked table ms name m gs own.1 is e
    ] refl e

seq_kept : (table : List ℕ) (name : Name) (m : Mark) (files : List FileRow) → AllByRecursion
    (λ g. nat_eq g.seq 0 ≡ false) files → list_any
    (λ g. is_file name g && same_mark m (mark_of table g)) files ≡ true → nat_eq m.seq 0 ≡ false
seq_kept table name m [] all e = absurd cc
seq_kept table name m (g ∷ gs) all e =
    elim (is_file name g && same_mark m (mark_of table g)) as (λ b.
    (is_file name g && same_mark m (mark_of table g)) ≡ b →
    (b || list_any (λ g. is_file name g && same_mark m (mark_of table g)) gs) ≡ true → nat_eq
    m.seq 0 ≡ false) [
      | true ↦ λ h e. ap (λ (x : Mark). nat_eq x.seq 0) (mark_tells m (mark_of table g)
          (both_true (is_file name g) (same_mark m (mark_of table g)) h).1) ∙ all.0
      | false ↦ λ h e. seq_kept table name m gs all.1 e
    ] refl e

-- marks of rows

marks_append : (xs ys : List MarkedRow) (m : Mark) → is_marked (marks_of (xs ++ ys)) m ≡
    (is_marked (marks_of xs) m || is_marked (marks_of ys) m)
marks_append [] ys m = refl
marks_append (x ∷ xs) ys m =
    elim (same_mark m x.mark) as (λ b. (b || is_marked (marks_of (xs ++ ys)) m) ≡
    ((b || is_marked (marks_of xs) m) || is_marked (marks_of ys) m))
    [ true ↦ refl | false ↦ marks_append xs ys m ]

marks_halves : (rows : List MarkedRow) (m : Mark) → is_marked (marks_of rows) m ≡
    (is_marked (marks_of (committed rows)) m || is_marked (marks_of (own rows)) m)
marks_halves [] m = refl
marks_halves (r ∷ rs) m =
    elim (is_own r) as (λ b. (same_mark m r.mark || is_marked (marks_of rs) m) ≡ (is_marked
    (marks_of (cond (not b) (r ∷ committed rs) (committed rs))) m || is_marked
    (marks_of (cond b (r ∷ own rs) (own rs))) m)) [
      | true ↦ elim (same_mark m r.mark) as (λ b. (b || is_marked (marks_of rs) m) ≡
          (is_marked (marks_of (committed rs)) m || (b || is_marked (marks_of (own rs)) m))) [
            | true ↦ sym (or_true (is_marked (marks_of (committed rs)) m))
            | false ↦ marks_halves rs
                m
          ]
      | false ↦ elim (same_mark m r.mark) as (λ b. (b || is_marked (marks_of rs) m) ≡
          ((b || is_marked (marks_of (committed rs)) m) || is_marked (marks_of (own rs)) m))
          [ true ↦ refl | false ↦ marks_halves rs m ]
    ]
  where
    or_true : (a : Bool) → (a || true) ≡ true
    or_true true = refl
    or_true false = refl

abbrev weighs : Mark → List MarkedRow → ℕ
weighs m rows = weight (λ r. if same_mark m r.mark then 1 else 0) rows

marks_bag : (xs ys : List MarkedRow) → SameBag xs ys → (m : Mark) → is_marked (marks_of xs) m ≡
    is_marked (marks_of ys) m
marks_bag xs ys same m =
    elim (nat_eq (weighs m xs) 0) as
    (λ b. nat_eq (weighs m xs) 0 ≡ b → is_marked (marks_of xs) m ≡ is_marked (marks_of ys) m) [
      | true ↦ λ e. let none = eqb-true (weighs m xs) 0 e in unmarked m xs none ∙ sym
          (unmarked m ys (sym (same (λ r. if same_mark m r.mark then 1 else 0)) ∙ none))
      | false ↦ λ e. let some = positive (weighs m xs) e in marked_some m xs some ∙ sym
          (marked_some m ys (omega (arith, some, same (λ r. if same_mark m r.mark then 1 else 0))))
    ] refl
  where
    positive : (n : ℕ) → nat_eq n 0 ≡ false → 1 ≤ n
    positive n e = grind arith

five : (a b c d e : Bool) → (((a || b) || c) || (d || e)) ≡ ((a || (b || d)) || (c || e))
five true b c d e = refl
five false true c d e = refl
five false false true true e = refl
five false false true false e = refl
five false false false d e = refl

all_marked_more : (table : List ℕ) (ms ms' : List Mark) (name : Name) →
    ((m : Mark) → is_marked ms m ≡ true → is_marked ms' m ≡ true) → (files : List FileRow) →
    all_marked table ms name files ≡ true → all_marked table ms' name files ≡ true
all_marked_more table ms ms' name more [] e = refl
all_marked_more table ms ms' name more (g ∷ gs) e =
    let both = both_true (not (is_file name g) || is_marked ms (mark_of table g))
    (all_marked table ms name gs) e in
    let first : (not (is_file name g) || is_marked ms' (mark_of table g)) ≡ true =
    elim (is_file name g) as (λ b. (not b || is_marked ms (mark_of table g)) ≡ true →
    (not b || is_marked ms' (mark_of table g)) ≡ true)
    [ true ↦ λ h. more (mark_of table g) h | false ↦ λ h. refl ] both.0 in
    rw first (all_marked_more table ms ms' name more gs both.1)

may_more : (txn : ℕ) (table : List ℕ) (ms ms' : List Mark) (files : List FileRow) (name : Name) →
    ((m : Mark) → is_marked ms m ≡ true → is_marked ms' m ≡ true) → may_name txn table ms files name
    ≡ true → may_name txn table ms' files name ≡ true
may_more txn table ms ms' files name more e =
    elim (is_name_of txn name) as (λ b.
    (b || is_there name files && all_marked table ms name files) ≡ true →
    (b || is_there name files && all_marked table ms' name files) ≡ true) [
      | true ↦ λ e. refl
      | false ↦ λ e. let both = both_true (is_there name files) (all_marked table ms name files) e
          in rw both.0 (all_marked_more table ms ms' name more files both.1)
    ] e

module _ (c : Contents) (s : Table) (txn : ℕ) (files : List FileRow) (worn : List Mark)
    (items : List Item) (before change : Change) (own_worn : List Mark) (r : Removal) (part : ℕ)
    (ws : List Written)
    (seen : IsSeenBy c s.name txn files s.rows worn items (removed_from s before.removed)
    (flat_map (added_to s 0) before.added) own_worn)
    (kept_rows : AllByRecursion (λ m. is_own m ≡ false) s.rows)
    (kept_files : AllByRecursion (λ f. nat_eq f.seq 0 ≡ false) files)
    (parts : HaveOwnParts before.added) (names : HaveOwnNames files)
    (seen_names : HaveOwnNames (replay 0 items files)) (adds : AddsOwn txn items)
    (is : IsStatement c s txn (replay 0 items files)
    (worn ++ marks_of (removed_from s before.removed) ++ own_worn) before change r part ws)
  where
    abbrev V : List FileRow
    V = replay 0 items files

    abbrev gone : List MarkedRow
    gone = removed_from s before.removed

    abbrev mine : List MarkedRow
    mine = removed_from s change.removed

    abbrev vrows : List MarkedRow
    vrows = (changed_table 0 before s).rows

    abbrev goes : MarkedRow → Bool
    goes m = r.matches m.row

    abbrev worn_seen : List Mark
    worn_seen = worn ++ marks_of gone ++ own_worn

    abbrev gone_then : List MarkedRow
    gone_then = removed_from s (pend before change).removed

    abbrev mark_all : List Item
    mark_all = flat_map (mark_items c s.name r) V

    abbrev add_all : List Item
    add_all = map (add_item s.name part) ws

    sees : SeesAfter s before change
    sees = pends_as_seen s before change kept_rows seen.part parts (
      filter (λ m. not (goes m)) vrows,
      λ g. omega (
        arith,
        weight_append g mine (filter (λ m. not (goes m)) vrows),
        is.removes g,
        weight_halves goes g vrows,
      ),
    )

    gone_is : gone_then ≡ gone ++ committed mine
    gone_is = filter-append (λ m. same_text m.mark.table s.name) before.removed
        (committed change.removed) ∙ ap (λ (ms : List MarkedRow). gone ++ ms)
        (filter_swap (λ m. same_text m.mark.table s.name) (λ m. not (is_own m)) change.removed)

    marked_then : (m : Mark) → is_marked (marks_of gone_then) m ≡
        (is_marked (marks_of gone) m || is_marked (marks_of (committed mine)) m)
    marked_then m = ap (λ (ms : List MarkedRow). is_marked (marks_of ms) m) gone_is ∙ marks_append
        gone (committed mine) m

    more : (m : Mark) → is_marked (marks_of gone) m ≡ true → is_marked (marks_of gone_then) m ≡ true
    more m e = marked_then m ∙ ap (λ (b : Bool). b || is_marked (marks_of (committed mine)) m) e

    marked_goes : (m : Mark) → is_marked (marks_of (filter goes vrows)) m ≡
        (is_marked (marks_of (committed mine)) m || is_marked (marks_of (own mine)) m)
    marked_goes m = marks_bag (filter goes vrows) mine (λ g. sym (is.removes g)) m ∙ marks_halves
        mine
        m

    own_seqs : AllByRecursion (λ m. nat_eq m.seq 0 ≡ true) (marks_of (own mine))
    own_seqs = all_map (λ m. nat_eq m.seq 0 ≡ true) (λ (x : MarkedRow). x.mark) (own mine)
        (all_passed is_own mine)

    -- what a file of which rows are removed may be named for
    may_mark : (f : FileRow) → comes_from txn s.name files f ≡ true → is_marked
        (marks_of (filter goes vrows)) (mark_of s.name f) ≡ true → may_name txn s.name
        (marks_of gone_then) files f.file ≡ true
    unfolding comes_from
    may_mark f from lost =
        let m = mark_of s.name f in
        elim (is_name_of txn f.file) as (λ b.
        (b || list_any (λ g. is_file f.file g && same_mark m (mark_of s.name g)) files) ≡ true
        → (b || is_there f.file files && all_marked s.name (marks_of gone_then) f.file files) ≡
        true) [
          | true ↦ λ e. refl
          | false ↦ λ e.
              let not_own : nat_eq m.seq 0 ≡ false = seq_kept s.name f.file m files kept_files e in
              let no_own : is_marked (marks_of (own mine)) m ≡ false = not_marked
              (λ x. nat_eq x.seq 0 ≡ true) (marks_of (own mine)) m own_seqs
              (λ h. let no : true ≡ false = sym h ∙ not_own in absurd cc) in
              let here : is_marked (marks_of (committed mine)) m ≡ true = or_false
              (is_marked (marks_of (committed mine)) m) no_own (sym (marked_goes m) ∙ lost) in
              let marked : is_marked (marks_of gone_then) m ≡ true = marked_then m ∙ ap
              (λ (b : Bool). is_marked (marks_of gone) m || b) here ∙ or_true
              (is_marked (marks_of gone) m) in
              let both = named_marked s.name (marks_of gone_then) f.file m files names marked e in
              rw both.0 both.1
        ] from
      where
        or_true : (a : Bool) → (a || true) ≡ true
        or_true true = refl
        or_true false = refl

    marks_may : (a b : Bool) (f : FileRow) → removes_none c r f ≡ a →
        (removes_none c r f ≡ false → may_name txn s.name (marks_of gone_then) files f.file ≡ true)
        →
        MayTouch txn s.name (marks_of gone_then) files (items_by a b s.name r f)
    marks_may true b f none may = tt
    marks_may false true f none may = (may none, tt)
    marks_may false false f none may = (may none, tt)

    adds_may : (ws : List Written) (fs : List FileRow) (w : List Mark) → AreNew c s.name txn part ws
        fs w → MayTouch txn s.name (marks_of gone_then) files (map (add_item s.name part) ws)
    adds_may [] fs w new = tt
    adds_may (x ∷ xs) fs w new =
        (rw new.0 refl, adds_may xs (replay 0 (add_item s.name part x ∷ []) fs) w new.5)

    may_then : MayTouch txn s.name (marks_of gone_then) files (items ++ mark_all ++ add_all)
    may_then =
        let P : Item → Type 0 = λ i. may_name txn s.name (marks_of gone_then) files (item_file i) ≡
        true in
        all_append P (items ++ mark_all) add_all
        (all_append P items mark_all (all_weaker items (λ i e. may_more txn s.name (marks_of gone)
        (marks_of gone_then) files (item_file i) more e) seen.may)
        (all_flat P (mark_items c s.name r) V
        (all_both V (λ f from weighs. marks_may (removes_none c r f) (leaves_none c r f) f refl (λ
        some. may_mark f from (loses_mark c s.name 0 r V vrows worn_seen seen.stands
        seen_names is.vectors f weighs some)))
        (come_all txn s.name files items adds files (come_first txn s.name files))
        (each_weighs V))))
        (adds_may ws (replay 0 mark_all V) (worn_seen ++ marks_of (filter goes vrows)) is.written)

    stands_then : FilesStand c s.name (replay 0 (items ++ mark_all ++ add_all) files)
        (changed_table 0 (pend before change) s).rows
        (worn ++ marks_of gone_then ++ (own_worn ++ marks_of (own mine)))
    stands_then =
        let removed = stands_after_removal c s.name 0 r V vrows worn_seen seen.stands seen_names
        is.vectors in
        let new = flat_map (λ w. marked_live c s.name (file_of part w)) ws in
        let added = adds_stand c s.name txn part ws (replay 0 mark_all V)
        (filter (λ m. not (goes m)) vrows) (worn_seen ++ marks_of (filter goes vrows)) removed
        is.written in
        let files_are : replay 0 (items ++ mark_all ++ add_all) files ≡ replay 0 add_all
        (replay 0 mark_all V) = replay_append 0 (items ++ mark_all) add_all files ∙ ap
        (replay 0 add_all) (replay_append 0 items mark_all files) in
        subst (λ (fs : List FileRow). FilesStand c s.name fs
        (changed_table 0 (pend before change) s).rows
        (worn ++ marks_of gone_then ++ (own_worn ++ marks_of (own mine)))) (sym files_are)
        (stand_for c s.name (replay 0 add_all (replay 0 mark_all V))
        (filter (λ m. not (goes m)) vrows ++ new) (changed_table 0 (pend before change) s).rows
        (worn_seen ++ marks_of (filter goes vrows))
        (worn ++ marks_of gone_then ++ (own_worn ++ marks_of (own mine))) added
        (λ g. omega (
          arith,
          weight_append g (filter (λ m. not (goes m)) vrows) new,
          sees.weighs g,
          is.removes g,
          is.adds g,
          weight_halves goes g vrows,
        ))
        alike)
      where
        alike : (m : Mark) → is_marked (worn_seen ++ marks_of (filter goes vrows)) m ≡ is_marked
            (worn ++ marks_of gone_then ++ (own_worn ++ marks_of (own mine))) m
        alike m =
            let w = is_marked worn m in
            let g = is_marked (marks_of gone) m in
            let o = is_marked own_worn m in
            let cm = is_marked (marks_of (committed mine)) m in
            let om = is_marked (marks_of (own mine)) m in
            marked_append worn_seen (marks_of (filter goes vrows)) m
            ∙ (λ i. (marked_append (worn ++ marks_of gone) own_worn m ∙ ap (λ (b : Bool). b || o)
            (marked_append worn (marks_of gone) m)) i || marked_goes m i)
            ∙ five w g o cm om
            ∙ sym (marked_append (worn ++ marks_of gone_then) (own_worn ++ marks_of (own mine)) m ∙
            (
            λ i. (marked_append worn (marks_of gone_then) m ∙ ap (λ (b : Bool). w || b)
            (marked_then m)) i || marked_append own_worn (marks_of (own mine)) m i))

    seen_then : IsSeenBy c s.name txn files s.rows worn (items ++ mark_all ++ add_all) gone_then
        (flat_map (added_to s 0) (pend before change).added) (own_worn ++ marks_of (own mine))
    seen_then = record {
      may = may_then;
      none = seen.none;
      part = sees.part;
      own_rows = added_own s (pend before change).added;
      own_marks = all_append (λ m. nat_eq m.seq 0 ≡ true) own_worn (marks_of (own mine))
          seen.own_marks own_seqs;
      stands = stands_then;
    }

pub seen_after_statement : SeenAfterStatement
seen_after_statement c s txn files worn items before change own_worn r part ws seen kept_rows
    kept_files parts names seen_names adds is =
    seen_then c s txn files worn items before change own_worn r part ws seen kept_rows kept_files
    parts names seen_names adds is
