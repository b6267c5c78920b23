-- A change that is committed at a later version.
use Rattle.std.proofs.Common.{◌≡◌, ℕ, ◌+◌, ◌<◌, ◌≤◌, Bool, true, false, not, ◌||◌, ◌&&◌, nat_eq}
use Rattle.std.proofs.Common.{List, [], ◌∷◌, ◌++◌, map, refl, sym, ap, ◌∙◌, arith, subst}
use Rattle.std.proofs.Common.{if◌then◌else◌}
use Rattle.std.proofs.lemmas.Bool.{eqb-true, leb-true, le-leb}
use Rattle.std.specs.Prelude.{is_some, nat_le}
use Rattle.std.specs.List.{AllByRecursion}
use Rattle.lake_values.specs.declared.names.Name.{Name}
use Rattle.lake_values.specs.declared.values.Value.{Value}
use Rattle.sql_model.specs.declared.changes.Mark.{Mark}
use Rattle.sql_model.specs.declared.changes.MarkedRow.{MarkedRow}
use Rattle.sql_model.specs.Changes.{as_commit, is_nil, is_own, marked_cmp, same_mark, without}
use Rattle.sql_model.specs.Units.{marks_of}
use Rattle.sql_model.specs.Listing.{weight, SameBag}
use Rattle.sql_model.proofs.Bags.{weight_append}
use Rattle.sql_model.proofs.Lists.{all_append, all_weaker, all_both, all_filter}
use Rattle.lake_model.proofs.Pending.{part_all}
use Rattle.manifest_block.specs.declared.items.Item.{Item}
use Rattle.table_snapshot.specs.declared.files.FileRow.{FileRow}
use Rattle.table_snapshot.specs.Files.{item_file, is_file, replay}
use Rattle.file_laws.specs.Contents.{Contents, live_of, mark_of, with_mark, marked_live, rows_in}
use Rattle.file_laws.specs.Contents.{file_as, row_as}
use Rattle.file_laws.specs.Laws.{named, StandsAfterCommit}
use Rattle.file_laws.specs.Standing.{agrees, files_marked, FilesStand, AreUpTo, IsSeenBy}
use Rattle.file_laws.specs.Touching.{is_marked, is_name_of, is_there, all_marked, may_name}
use Rattle.file_laws.specs.Touching.{is_touched}
use Rattle.file_laws.proofs.RebaseLaw.{rebases, of, weigh, all_true, all_false}
use Rattle.file_laws.proofs.ReplayLemmas.{mark_tells, name_self, replay_elsewhere, replay_same}
use Rattle.file_laws.proofs.ReplayLemmas.{replay_as, committed_as}
use Rattle.file_laws.proofs.StandLemmas.{all_bag, all_halves, all_map, all_passed, all_diagonal}
use Rattle.file_laws.proofs.StandLemmas.{weight_up_to, each_weighs, replay_all, replay_less}
use Rattle.file_laws.proofs.StandLemmas.{same_as, marked_append, not_marked, mark_self, marked_as}
use Rattle.file_laws.proofs.StandLemmas.{unmarked}
use Rattle.file_laws.proofs.TouchLaw.{both_true, all_there, may_touched, touched_self}
use Rattle.file_laws.proofs.Weights.{weight_map, weight_filter, weight_halves, weight_without}

pub not_zero : (n : ℕ) → 0 < n → nat_eq n 0 ≡ false
not_zero n less =
    elim (nat_eq n 0) as (λ b. nat_eq n 0 ≡ b → b ≡ false)
    [ true ↦ λ e. absurd (omega (arith, eqb-true n 0 e)) | false ↦ λ e. refl ] refl

other_seq : (m k : Mark) → (m.seq ≡ k.seq → ⊥) → same_mark m k ≡ false
other_seq m k differ =
    elim (same_mark m k) as (λ b. same_mark m k ≡ b → b ≡ false) [
      | true ↦ λ e. absurd
          (differ (ap (λ (x : Mark). x.seq) (mark_tells m k e)))
      | false ↦ λ e. refl
    ] refl

one_up : (b : Bool) → (if b then 1 else 0) ≤ 1
one_up true = omega arith
one_up false = omega arith

-- what holds of the marks of files holds of the marks of their rows
all_live : (c : Contents) (table : List ℕ) (q : Mark → Bool) (files : List FileRow) → AllByRecursion
    (λ f. q (mark_of table f) ≡ true) files → AllByRecursion (λ m. q m.mark ≡ true)
    (rows_in c table files)
all_live c table q [] all = tt
all_live c table q (f ∷ fs) all =
    all_append (λ m. q m.mark ≡ true) (marked_live c table f) (rows_in c table fs) (all_map
    (λ m. q m.mark ≡ true) (with_mark (mark_of table f)) (live_of c f) (each (live_of c f)))
    (all_live c table q fs all.1)
  where
    each : (rows : List (List Value)) → AllByRecursion
        (λ row. q (with_mark (mark_of table f) row).mark ≡ true) rows
    each [] = tt
    each (r ∷ rs) = (all.0, each rs)

pub rows_live : (c : Contents) (table : List ℕ) (q : Mark → Bool) (files : List FileRow)
    (rows : List MarkedRow) → SameBag (rows_in c table files) rows → AllByRecursion
    (λ f. q (mark_of table f) ≡ true) files → AllByRecursion (λ m. q m.mark ≡ true) rows
rows_live c table q files rows same all =
    all_bag (λ m. q m.mark) rows (rows_in c table files) (λ g. sym (same g))
    (all_live c table q files all)

pub committed_rows : (c : Contents) (table : List ℕ) (files : List FileRow) (rows : List MarkedRow)
    → AllByRecursion (λ f. nat_eq f.seq 0 ≡ false) files → SameBag (rows_in c table files) rows →
    AllByRecursion (λ m. is_own m ≡ false) rows
committed_rows c table files rows all same =
    all_false rows (rows_live c table (λ m. not (nat_eq m.seq 0)) files rows same
    (all_weaker files (λ f e. ap not e) all))

-- files without the mark have no row of it
pub none_live : (c : Contents) (table : List ℕ) (mark : Mark) (files : List FileRow) → files_marked
    table mark files ≡ 0 → weight (of c table (λ r. if same_mark mark r.mark then 1 else 0)) files ≡
    0
unfolding of
none_live c table mark [] e = refl
none_live c table mark (f ∷ fs) e =
    elim (same_mark mark (mark_of table f)) as (λ b. same_mark mark (mark_of table f) ≡ b →
    (if b then 1 else 0) + files_marked table mark fs ≡ 0
    → weight (λ r. if same_mark mark r.mark then 1 else 0) (marked_live c table f) + weight
    (of c table (λ r. if same_mark mark r.mark then 1 else 0)) fs ≡ 0) [
      | true ↦ λ h e. absurd (omega (arith, e))
      | false ↦ λ h e.
          let rest = none_live c table mark fs (omega (arith, e)) in
          let mine = weight_map (with_mark (mark_of table f))
          (λ r. if same_mark mark r.mark then 1 else 0) (live_of c f) ∙
          (λ i. weight (λ row. if h i then 1 else 0) (live_of c f)) ∙ nothing (live_of c f) in
          omega (arith, rest, mine)
    ] refl e
  where
    nothing : (rows : List (List Value)) → weight (λ row. 0) rows ≡ 0
    nothing [] = refl
    nothing (r ∷ rs) = omega (arith, nothing rs)

pub weight_nothing : {X : Type 0} (g : X → ℕ) (xs : List X) → AllByRecursion (λ x. g x ≡ 0) xs →
    weight g xs ≡ 0
weight_nothing g [] all = refl
weight_nothing g (x ∷ xs) all = omega (arith, all.0, weight_nothing g xs all.1)

module _ (c : Contents) (table : List ℕ) (txn snapshot last : ℕ) (items : List Item)
    (files : List FileRow) (rows : List MarkedRow) (worn : List Mark) (later : List FileRow)
    (later_rows : List MarkedRow) (later_worn : List Mark)
    (removed added : List MarkedRow) (own_worn : List Mark)
    (order : snapshot ≤ last) (before : FilesStand c table files rows worn)
    (before_up : AreUpTo snapshot files worn)
    (now : FilesStand c table later later_rows later_worn)
    (now_up : AreUpTo last later later_worn)
    (seen : IsSeenBy c table txn files rows worn items removed added own_worn)
    (kept : named (is_touched items) later ≡ named (is_touched items) files) where
  abbrev T : Name → Bool
  T = is_touched items

  abbrev U : Name → Bool
  U name = not (is_touched items name)

  abbrev V : List FileRow
  V = replay 0 items files

  abbrev R : List FileRow
  R = replay 0 items later

  names : AllByRecursion (λ i. T (item_file i) ≡ true) items
  names = touched_self items

  same_T : SameBag (named T R) (named T V)
  same_T = replay_same (is_touched items) 0 items later files (λ h. ap (weight h) kept)

  other_R : named U R ≡ named U later
  other_R = replay_elsewhere (λ name. not (is_touched items name)) 0 items later
      (all_weaker items (λ i e. ap not e) (touched_self items))

  other_V : named U V ≡ named U files
  other_V = replay_elsewhere (λ name. not (is_touched items name)) 0 items files
      (all_weaker items (λ i e. ap not e) (touched_self items))

  -- what holds of the files that the items name and of the other later files
  all_R : (q : FileRow → Bool) → AllByRecursion (λ f. q f ≡ true) (named T V) → AllByRecursion
      (λ f. q f ≡ true) (named U later) → AllByRecursion (λ f. q f ≡ true) R
  all_R q mine theirs =
      all_halves (λ f. q f ≡ true) (λ f. T f.file) R (all_bag q (named T R) (named T V) same_T mine)
      (subst (λ (fs : List FileRow). AllByRecursion (λ f. q f ≡ true) fs) (sym other_R) theirs)

  before_kept : AllByRecursion (λ f. nat_eq f.seq 0 ≡ false) files
  before_kept = all_weaker files (λ f both. not_zero f.seq both.0) before_up.of_files

  now_kept : AllByRecursion (λ f. nat_eq f.seq 0 ≡ false) later
  now_kept = all_weaker later (λ f both. not_zero f.seq both.0) now_up.of_files

  kept_rows : AllByRecursion (λ m. is_own m ≡ false) rows
  kept_rows = committed_rows c table files rows before_kept before.same

  removed_rows : AllByRecursion (λ m. is_own m ≡ false) removed
  removed_rows = all_false removed
      (part_all (λ m. not (is_own m)) removed rows seen.part (all_true rows kept_rows))

  new_same : SameBag (rows_in c table (replay (last + 1) items later))
      (without marked_cmp later_rows removed ++ map (row_as (last + 1)) added)
  new_same =
      rebases c table (is_touched items) items (last + 1) files rows later later_rows removed added
      (record { kept_files = before_kept; kept_rows = kept_rows; same = before.same })
      (record {
        kept_files = now_kept;
        kept_rows = committed_rows c table later later_rows now_kept
            now.same;
        same = now.same;
      })
      (record {
        names = touched_self items;
        part = seen.part;
        own = seen.own_rows;
        same =
            seen.stands.same;
      })
      (λ h. ap (weight h) kept)

  -- the snapshot's files that the items name have a mark of a row that was removed
  marked_before : AllByRecursion
      (λ f. T f.file ≡ true → is_marked (marks_of removed) (mark_of table f) ≡ true) files
  marked_before =
      all_both files (λ f other diagonal touched. shown f (diagonal (touched, other))) seen.none
      (all_diagonal (λ f. (T f.file ≡ true) × (is_name_of txn f.file ≡ false))
      (λ f g. (not (is_file f.file g) || is_marked (marks_of removed) (mark_of table g)) ≡ true)
      files
      (λ f both. all_there
      (λ g. not (is_file f.file g) || is_marked (marks_of removed) (mark_of table g)) files
      (named_right f.file both.1
      (may_touched txn table (marks_of removed) files items seen.may f.file both.0))))
    where
      shown : (f : FileRow) →
          (not (is_file f.file f) || is_marked (marks_of removed) (mark_of table f)) ≡ true →
          is_marked (marks_of removed) (mark_of table f) ≡ true
      shown f e = ap (λ (b : Bool). not b || is_marked (marks_of removed) (mark_of table f))
          (sym (name_self f.file)) ∙ e

      named_right : (name : Name) → is_name_of txn name ≡ false → may_name txn table
          (marks_of removed) files name ≡ true → all_marked table (marks_of removed) name files ≡
          true
      named_right name other may = (both_true (is_there name files)
          (all_marked table (marks_of removed) name files) (ap (λ (b : Bool). b || is_there name
          files && all_marked table (marks_of removed) name files) (sym other) ∙ may)).1

  -- what the items make of them: the transaction's own files, and such files
  marked_seen : AllByRecursion (λ f. T f.file ≡ true →
      (nat_eq f.seq 0 || is_marked (marks_of removed) (mark_of table f)) ≡ true) V
  marked_seen =
      replay_all (λ f. T f.file ≡ true →
      (nat_eq f.seq 0 || is_marked (marks_of removed) (mark_of table f)) ≡ true) T 0
      (λ f vector removed h. h) (λ cell part rows file touched _. refl) items names files
      (all_weaker files (λ f h touched. or_true (nat_eq f.seq 0) (h touched)) marked_before)
    where
      or_true : (a : Bool) {b : Bool} → b ≡ true → (a || b) ≡ true
      or_true true e = refl
      or_true false e = e

  seqs_seen : AllByRecursion (λ f. f.seq ≤ snapshot) V
  seqs_seen = replay_all (λ f. f.seq ≤ snapshot) T 0 (λ f vector removed h. h)
      (λ cell part rows file touched. omega arith) items names files
      (all_weaker files (λ f both. both.1) before_up.of_files)

  removed_up : AllByRecursion (λ m. (0 < m.seq) × (m.seq ≤ snapshot)) (marks_of removed)
  removed_up =
      all_map (λ m. (0 < m.seq) × (m.seq ≤ snapshot)) (λ (r : MarkedRow). r.mark) removed
      (all_both removed (λ r own up. (above r.mark.seq own, leb-true r.mark.seq snapshot up))
      removed_rows
      (part_all (λ r. nat_le r.mark.seq snapshot) removed rows seen.part (rows_live c table
      (λ m. nat_le m.seq snapshot) files rows before.same
      (all_weaker files (λ f both. le-leb f.seq snapshot both.1) before_up.of_files))))
    where
      above : (n : ℕ) → nat_eq n 0 ≡ false → 0 < n
      above n e = grind arith

  -- no other file has a mark of a row that was removed
  others_unmarked : AllByRecursion (λ f. is_marked (marks_of removed) (mark_of table f) ≡ false)
      (named U later)
  others_unmarked = all_both (named U later)
      (λ f weighs both. unmarked (mark_of table f) removed (none f both.0 weighs))
      (each_weighs (named U later))
      (all_filter (λ f. (0 < f.seq) × (f.seq ≤ last)) (λ f. U f.file) later now_up.of_files)
    where
      none : (f : FileRow) → 0 < f.seq → ((k : FileRow → ℕ) → k f ≤ weight k (named U later)) →
          weight (λ r. if same_mark (mark_of table f) r.mark then 1 else 0) removed ≡ 0
      none f up weighs =
          let m = mark_of table f in
          let k : MarkedRow → ℕ = λ r. if same_mark m r.mark then 1 else 0 in
          let h : FileRow → ℕ = of c table k in
          let one : ◌≡◌ {A = ℕ} (if same_mark m m then 1 else 0) 1 = ap
          (λ (b : Bool). if b then 1 else 0) (mark_self m) in
          let there = weighs (λ g. if same_mark m (mark_of table g) then 1 else 0) in
          let halves = weight_halves (λ (g : FileRow). T g.file)
          (λ (g : FileRow). if same_mark m (mark_of table g) then 1 else 0) later in
          let mine : files_marked table m (named T later) ≡ 0 = omega
          (arith, one, there, halves, now.one_each m) in
          let live : weight h (named T later) ≡ 0 = none_live c table m (named T later) mine in
          let live_before : weight h (named T files) ≡ 0 = ap (weight h) (sym kept) ∙ live in
          let e1 = weight_halves (λ (g : FileRow). T g.file) h V in
          let e2 = weight_halves (λ (g : FileRow). T g.file) h files in
          let e3 : weight h (named U V) ≡ weight h (named U files) = ap (weight h) other_V in
          let own : weight k added ≡ 0 = weight_nothing k added (all_weaker added (λ r e. ap
          (λ (b : Bool). if b then 1 else 0)
          (other_seq m r.mark (λ same. omega (arith, up, same, eqb-true r.mark.seq 0 e))))
          seen.own_rows) in
          omega (
            arith,
            live_before,
            e1,
            e2,
            e3,
            own,
            weigh c table k V,
            weigh c table k files,
            before.same k,
            seen.stands.same k,
            weight_append k
                (without marked_cmp rows removed) added,
            weight_without removed rows seen.part k,
          )

  new_filled : AllByRecursion (λ f. is_nil (live_of c f) ≡ false) R
  new_filled =
      all_weaker R (λ f e. back (is_nil (live_of c f)) e)
      (all_R (λ f. not (is_nil (live_of c f)))
      (all_filter (λ f. not (is_nil (live_of c f)) ≡ true) (λ f. T f.file) V
      (all_weaker V (λ f e. ap not e) seen.stands.filled))
      (all_filter (λ f. not (is_nil (live_of c f)) ≡ true) (λ f. U f.file) later
      (all_weaker later (λ f e. ap not e) now.filled)))
    where
      back : (b : Bool) → not b ≡ true → b ≡ false
      back true e = sym e
      back false e = refl

  abbrev new_worn : List Mark
  new_worn = later_worn ++ marks_of removed ++ map (as_commit (last + 1)) own_worn

  three : (xs ys zs : List Mark) (m : Mark) → is_marked (xs ++ ys ++ zs) m ≡
      ((is_marked xs m || is_marked ys m) || is_marked zs m)
  three xs ys zs m = marked_append (xs ++ ys) zs m ∙ ap (λ (b : Bool). b || is_marked zs m)
      (marked_append xs ys m)

  abbrev wears : FileRow → Bool
  wears f = agrees (is_some f.vector) (is_marked new_worn (mark_of table (file_as (last + 1) f)))

  -- a file of the transaction
  own_same : (f : FileRow) → nat_eq f.seq 0 ≡ true → is_marked new_worn
      (mark_of table (file_as (last + 1) f)) ≡ is_marked (worn ++ marks_of removed ++ own_worn)
      (mark_of table f)
  own_same f e =
      let m = mark_of table f in
      let zero_is : f.seq ≡ 0 = eqb-true f.seq 0 e in
      let new : mark_of table (file_as (last + 1) f) ≡ as_commit (last + 1) m = λ i. as_commit
      (if e i then last + 1 else f.seq) m in
      let a1 = not_marked (λ x. x.seq ≤ last) later_worn (as_commit (last + 1) m)
      (all_weaker later_worn (λ x both. both.1) now_up.of_worn) (λ h. omega (arith, h)) in
      let a2 = not_marked (λ x. x.seq ≤ last) (marks_of removed) (as_commit (last + 1) m)
      (all_weaker (marks_of removed) (λ x both. omega (arith, both.1, order)) removed_up)
      (λ h. omega (arith, h)) in
      let b1 = not_marked (λ x. 0 < x.seq) worn m
      (all_weaker worn (λ x both. both.0) before_up.of_worn) (λ h. omega (arith, h, zero_is)) in
      let b2 = not_marked (λ x. 0 < x.seq) (marks_of removed) m
      (all_weaker (marks_of removed) (λ x both. both.0) removed_up)
      (λ h. omega (arith, h, zero_is)) in
      ap (is_marked new_worn) new ∙ three later_worn (marks_of removed)
      (map (as_commit (last + 1)) own_worn) (as_commit (last + 1) m)
      ∙ (λ i. (a1 i || a2 i) || marked_as (last + 1) own_worn m seen.own_marks zero_is i) ∙
      (λ i. (sym b1 i || sym b2 i) || is_marked own_worn m)
      ∙ sym (three worn (marks_of removed) own_worn m)

  -- a committed file of which the transaction removed a row
  kept_same : (f : FileRow) → nat_eq f.seq 0 ≡ false → is_marked (marks_of removed)
      (mark_of table f) ≡ true → is_marked new_worn (mark_of table (file_as (last + 1) f)) ≡
      is_marked (worn ++ marks_of removed ++ own_worn) (mark_of table f)
  kept_same f e marked =
      let m = mark_of table f in
      let new : mark_of table (file_as (last + 1) f) ≡ m = λ i. as_commit
      (if e i then last + 1 else f.seq) m in
      ap (is_marked new_worn) new ∙ three later_worn (marks_of removed)
      (map (as_commit (last + 1)) own_worn) m ∙ holds (is_marked later_worn m) marked
      (is_marked (map (as_commit (last + 1)) own_worn) m)
      ∙ sym (three worn (marks_of removed) own_worn m ∙ holds (is_marked worn m) marked
      (is_marked own_worn m))
    where
      holds : (a : Bool) {b : Bool} → b ≡ true → (d : Bool) → ((a || b) || d) ≡ true
      holds true e d = refl
      holds false e d = ap (λ (b : Bool). b || d) e

  touched_wears : (f : FileRow) → agrees (is_some f.vector)
      (is_marked (worn ++ marks_of removed ++ own_worn) (mark_of table f)) ≡ true →
      (nat_eq f.seq 0 || is_marked (marks_of removed) (mark_of table f)) ≡ true → wears f ≡ true
  touched_wears f was marked =
      elim (nat_eq f.seq 0) as (λ b. nat_eq f.seq 0 ≡ b →
      (b || is_marked (marks_of removed) (mark_of table f)) ≡ true → wears f ≡ true) [
        | true ↦ λ e _. ap (agrees (is_some f.vector)) (own_same f e) ∙ was
        | false ↦ λ e marked. ap (agrees (is_some f.vector)) (kept_same f e marked) ∙ was
      ] refl marked

  other_wears : (f : FileRow) → agrees (is_some f.vector) (is_marked later_worn (mark_of table f)) ≡
      true → is_marked (marks_of removed) (mark_of table f) ≡ false → (0 < f.seq) × (f.seq ≤ last) →
      wears f ≡ true
  other_wears f was free up =
      let m = mark_of table f in
      let e : nat_eq f.seq 0 ≡ false = not_zero f.seq up.0 in
      let new : mark_of table (file_as (last + 1) f) ≡ m = λ i. as_commit
      (if e i then last + 1 else f.seq) m in
      let own = not_marked (λ x. x.seq ≡ last + 1) (map (as_commit (last + 1)) own_worn) m (all_map
      (λ x. x.seq ≡ last + 1) (as_commit (last + 1)) own_worn
      (all_weaker own_worn (λ x _. refl) seen.own_marks)) (λ h. omega (arith, h, up.1)) in
      ap (agrees (is_some f.vector)) (ap (is_marked new_worn) new ∙ three later_worn
      (marks_of removed) (map (as_commit (last + 1)) own_worn) m ∙
      (λ i. (is_marked later_worn m || free i) || own i) ∙ nothing (is_marked later_worn m)) ∙
      was
    where
      nothing : (a : Bool) → ((a || false) || false) ≡ a
      nothing true = refl
      nothing false = refl

  new_vectors : AllByRecursion (λ f. wears f ≡ true) R
  new_vectors =
      all_R wears
      (all_both (named T V) (λ f touched wears. wears touched) (all_passed (λ f. T f.file) V)
      (all_filter (λ f. T f.file ≡ true → wears f ≡ true) (λ f. T f.file) V (all_both V
      (λ f was marked touched. touched_wears f was (marked touched)) seen.stands.vectors
      marked_seen)))
      (all_both (named U later) (λ f wears up. wears up)
      (all_both {R = λ f. (0 < f.seq) × (f.seq ≤ last) → wears f ≡ true} (named U later)
      (λ f was free up. other_wears f was free up) (all_filter
      (λ f. agrees (is_some f.vector) (is_marked later_worn (mark_of table f)) ≡ true)
      (λ f. U f.file) later now.vectors) others_unmarked)
      (all_filter (λ f. (0 < f.seq) × (f.seq ≤ last)) (λ f. U f.file) later now_up.of_files))

  -- how many files have the mark, before and after what isn't committed becomes the new commit's
  abbrev counts : Mark → FileRow → ℕ
  counts mark f = if same_mark mark (mark_of table f) then 1 else 0

  abbrev counts_new : Mark → FileRow → ℕ
  counts_new mark f = if same_mark mark (mark_of table (file_as (last + 1) f)) then 1 else 0

  abbrev one_if : Bool → ℕ
  one_if b = if b then 1 else 0

  counts_kept : (mark : Mark) (f : FileRow) → nat_eq f.seq 0 ≡ false → counts_new mark f ≡ counts
      mark f
  counts_kept mark f e = λ i. if same_mark mark
      (as_commit (if e i then last + 1 else f.seq) (mark_of table f)) then 1 else 0

  counts_own : (mark : Mark) (f : FileRow) → nat_eq f.seq 0 ≡ true → counts_new mark f ≡
      (if same_mark mark (as_commit (last + 1) (mark_of table f)) then 1 else 0)
  counts_own mark f e = λ i. if same_mark mark
      (as_commit (if e i then last + 1 else f.seq) (mark_of table f)) then 1 else 0

  counts_other : (mark : Mark) (f : FileRow) → (mark.seq ≡ f.seq → ⊥) → counts mark f ≡ 0
  counts_other mark f differ = ap (λ (b : Bool). if b then 1 else 0)
      (other_seq mark (mark_of table f) differ)

  one_new : (mark : Mark) → mark.seq ≡ last + 1 → weight (counts_new mark) (named T V) + weight
      (counts_new mark) (named U later) ≤ 1
  one_new mark is =
      let own = as_commit 0 mark in
      let back : as_commit (last + 1) own ≡ mark = λ i. as_commit (sym is i) mark in
      let mine = weight_up_to (counts_new mark) (counts own) (named T V)
      (all_filter (λ f. counts_new mark f ≤ counts own f) (λ f. T f.file) V (all_weaker V (λ f up.
      elim (nat_eq f.seq 0) as (λ b. nat_eq f.seq 0 ≡ b → counts_new mark f ≤ counts own f) [
        | true ↦ λ e.
            let same : same_mark mark (as_commit (last + 1) (mark_of table f)) ≡ same_mark own
            (mark_of table f) = ap
            (λ (m : Mark). same_mark m (as_commit (last + 1) (mark_of table f))) (sym back) ∙
            same_as (last + 1) own (mark_of table f) refl (eqb-true f.seq 0 e) in
            omega (arith, counts_own mark f e, ap one_if same)
        | false ↦ λ e. omega (
          arith,
          counts_kept mark f e,
          counts_other mark f
              (λ h. omega (arith, h, is, up, order)),
        )
      ] refl) seqs_seen)) in
      let theirs = weight_nothing (counts_new mark) (named U later) (all_filter
      (λ f. counts_new mark f ≡ 0) (λ f. U f.file) later (all_weaker later (λ f up.
      counts_kept mark f (not_zero f.seq up.0) ∙ counts_other mark f
      (λ h. omega (arith, h, is, up.1))) now_up.of_files)) in
      omega (
        arith,
        mine,
        theirs,
        weight_halves (λ (f : FileRow). T f.file) (counts own) V,
        seen.stands.one_each own,
      )

  one_old : (mark : Mark) → (mark.seq ≡ last + 1 → ⊥) → weight (counts_new mark) (named T V) +
      weight (counts_new mark) (named U later) ≤ 1
  one_old mark differ =
      let held = λ (f : FileRow). if nat_eq f.seq 0 then 0 else if T f.file then counts mark f else
      0 in
      let mine = weight_filter (λ (f : FileRow). T f.file) (counts_new mark) V in
      let less = weight_up_to (λ f. if T f.file then counts_new mark f else 0) held V (all_weaker V
      (λ f _.
      elim (nat_eq f.seq 0) as (λ b. nat_eq f.seq 0 ≡ b →
      (if T f.file then counts_new mark f else 0) ≤
      (if b then 0 else if T f.file then counts mark f else 0)) [
        | true ↦ λ e.
            let none : counts_new mark f ≡ 0 = counts_own mark f e ∙ ap
            (λ (b : Bool). if b then 1 else 0)
            (other_seq mark (as_commit (last + 1) (mark_of table f)) differ) in
            omega (arith, none, if_up (T f.file) (counts_new mark f))
        | false ↦ λ e. up_to (T f.file) (counts_new mark f) (counts mark f)
            (omega (arith, counts_kept mark f e))
      ] refl) seqs_seen) in
      let before_less = replay_less held 0 (λ f vector removed. refl) (λ cell part rows file. refl)
      items files in
      let in_files = weight_up_to held (λ f. if T f.file then counts mark f else 0) files
      (all_weaker files (λ f both. omega (
        arith,
        ap
            (λ (b : Bool). if b then 0 else if T f.file then counts mark f else 0)
            (not_zero f.seq both.0),
      )) before_up.of_files) in
      let in_named = weight_filter (λ (f : FileRow). T f.file) (counts mark) files in
      let same : weight (counts mark) (named T later) ≡ weight (counts mark) (named T files) = ap
      (weight (counts mark)) kept in
      let theirs = weight_up_to (counts_new mark) (counts mark) (named U later) (all_filter
      (λ f. counts_new mark f ≤ counts mark f) (λ f. U f.file) later (all_weaker later
      (λ f up. omega (arith, counts_kept mark f (not_zero f.seq up.0))) now_up.of_files)) in
      omega (
        arith,
        mine,
        less,
        before_less,
        in_files,
        in_named,
        same,
        theirs,
        weight_halves
            (λ (f : FileRow). T f.file) (counts mark) later,
        now.one_each mark,
      )
    where
      up_to : (b : Bool) (m n : ℕ) → m ≤ n → (if b then m else 0) ≤ (if b then n else 0)
      up_to true m n up = up
      up_to false m n up = omega arith

      if_up : (b : Bool) (m : ℕ) → (if b then m else 0) ≤ m
      if_up true m = omega arith
      if_up false m = omega arith

  new_one_each : (mark : Mark) → files_marked table mark (map (file_as (last + 1)) R) ≤ 1
  new_one_each mark =
      let e1 = weight_map (file_as (last + 1)) (counts mark) R in
      let e2 = weight_halves (λ (f : FileRow). T f.file) (counts_new mark) R in
      let e3 = same_T (counts_new mark) in
      let e4 : weight (counts_new mark) (named U R) ≡ weight (counts_new mark) (named U later) = ap
      (weight (counts_new mark)) other_R in
      let one = elim (nat_eq mark.seq (last + 1)) as (λ b. nat_eq mark.seq (last + 1) ≡ b → weight
      (counts_new mark) (named T V) + weight (counts_new mark) (named U later) ≤ 1) [
        | true ↦ λ e. one_new mark (eqb-true mark.seq (last + 1) e)
        | false ↦ λ e. one_old mark (λ h. differ mark.seq (last + 1) h e)
      ] refl in
      omega (arith, e1, e2, e3, e4, one)
    where
      differ : (m n : ℕ) → m ≡ n → nat_eq m n ≡ false → ⊥
      differ m n same e = grind arith

  made : FilesStand c table (replay (last + 1) items later)
      (without marked_cmp later_rows removed ++ map (row_as (last + 1)) added)
      (later_worn ++ marks_of removed ++ map (as_commit (last + 1)) own_worn)
  made =
      let as_files : map (file_as (last + 1)) R ≡ replay (last + 1) items later = replay_as
      (last + 1) items later ∙ ap (replay (last + 1) items)
      (committed_as (last + 1) later now_kept) in
      record {
        same = new_same;
        vectors = subst (λ (fs : List FileRow). AllByRecursion
            (λ f. agrees (is_some f.vector) (is_marked new_worn (mark_of table f)) ≡ true) fs)
            as_files (all_map
            (λ f. agrees (is_some f.vector) (is_marked new_worn (mark_of table f)) ≡ true)
            (file_as (last + 1)) R new_vectors);
        filled = subst
            (λ (fs : List FileRow). AllByRecursion (λ f. is_nil (live_of c f) ≡ false) fs) as_files
            (all_map (λ f. is_nil (live_of c f) ≡ false) (file_as (last + 1)) R new_filled);
        one_each = λ mark. subst (λ (fs : List FileRow). files_marked table mark fs ≤ 1) as_files
            (new_one_each mark);
      }

pub stands_after_commit : StandsAfterCommit
stands_after_commit c table txn snapshot last items files rows worn later later_rows later_worn
    removed added own_worn order before before_up now now_up seen kept =
    made c table txn snapshot last items files rows worn later later_rows later_worn removed added
    own_worn order before before_up now now_up seen kept
