-- The marks that a compaction replaces, and the tables that it leaves.
use Rattle.std.proofs.Common.{◌≡◌, ℕ, ◌+◌, ◌≤◌, Bool, true, false, not, ◌||◌, cond, List, [], ◌∷◌}
use Rattle.std.proofs.Common.{Some, map, filter, refl, sym, ap, ◌∙◌, subst, arith, if◌then◌else◌}
use Rattle.std.specs.Ordering.{is_gt}
use Rattle.std.specs.Option.{option_map_or}
use Rattle.std.specs.List.{AllByRecursion, list_any, list_all}
use Rattle.lake_values.specs.declared.names.Name.{Name}
use Rattle.sql_model.specs.declared.changes.Mark.{Mark}
use Rattle.sql_model.specs.Changes.{mark_cmp, same_mark}
use Rattle.lake_model.specs.Compactions.{compacted_table, each_once, replaced}
use Rattle.sql_model.specs.Listing.{ordered, placed}
use Rattle.lake_values.specs.Names.{same_name}
use Rattle.sql_model.specs.Versions.{Tables, marked_rows_of, table_of}
use Rattle.lake_values.specs.Texts.{same_text}
use Rattle.sql_model.proofs.Lists.{all_append, all_both, all_filter, all_weaker}
use Rattle.lake_values.proofs.SameTexts.{same_text_is, same_text_self}
use Rattle.manifest_block.specs.declared.items.Item.{Item}
use Rattle.manifest_block.specs.declared.items.Item.TheVariants.{Add, Remove}
use Rattle.table_snapshot.specs.declared.files.FileRow.{FileRow}
use Rattle.file_laws.specs.Compacting.{Merge, items_of_merge, items_of_merges}
use Rattle.file_laws.specs.Contents.{mark_of}
use Rattle.table_snapshot.specs.Files.{item_file}
use Rattle.file_laws.specs.Standing.{files_marked}
use Rattle.file_laws.specs.Touching.{is_marked, is_touched}
use Rattle.file_laws.proofs.ChangeLemmas.{marked_kept}
use Rattle.file_laws.proofs.NameKept.{any_map}
use Rattle.file_laws.proofs.ReplayLemmas.{mark_tells}
use Rattle.file_laws.proofs.Some.{any_behind, any_front, or_left, or_right}
use Rattle.file_laws.proofs.StandLemmas.{all_map, mark_self}

-- each mark once, in order: the same marks

all_once : (P : Mark → Type 0) (xs : List Mark) → AllByRecursion P xs → AllByRecursion P
    (each_once xs)
all_once P [] all = tt
all_once P (x ∷ xs) all =
    (all.0, all_filter P (λ n. not (same_mark x n)) (each_once xs) (all_once P xs all.1))

once_marked : (xs : List Mark) (m : Mark) → is_marked xs m ≡ true → is_marked (each_once xs) m ≡
    true
once_marked [] m e = absurd cc
once_marked (x ∷ xs) m e = elim (same_mark m x) as (λ b. same_mark m x ≡ b → (b || is_marked xs m)
    ≡ true → (b || is_marked (filter (λ n. not (same_mark x n)) (each_once xs)) m) ≡ true) [
      | true ↦ λ h e. refl
      | false ↦ λ h e.
          let other : same_mark x m ≡ false = elim (same_mark x m) as
          (λ b. same_mark x m ≡ b → b ≡ false) [
            | true ↦ λ g. let is = mark_tells x m g in sym (mark_self m) ∙ ap (same_mark m) (sym is)
                ∙ h
            | false ↦ λ g. refl
          ] refl in
          marked_kept (λ n. not (same_mark x n)) m (ap not other) (each_once xs) ∙ once_marked xs m
          e
    ] refl e

placed_marked : (x : Mark) (xs : List Mark) (m : Mark) → is_marked (placed mark_cmp x xs) m ≡
    (same_mark m x || is_marked xs m)
placed_marked x [] m = refl
placed_marked x (y ∷ ys) m = elim (is_gt (mark_cmp x y)) as (λ b. is_marked
    (if b then y ∷ placed mark_cmp x ys else x ∷ y ∷ ys) m ≡
    (same_mark m x || (same_mark m y || is_marked ys m))) [
      | true ↦ ap (λ (b : Bool). same_mark m y || b) (placed_marked x ys m) ∙ swap (same_mark m y)
          (same_mark m x) (is_marked ys m)
      | false ↦ refl
    ]
  where
    swap : (a b c : Bool) → (a || (b || c)) ≡ (b || (a || c))
    swap true true c = refl
    swap true false c = refl
    swap false true c = refl
    swap false false c = refl

ordered_marked : (xs : List Mark) (m : Mark) → is_marked (ordered mark_cmp xs) m ≡ is_marked xs m
ordered_marked [] m = refl
ordered_marked (x ∷ xs) m =
    placed_marked x (ordered mark_cmp xs) m ∙ ap (λ (b : Bool). same_mark m x || b)
    (ordered_marked xs m)

pub once_ordered_marked : (xs : List Mark) (m : Mark) → is_marked xs m ≡ true → is_marked
    (ordered mark_cmp (each_once xs)) m ≡ true
once_ordered_marked xs m e = ordered_marked (each_once xs) m ∙ once_marked xs m e

all_placed_mark : (P : Mark → Type 0) (x : Mark) (xs : List Mark) → P x → AllByRecursion P xs →
    AllByRecursion P (placed mark_cmp x xs)
all_placed_mark P x [] here all = (here, tt)
all_placed_mark P x (y ∷ ys) here all =
    elim (is_gt (mark_cmp x y)) as
    (λ b. AllByRecursion P (if b then y ∷ placed mark_cmp x ys else x ∷ y ∷ ys))
    [ true ↦ (all.0, all_placed_mark P x ys here all.1) | false ↦ (here, all) ]

pub all_once_ordered : (P : Mark → Type 0) (xs : List Mark) → AllByRecursion P xs → AllByRecursion P
    (ordered mark_cmp (each_once xs))
all_once_ordered P xs all = by (each_once xs) (all_once P xs all)
  where
    by : (ys : List Mark) → AllByRecursion P ys → AllByRecursion P (ordered mark_cmp ys)
    by [] all = tt
    by (y ∷ ys) all = all_placed_mark P y (ordered mark_cmp ys) all.0 (by ys all.1)

-- what holds of the marks holds of one that is among them
pub marked_all : (P : Mark → Type 0) (xs : List Mark) (m : Mark) → AllByRecursion P xs → is_marked
    xs m ≡ true → P m
marked_all P [] m all e = absurd cc
marked_all P (x ∷ xs) m all e = elim (same_mark m x) as
    (λ b. same_mark m x ≡ b → (b || is_marked xs m) ≡ true → P m) [
      | true ↦ λ h e. subst P (sym (mark_tells m x h)) all.0
      | false ↦ λ h e. marked_all P xs m all.1 e
    ] refl e

-- lists

pub all_is : {X : Type 0} (p : X → Bool) (xs : List X) → AllByRecursion (λ x. p x ≡ true) xs →
    list_all p xs ≡ true
all_is p [] all = refl
all_is p (x ∷ xs) all = rw all.0 (all_is p xs all.1)

pub any_weaker_in : {X : Type 0} (p q : X → Bool) (xs : List X) → AllByRecursion
    (λ x. p x ≡ true → q x ≡ true) xs → list_any p xs ≡ true → list_any q xs ≡ true
any_weaker_in p q [] all e = absurd cc
any_weaker_in p q (x ∷ xs) all e = elim (p x) as
    (λ b. p x ≡ b → (b || list_any p xs) ≡ true → (q x || list_any q xs) ≡ true) [
      | true ↦ λ h e. or_left (q x) (list_any q xs) (all.0 h)
      | false ↦ λ h e. or_right (q x) (list_any q xs) (any_weaker_in p q xs all.1 e)
    ] refl e

pub filter_within : {X : Type 0} (p q : X → Bool) (xs : List X) →
    ((x : X) → p x ≡ true → q x ≡ true) → filter p (filter q xs) ≡ filter p xs
filter_within p q [] more = refl
filter_within {X} p q (x ∷ xs) more = elim (q x) as (λ b. q x ≡ b → filter p
    (cond b (x ∷ filter q xs) (filter q xs)) ≡ cond (p x) (x ∷ filter p xs) (filter p xs)) [
      | true ↦ λ e. ap (λ (ys : List X). cond (p x) (x ∷ ys) ys) (filter_within p q xs more)
      | false ↦ λ e.
          let none : p x ≡ false = elim (p x) as (λ b. p x ≡ b → b ≡ false)
          [ true ↦ λ h. sym (more x h) ∙ e | false ↦ λ h. refl ] refl in
          filter_within p q xs more ∙ ap (λ (b : Bool). cond b (x ∷ filter p xs) (filter p xs))
          (sym none)
    ] refl

pub of_filter : {X : Type 0} (P : X → Type 0) (q : X → Bool) (xs : List X) → AllByRecursion P
    (filter q xs) → AllByRecursion (λ x. q x ≡ true → P x) xs
of_filter P q [] all = tt
of_filter P q (x ∷ xs) all = elim (q x) as (λ b. q x ≡ b → AllByRecursion P
    (cond b (x ∷ filter q xs) (filter q xs)) → (b ≡ true → P x) × AllByRecursion
    (λ x. q x ≡ true → P x) xs) [
      | true ↦ λ e all. ((λ h. all.0), of_filter P q xs all.1)
      | false ↦ λ e all. ((λ h. absurd cc), of_filter P q xs all)
    ] refl all

-- two files of one mark are one

none_has : (table : List ℕ) (m : Mark) (fs : List FileRow) → files_marked table m fs ≡ 0 →
    AllByRecursion (λ g. same_mark m (mark_of table g) ≡ true → ⊥) fs
none_has table m [] e = tt
none_has table m (g ∷ gs) e = elim (same_mark m (mark_of table g)) as (λ b. same_mark m
    (mark_of table g) ≡ b → (if b then 1 else 0) + files_marked table m gs ≡ 0 → (b ≡ true → ⊥) ×
    AllByRecursion (λ g. same_mark m (mark_of table g) ≡ true → ⊥) gs) [
      | true ↦ λ h e. absurd (omega (arith, e))
      | false ↦ λ h e. ((λ no. absurd cc), none_has table m gs (omega (arith, e)))
    ] refl e

pub one_file : (table : List ℕ) (fs : List FileRow) → ((m : Mark) → files_marked table m fs ≤ 1) →
    AllByRecursion (λ f. AllByRecursion
    (λ g. same_mark (mark_of table f) (mark_of table g) ≡ true → f.file ≡ g.file) fs) fs
one_file table [] one = tt
one_file table (f ∷ fs) one =
    let here : ◌≡◌ {A = ℕ} (if same_mark (mark_of table f) (mark_of table f) then 1 else 0) 1 = ap
    (λ (b : Bool). if b then 1 else 0) (mark_self (mark_of table f)) in
    let none = none_has table (mark_of table f) fs (omega (arith, one (mark_of table f), here)) in (
      ((λ e. refl), all_weaker fs (λ g off e. absurd (off e)) none),
      all_both fs
          (λ g rest off. ((λ e. absurd (off (turn g e))), rest))
          (one_file table fs (λ m. omega (arith, one m))) none,
    )
  where
    turn : (g : FileRow) → same_mark (mark_of table g) (mark_of table f) ≡ true → same_mark
        (mark_of table f) (mark_of table g) ≡ true
    turn g e = let is = mark_tells (mark_of table g) (mark_of table f) e in ap
        (same_mark (mark_of table f)) is ∙ mark_self (mark_of table f)

-- a table behind a compaction

pub rows_here : (table : List ℕ) (seq : ℕ) (marks : List Mark) (ts : Tables) → marked_rows_of table
    (map (compacted_table table seq marks) ts) ≡ map (replaced seq marks) (marked_rows_of table ts)
rows_here table seq marks [] = refl
rows_here table seq marks (t ∷ ts) = elim (same_text t.name table) as (λ b. same_text t.name table ≡
    b → option_map_or (λ t. t.rows) (cond
    (same_text (if b then record t { rows = map (replaced seq marks) t.rows } else t).name table)
    (Some (if b then record t { rows = map (replaced seq marks) t.rows } else t))
    (table_of table (map (compacted_table table seq marks) ts))) []
    ≡ map (replaced seq marks)
    (option_map_or (λ t. t.rows) (cond b (Some t) (table_of table ts)) [])) [
      | true ↦ λ e. rw e refl
      | false ↦ λ e. rw e (rows_here table seq marks ts)
    ] refl

pub rows_elsewhere : (name table : List ℕ) (seq : ℕ) (marks : List Mark) (ts : Tables) → same_text
    name table ≡ false → marked_rows_of name (map (compacted_table table seq marks) ts) ≡
    marked_rows_of name ts
rows_elsewhere name table seq marks [] off = refl
rows_elsewhere name table seq marks (t ∷ ts) off = elim (same_text t.name table) as (λ b. same_text
    t.name table ≡ b → option_map_or (λ t. t.rows) (cond
    (same_text (if b then record t { rows = map (replaced seq marks) t.rows } else t).name name)
    (Some (if b then record t { rows = map (replaced seq marks) t.rows } else t))
    (table_of name (map (compacted_table table seq marks) ts))) []
    ≡ option_map_or (λ t. t.rows) (cond (same_text t.name name) (Some t) (table_of name ts)) []) [
      | true ↦ λ e.
          let other : same_text t.name name ≡ false = elim (same_text t.name name) as
          (λ b. same_text t.name name ≡ b → b ≡ false) [
            | true ↦ λ h. sym (same_text_self t.name) ∙ ap (λ (n : List ℕ). same_text n t.name)
                (same_text_is t.name name h) ∙ ap (same_text name) (same_text_is t.name table e) ∙
                off
            | false ↦ λ h. refl
          ] refl in
          rw other (rows_elsewhere name table seq marks ts off)
      | false ↦ λ e. elim (same_text t.name name) as (λ b. option_map_or (λ t. t.rows)
          (cond b (Some t) (table_of name (map (compacted_table table seq marks) ts))) [] ≡
          option_map_or (λ t. t.rows) (cond b (Some t) (table_of name ts)) []) [
            | true ↦ refl
            | false ↦ rows_elsewhere name table seq marks ts off
          ]
    ] refl

-- the items of merges

pub olds_touched : (table : List ℕ) (ms : List Merge) → AllByRecursion (λ m. (n : Name) → list_any
    (λ o. same_name o n) m.olds ≡ true → is_touched (items_of_merges table ms) n ≡ true) ms
olds_touched table [] = tt
olds_touched table (m ∷ ms) = (
  (λ n e. any_front (λ i. same_name (item_file i) n) (items_of_merge table m)
      (items_of_merges table ms)
      (or_right (same_name m.new.name n)
      (list_any (λ i. same_name (item_file i) n) (map (λ n. Remove table n) m.olds))
      (any_map (λ i. same_name (item_file i) n) (λ n. Remove table n) m.olds ∙ e))),
  all_weaker ms (λ o h n e. any_behind (λ i. same_name (item_file i) n) (items_of_merge table m)
      (items_of_merges table ms) (h n e)) (olds_touched table ms),
)

-- what holds of the new files and of removals holds of all items
pub merge_items_all : (P : Item → Type 0) (table : List ℕ) (ms : List Merge) → AllByRecursion (λ m.
    P (Add table m.new.cell 1 m.new.name m.new.rows) × AllByRecursion (λ n. P (Remove table n))
    m.olds) ms → AllByRecursion P (items_of_merges table ms)
merge_items_all P table [] all = tt
merge_items_all P table (m ∷ ms) all =
    all_append P (items_of_merge table m) (items_of_merges table ms)
    (all.0.0, all_map P (λ n. Remove table n) m.olds all.0.1) (merge_items_all P table ms all.1)
