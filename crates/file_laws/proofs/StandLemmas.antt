-- What holds of files holds of those that items make of them; and which marks are among others.
use Rattle.std.proofs.Common.{◌≡◌, ℕ, ◌+◌, ◌≤◌, Bool, true, false, not, ◌||◌, cond, nat_eq, List}
use Rattle.std.proofs.Common.{[], ◌∷◌, ◌++◌, Some, map, filter, flat_map, refl, sym, ap, ◌∙◌, arith}
use Rattle.std.proofs.Common.{subst, if◌then◌else◌}
use Rattle.std.proofs.lemmas.Bool.{eqb-true}
use Rattle.std.proofs.lemmas.Cmp.{nat_cmp_total, tied_itself}
use Rattle.std.specs.List.{AllByRecursion}
use Rattle.std.specs.Ordering.{nat_cmp, is_eq, ordering_then}
use Rattle.std.specs.Cmp.Lexicographic.{slice_cmp}
use Rattle.std.specs.declared.cmp.Ordering.{Ordering}
use Rattle.lake_values.specs.declared.names.Name.{Name}
use Rattle.sql_model.specs.declared.changes.Mark.{Mark}
use Rattle.sql_model.specs.declared.changes.MarkedRow.{MarkedRow}
use Rattle.sql_model.specs.Changes.{same_mark, as_commit}
use Rattle.sql_model.specs.Units.{marks_of}
use Rattle.sql_model.specs.Listing.{weight, SameBag}
use Rattle.sql_model.proofs.Bags.{weight_append}
use Rattle.sql_model.proofs.Lists.{all_append, all_filter, all_weaker}
use Rattle.lake_model.proofs.Pending.{part_all}
use Rattle.sql_model.proofs.Sorting.{all_placed}
use Rattle.manifest_block.specs.declared.items.Item.{Item}
use Rattle.manifest_block.specs.declared.items.Item.TheVariants.{Add, Remove, SetVector}
use Rattle.table_snapshot.specs.declared.files.FileRow.{FileRow}
use Rattle.table_snapshot.specs.Files.{file_cmp, is_file, without_file, with_vector, item_file}
use Rattle.table_snapshot.specs.Files.{new_file, after_item, replay}
use Rattle.file_laws.specs.Touching.{is_marked}
use Rattle.file_laws.proofs.ReplayLemmas.{mark_tells, mark_order}
use Rattle.file_laws.proofs.Weights.{weight_placed, weight_halves}

-- members

pub all_bag : {X : Type 0} (q : X → Bool) (xs ys : List X) → SameBag xs ys → AllByRecursion
    (λ x. q x ≡ true) ys → AllByRecursion (λ x. q x ≡ true) xs
all_bag q xs ys same all =
    part_all q xs ys ([], λ g. omega (arith, weight_append g xs [], same g)) all

pub all_halves : {X : Type 0} (P : X → Type 0) (p : X → Bool) (xs : List X) → AllByRecursion P
    (filter p xs) → AllByRecursion P (filter (λ x. not (p x)) xs) → AllByRecursion P xs
all_halves P p [] all more = tt
all_halves P p (x ∷ xs) all more =
    elim (p x) as (λ b. AllByRecursion P (cond b (x ∷ filter p xs) (filter p xs)) → AllByRecursion
    P (cond (not b) (x ∷ filter (λ x. not (p x)) xs) (filter (λ x. not (p x)) xs)) → P x ×
    AllByRecursion P xs) [
      | true ↦ λ all more. (all.0, all_halves P p xs all.1 more)
      | false ↦ λ all more. (more.0, all_halves P p xs all more.1)
    ] all more

pub all_map : {X Y : Type 0} (P : Y → Type 0) (f : X → Y) (xs : List X) → AllByRecursion
    (λ x. P (f x)) xs → AllByRecursion P (map f xs)
all_map P f [] all = tt
all_map P f (x ∷ xs) all = (all.0, all_map P f xs all.1)

pub all_flat : {X Y : Type 0} (P : Y → Type 0) (f : X → List Y) (xs : List X) → AllByRecursion
    (λ x. AllByRecursion P (f x)) xs → AllByRecursion P (flat_map f xs)
all_flat P f [] all = tt
all_flat P f (x ∷ xs) all = all_append P (f x) (flat_map f xs) all.0 (all_flat P f xs all.1)

pub all_passed : {X : Type 0} (p : X → Bool) (xs : List X) → AllByRecursion (λ x. p x ≡ true)
    (filter p xs)
all_passed p [] = tt
all_passed p (x ∷ xs) =
    elim (p x) as
    (λ b. p x ≡ b → AllByRecursion (λ x. p x ≡ true) (cond b (x ∷ filter p xs) (filter p xs)))
    [ true ↦ λ e. (e, all_passed p xs) | false ↦ λ e. all_passed p xs ] refl

pub all_diagonal : {X : Type 0} (C : X → Type 0) (Q : X → X → Type 0) (xs : List X) →
    ((x : X) → C x → AllByRecursion (Q x) xs) → AllByRecursion (λ x. C x → Q x x) xs
all_diagonal C Q [] all = tt
all_diagonal C Q (x ∷ xs) all = (λ h. (all x h).0, all_diagonal C Q xs (λ y h. (all y h).1))

pub weight_up_to : {X : Type 0} (g h : X → ℕ) (xs : List X) → AllByRecursion (λ x. g x ≤ h x) xs →
    weight g xs ≤ weight h xs
weight_up_to g h [] all = omega arith
weight_up_to g h (x ∷ xs) all = omega (arith, all.0, weight_up_to g h xs all.1)

pub each_weighs : {X : Type 0} (xs : List X) → AllByRecursion (λ x. (k : X → ℕ) → k x ≤ weight k xs)
    xs
each_weighs [] = tt
each_weighs (x ∷ xs) =
    (λ k. omega arith, all_weaker xs (λ y all k. omega (arith, all k)) (each_weighs xs))

-- what items make of files

pub replay_all : (P : FileRow → Type 0) (among : Name → Bool) (seq : ℕ) → ((f : FileRow)
    (vector : Name) (removed : ℕ) → P f → P (record f { vector = Some (vector, removed) }))
    → ((cell part rows : ℕ) (file : Name) → among file ≡ true → P
    (new_file seq cell part file rows))
    → (items : List Item) → AllByRecursion (λ i. among (item_file i) ≡ true) items →
    (files : List FileRow) → AllByRecursion P files → AllByRecursion P (replay seq items files)
replay_all P among seq blind new [] names files all = all
replay_all P among seq blind new (i ∷ is) names files all =
    replay_all P among seq blind new is names.1 (after_item seq files i) (item_all i names.0)
  where
    vector_all : (file vector : Name) (removed : ℕ) (fs : List FileRow) → AllByRecursion P fs →
        AllByRecursion P (map (with_vector file vector removed) fs)
    vector_all file vector removed [] all = tt
    vector_all file vector removed (f ∷ fs) all = (
      elim (is_file file f) as
          (λ b. P (if b then record f { vector = Some (vector, removed) } else f))
          [ true ↦ blind f vector removed all.0 | false ↦ all.0 ],
      vector_all file vector
          removed fs all.1,
    )

    item_all : (i : Item) → among (item_file i) ≡ true → AllByRecursion P (after_item seq files i)
    item_all (Add table cell part file rows) name = all_placed file_cmp P
        (new_file seq cell part file rows) (without_file file files) (new cell part rows file name)
        (all_filter P (λ f. not (is_file file f)) files all)
    item_all (Remove table file) name = all_filter P (λ f. not (is_file file f)) files all
    item_all (SetVector table file vector removed) name = vector_all file vector removed files all

-- a weight that new files don't have, and that vectors don't change, doesn't rise
pub replay_less : (h : FileRow → ℕ) (seq : ℕ) → ((f : FileRow) (vector : Name) (removed : ℕ) → h
    (record f { vector = Some (vector, removed) }) ≡ h f)
    → ((cell part rows : ℕ) (file : Name) → h (new_file seq cell part file rows) ≡ 0)
    → (items : List Item) (files : List FileRow) → weight h (replay seq items files) ≤ weight h
    files
replay_less h seq blind new [] files = omega arith
replay_less h seq blind new (i ∷ is) files =
    omega (arith, replay_less h seq blind new is (after_item seq files i), item_less i)
  where
    without_less : (file : Name) → weight h (without_file file files) ≤ weight h files
    without_less file = omega (arith, weight_halves (λ (f : FileRow). not (is_file file f)) h files)

    vector_less : (file vector : Name) (removed : ℕ) (fs : List FileRow) → weight h
        (map (with_vector file vector removed) fs) ≡ weight h fs
    vector_less file vector removed [] = refl
    vector_less file vector removed (f ∷ fs) =
        let one : h (with_vector file vector removed f) ≡ h f = elim (is_file file f) as
        (λ b. h (if b then record f { vector = Some (vector, removed) } else f) ≡ h f)
        [ true ↦ blind f vector removed | false ↦ refl ] in
        omega (arith, one, vector_less file vector removed fs)

    item_less : (i : Item) → weight h (after_item seq files i) ≤ weight h files
    item_less (Add table cell part file rows) = omega (
      arith,
      weight_placed file_cmp h
          (new_file seq cell part file rows) (without_file file files),
      new cell part rows file,
      without_less file,
    )
    item_less (Remove table file) = without_less file
    item_less (SetVector table file vector removed) = omega
        (arith, vector_less file vector removed files)

-- marks

pub marked_append : (xs ys : List Mark) (m : Mark) → is_marked (xs ++ ys) m ≡
    (is_marked xs m || is_marked ys m)
marked_append [] ys m = refl
marked_append (x ∷ xs) ys m =
    elim (same_mark m x) as
    (λ b. (b || is_marked (xs ++ ys) m) ≡ ((b || is_marked xs m) || is_marked ys m))
    [ true ↦ refl | false ↦ marked_append xs ys m ]

-- a mark of which what holds of the marks doesn't hold isn't among them
pub not_marked : (P : Mark → Type 0) (marks : List Mark) (m : Mark) → AllByRecursion P marks →
    (P m → ⊥) → is_marked marks m ≡ false
not_marked P [] m all never = refl
not_marked P (x ∷ xs) m all never =
    elim (same_mark m x) as (λ b. same_mark m x ≡ b → (b || is_marked xs m) ≡ false) [
      | true ↦ λ e. absurd (never (subst P (sym (mark_tells m x e)) all.0))
      | false ↦ λ e. not_marked P xs m all.1 never
    ] refl

pub mark_self : (m : Mark) → same_mark m m ≡ true
mark_self m = ap is_eq (tied_itself mark_order m)

same_number : (n : ℕ) → nat_cmp n n ≡ nat_cmp 0 0
same_number n = tied_itself nat_cmp_total n ∙ sym (tied_itself nat_cmp_total 0)

-- own marks that become a commit's
pub same_as : (seq : ℕ) (m x : Mark) → m.seq ≡ 0 → x.seq ≡ 0 → same_mark (as_commit seq m)
    (as_commit seq x) ≡ same_mark m x
same_as seq m x is zero_is =
    let seqs : nat_cmp seq seq ≡ nat_cmp m.seq x.seq = same_number seq ∙
    (λ i. nat_cmp (sym is i) (sym zero_is i)) in
    ap (λ (o : Ordering). is_eq (ordering_then (slice_cmp nat_cmp m.table x.table)
    (ordering_then o (ordering_then (nat_cmp m.part x.part) (nat_cmp m.cell x.cell))))) seqs

pub marked_as : (seq : ℕ) (marks : List Mark) (m : Mark) → AllByRecursion
    (λ x. nat_eq x.seq 0 ≡ true) marks → m.seq ≡ 0 → is_marked (map (as_commit seq) marks)
    (as_commit seq m) ≡ is_marked marks m
marked_as seq [] m all is = refl
marked_as seq (x ∷ xs) m all is =
    λ i. same_as seq m x is (eqb-true x.seq 0 all.0) i || marked_as seq xs m all.1 is i

-- no row has the mark
pub unmarked : (m : Mark) (rows : List MarkedRow) → weight
    (λ r. if same_mark m r.mark then 1 else 0) rows ≡ 0 → is_marked (marks_of rows) m ≡ false
unmarked m [] e = refl
unmarked m (r ∷ rs) e =
    elim (same_mark m r.mark) as (λ b. (if b then 1 else 0) + weight
    (λ r. if same_mark m r.mark then 1 else 0) rs ≡ 0 → (b || is_marked (marks_of rs) m) ≡
    false) [
      | true ↦ λ e. absurd (omega (arith, e))
      | false ↦ λ e. unmarked m rs (omega (arith, e))
    ] e
