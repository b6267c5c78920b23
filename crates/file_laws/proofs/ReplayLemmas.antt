-- What items make of files, by the names that they have.
use Rattle.std.proofs.Common.{◌≡◌, ℕ, ◌+◌, Bool, true, false, not, cond, nat_eq, List, [], ◌∷◌}
use Rattle.std.proofs.Common.{◌++◌, map, filter, refl, sym, ap, ◌∙◌, arith, Some, if◌then◌else◌}
use Rattle.std.specs.List.{AllByRecursion}
use Rattle.std.specs.Ordering.{is_eq, is_gt, ordering_then}
use Rattle.std.specs.Cmp.{IsTotalOrder, Equal-is}
use Rattle.std.specs.FinMap.{nat_cmp-IsAntisymmetric, slice_cmp-IsAntisymmetric}
use Rattle.std.proofs.lemmas.Cmp.{on_total, then_total, nat_cmp_total, tied_itself}
use Rattle.std.specs.Cmp.Lexicographic.{nat_list_cmp_total}
use Rattle.sql_model.specs.declared.changes.Mark.{Mark}
use Rattle.sql_model.specs.Changes.{mark_cmp, same_mark}
use Rattle.std.specs.declared.cmp.Ordering.{Ordering}
use Rattle.std.specs.declared.cmp.Ordering.TheVariants.{Less, Equal, Greater}
use Rattle.lake_values.specs.declared.names.Kind.{Kind}
use Rattle.lake_values.specs.declared.names.Kind.TheVariants.{File, Vector, Manifest, Checkpoint}
use Rattle.lake_values.specs.declared.names.Name.{Name}
use Rattle.sql_model.specs.Listing.{placed, weight, SameBag}
use Rattle.lake_values.specs.Names.{kind_rank, name_cmp, same_name}
use Rattle.sql_model.specs.declared.changes.MarkedRow.{MarkedRow}
use Rattle.sql_model.proofs.Bags.{same_map, same_filter, filters_swap, weight_append}
use Rattle.manifest_block.specs.declared.items.Item.{Item}
use Rattle.manifest_block.specs.declared.items.Item.TheVariants.{Add, Remove, SetVector}
use Rattle.table_snapshot.specs.declared.files.FileRow.{FileRow}
use Rattle.table_snapshot.specs.Files.{file_cmp, is_file, without_file, with_vector, item_file}
use Rattle.table_snapshot.specs.Files.{new_file, after_item, replay}
use Rattle.file_laws.specs.Contents.{Contents, live_of, mark_of, with_mark, marked_live, rows_in}
use Rattle.file_laws.specs.Contents.{file_as, row_as}
use Rattle.file_laws.specs.Laws.{named}
use Rattle.file_laws.proofs.Weights.{weight_map, weight_placed}

-- only equal names tie

both_equal : (r s : Ordering) → ordering_then r s ≡ Equal → (r ≡ Equal) × (s ≡ Equal)
both_equal Less s e = absurd cc
both_equal Equal s e = (refl, e)
both_equal Greater s e = absurd cc

kind_ranked : ℕ → Kind
kind_ranked n =
    if nat_eq n 0 then File else if nat_eq n 1 then Vector else if nat_eq n 2 then Manifest else
    Checkpoint

rank_tells : (k : Kind) → kind_ranked (kind_rank k) ≡ k
unfolding kind_ranked
rank_tells File = refl
rank_tells Vector = refl
rank_tells Manifest = refl
rank_tells Checkpoint = refl

kind_tells : (a b : Kind) → kind_rank a ≡ kind_rank b → a ≡ b
kind_tells a b e = sym (rank_tells a) ∙ ap kind_ranked e ∙ rank_tells b

pub name_tells : (m n : Name) → same_name m n ≡ true → m ≡ n
name_tells m n same =
    let (kinds, after_kind) = both_equal _ _ ((Equal-is (name_cmp m n)).0 same) in
    let (txns, after_txn) = both_equal _ _ after_kind in
    let (parts, after_part) = both_equal _ _ after_txn in
    let (tasks, attempts) = both_equal _ _ after_part in
    λ i. record {
      kind = kind_tells m.kind n.kind
          (nat_cmp-IsAntisymmetric (kind_rank m.kind) (kind_rank n.kind) kinds) i;
      txn = nat_cmp-IsAntisymmetric m.txn n.txn txns i;
      part = nat_cmp-IsAntisymmetric m.part n.part parts i;
      task = nat_cmp-IsAntisymmetric m.task n.task tasks i;
      attempt = nat_cmp-IsAntisymmetric m.attempt n.attempt attempts i;
    }

pub name_total : IsTotalOrder name_cmp
name_total =
    then_total (on_total (λ n. kind_rank n.kind) nat_cmp_total)
    (then_total (on_total (λ n. n.txn) nat_cmp_total) (then_total
    (on_total (λ n. n.part) nat_cmp_total) (then_total
    (on_total (λ n. n.task) nat_cmp_total) (on_total (λ n. n.attempt) nat_cmp_total))))

pub name_self : (n : Name) → same_name n n ≡ true
name_self n = ap is_eq (tied_itself name_total n)

pub mark_order : IsTotalOrder mark_cmp
mark_order =
    then_total (on_total (λ m. m.table) nat_list_cmp_total)
    (then_total (on_total (λ m. m.seq) nat_cmp_total) (then_total
    (on_total (λ m. m.part) nat_cmp_total) (on_total (λ m. m.cell) nat_cmp_total)))

pub mark_tells : (x y : Mark) → same_mark x y ≡ true → x ≡ y
mark_tells x y same =
    let (tables, after_table) = both_equal _ _ ((Equal-is (mark_cmp x y)).0 same) in
    let (seqs, after_seq) = both_equal _ _ after_table in
    let (parts, cells) = both_equal _ _ after_seq in
    λ i. record {
      table = slice_cmp-IsAntisymmetric nat_cmp-IsAntisymmetric x.table y.table tables i;
      seq = nat_cmp-IsAntisymmetric x.seq y.seq seqs i;
      part = nat_cmp-IsAntisymmetric x.part y.part parts i;
      cell = nat_cmp-IsAntisymmetric x.cell y.cell cells i;
    }

-- an item leaves the files with other names

filter_placed : {X : Type 0} (cmp : X → X → Ordering) (p : X → Bool) (x : X) (xs : List X) → p x ≡
    false → filter p (placed cmp x xs) ≡ filter p xs
filter_placed cmp p x [] fails = rw fails refl
filter_placed cmp p x (y ∷ ys) fails =
    elim (is_gt (cmp x y)) as (λ b. filter p (if b then y ∷ placed cmp x ys else x ∷ y ∷ ys) ≡ cond
    (p y) (y ∷ filter p ys) (filter p ys)) [
      | true ↦ ap (λ (zs : List _). cond (p y) (y ∷ zs) zs) (filter_placed cmp p x ys fails)
      | false ↦ rw fails refl
    ]

module _ (among : Name → Bool) where
  not_among : (name : Name) (f : FileRow) → among name ≡ false → is_file name f ≡ true → among
      f.file ≡ false
  not_among name f other is = ap among (sym (name_tells name f.file is)) ∙ other

  without_other : (name : Name) (files : List FileRow) → among name ≡ false → named among
      (without_file name files) ≡ named among files
  without_other name [] other = refl
  without_other name (f ∷ fs) other =
      elim (is_file name f) as (λ b. is_file name f ≡ b → named among
      (cond (not b) (f ∷ without_file name fs) (without_file name fs)) ≡ cond (among f.file)
      (f ∷ named among fs) (named among fs)) [
        | true ↦ λ is. rw (not_among name f other is) (without_other name fs other)
        | false ↦ λ is. ap (λ (gs : List FileRow). cond (among f.file) (f ∷ gs) gs)
            (without_other name fs other)
      ] refl

  vector_other : (name vector : Name) (removed : ℕ) (files : List FileRow) → among name ≡ false →
      named among (map (with_vector name vector removed) files) ≡ named among files
  vector_other name vector removed [] other = refl
  vector_other name vector removed (f ∷ fs) other =
      elim (is_file name f) as (λ b. is_file name f ≡ b → named among (
      (if b then record f { vector = Some (vector, removed) } else f) ∷ map
      (with_vector name vector removed) fs) ≡ cond (among f.file) (f ∷ named among fs)
      (named among fs)) [
        | true ↦ λ is. rw (not_among name f other is) (vector_other name vector removed fs other)
        | false ↦ λ is. ap (λ (gs : List FileRow). cond (among f.file) (f ∷ gs) gs)
            (vector_other name vector removed fs other)
      ] refl

  item_elsewhere : (seq : ℕ) (files : List FileRow) (i : Item) → among (item_file i) ≡ false → named
      among (after_item seq files i) ≡ named among files
  item_elsewhere seq files (Add table cell part file rows) other =
      filter_placed file_cmp (λ f. among f.file) (new_file seq cell part file rows)
      (without_file file files) other ∙ without_other file files other
  item_elsewhere seq files (Remove table file) other = without_other file files other
  item_elsewhere seq files (SetVector table file vector removed) other = vector_other file vector
      removed files other

  pub replay_elsewhere : (seq : ℕ) (items : List Item) (files : List FileRow) → AllByRecursion
      (λ i. among (item_file i) ≡ false) items → named among (replay seq items files) ≡ named among
      files
  replay_elsewhere seq [] files all = refl
  replay_elsewhere seq (i ∷ is) files all = replay_elsewhere seq is (after_item seq files i) all.1 ∙
      item_elsewhere seq files i all.0

  -- and makes of files with the same names' files the same

  same_vector : (name vector : Name) (removed : ℕ) (files : List FileRow) → named among
      (map (with_vector name vector removed) files) ≡ map (with_vector name vector removed)
      (named among files)
  same_vector name vector removed [] = refl
  same_vector name vector removed (f ∷ fs) =
      elim (is_file name f) as (λ b.
      cond (among (if b then record f { vector = Some (vector, removed) } else f).file) (
      (if b then record f { vector = Some (vector, removed) } else f) ∷ named among
      (map (with_vector name vector removed) fs))
      (named among (map (with_vector name vector removed) fs))
      ≡ cond (among f.file) ((if b then record f { vector = Some (vector, removed) } else f) ∷ map
      (with_vector name vector removed) (named among fs))
      (map (with_vector name vector removed) (named among fs))) [
        | true ↦ ap (λ (gs : List FileRow). cond (among f.file)
            (record f { vector = Some (vector, removed) } ∷ gs) gs)
            (same_vector name vector removed fs)
        | false ↦ ap (λ (gs : List FileRow). cond (among f.file) (f ∷ gs) gs)
            (same_vector name vector removed fs)
      ] ∙ sym (mapped (among f.file))
    where
      mapped : (b : Bool) → map (with_vector name vector removed)
          (cond b (f ∷ named among fs) (named among fs)) ≡ cond b (with_vector name vector removed
          f ∷ map (with_vector name vector removed) (named among fs))
          (map (with_vector name vector removed) (named among fs))
      mapped true = refl
      mapped false = refl

  same_placed : (f : FileRow) (xs ys : List FileRow) → SameBag (named among xs) (named among ys) →
      SameBag (named among (placed file_cmp f xs)) (named among (placed file_cmp f ys))
  same_placed f xs ys same g =
      same_filter (λ f. among f.file) (placed file_cmp f xs) (f ∷ xs)
      (λ h. weight_placed file_cmp h f xs) g
      ∙ elim (among f.file) as (λ b. weight g (cond b (f ∷ named among xs) (named among xs)) ≡
      weight g (cond b (f ∷ named among ys) (named among ys))) [
        | true ↦ ap (λ (n : ℕ). g f + n) (same g)
        | false ↦ same g
      ]
      ∙ sym (same_filter (λ f. among f.file) (placed file_cmp f ys) (f ∷ ys)
      (λ h. weight_placed file_cmp h f ys) g)

  same_without : (name : Name) (xs ys : List FileRow) → SameBag (named among xs) (named among ys) →
      SameBag (named among (without_file name xs)) (named among (without_file name ys))
  same_without name xs ys same g =
      filters_swap (λ f. among f.file) (λ f. not (is_file name f)) xs g
      ∙ same_filter (λ f. not (is_file name f)) (named among xs) (named among ys) same g
      ∙ sym (filters_swap (λ f. among f.file) (λ f. not (is_file name f)) ys g)

  item_same : (seq : ℕ) (xs ys : List FileRow) (i : Item) → SameBag (named among xs)
      (named among ys) → SameBag (named among (after_item seq xs i))
      (named among (after_item seq ys i))
  item_same seq xs ys (Add table cell part file rows) same =
      same_placed (new_file seq cell part file rows) (without_file file xs) (without_file file ys)
      (same_without file xs ys same)
  item_same seq xs ys (Remove table file) same = same_without file xs ys same
  item_same seq xs ys (SetVector table file vector removed) same =
      λ g. ap (weight g) (same_vector file vector removed xs) ∙ same_map
      (with_vector file vector removed) (named among xs) (named among ys) same g ∙ sym
      (ap (weight g) (same_vector file vector removed ys))

  pub replay_same : (seq : ℕ) (items : List Item) (xs ys : List FileRow) → SameBag (named among xs)
      (named among ys) → SameBag (named among (replay seq items xs))
      (named among (replay seq items ys))
  replay_same seq [] xs ys same = same
  replay_same seq (i ∷ is) xs ys same = replay_same seq is (after_item seq xs i)
      (after_item seq ys i) (item_same seq xs ys i same)

-- one after another
pub replay_append : (seq : ℕ) (items more : List Item) (files : List FileRow) → replay seq
    (items ++ more) files ≡ replay seq more (replay seq items files)
replay_append seq [] more files = refl
replay_append seq (i ∷ is) more files = replay_append seq is more (after_item seq files i)

-- what isn't committed becomes a commit's, before or after the items

module _ (seq : ℕ) where
  as_placed : (f : FileRow) (fs : List FileRow) → map (file_as seq) (placed file_cmp f fs) ≡ placed
      file_cmp (file_as seq f) (map (file_as seq) fs)
  as_placed f [] = refl
  as_placed f (x ∷ xs) =
      elim (is_gt (file_cmp f x)) as (λ b. map (file_as seq)
      (if b then x ∷ placed file_cmp f xs else f ∷ x ∷ xs) ≡ if b then file_as seq x ∷ placed
      file_cmp (file_as seq f) (map (file_as seq) xs) else file_as seq f ∷ file_as seq x ∷
      map (file_as seq) xs) [
        | true ↦ ap (λ (gs : List FileRow). file_as seq x ∷ gs) (as_placed f xs)
        | false ↦ refl
      ]

  as_without : (name : Name) (fs : List FileRow) → map (file_as seq) (without_file name fs) ≡
      without_file name (map (file_as seq) fs)
  as_without name [] = refl
  as_without name (f ∷ fs) =
      elim (is_file name f) as (λ b. map (file_as seq)
      (cond (not b) (f ∷ without_file name fs) (without_file name fs)) ≡ cond (not b)
      (file_as seq f ∷ without_file name (map (file_as seq) fs))
      (without_file name (map (file_as seq) fs))) [
        | true ↦ as_without name fs
        | false ↦ ap (λ (gs : List FileRow). file_as seq f ∷ gs) (as_without name fs)
      ]

  as_vector : (name vector : Name) (removed : ℕ) (fs : List FileRow) → map (file_as seq)
      (map (with_vector name vector removed) fs) ≡ map (with_vector name vector removed)
      (map (file_as seq) fs)
  as_vector name vector removed [] = refl
  as_vector name vector removed (f ∷ fs) =
      λ i. one i ∷ as_vector name vector removed fs i
    where
      one : file_as seq (with_vector name vector removed f) ≡ with_vector name vector removed
          (file_as seq f)
      one = elim (is_file name f) as (λ b. file_as seq
          (if b then record f { vector = Some (vector, removed) } else f) ≡ if b then record
          (file_as seq f) { vector = Some (vector, removed) } else file_as seq f)
          [ true ↦ refl | false ↦ refl ]

  item_as : (fs : List FileRow) (i : Item) → map (file_as seq) (after_item 0 fs i) ≡ after_item seq
      (map (file_as seq) fs) i
  item_as fs (Add table cell part file rows) =
      as_placed (new_file 0 cell part file rows) (without_file file fs)
      ∙ ap (placed file_cmp (new_file seq cell part file rows)) (as_without file fs)
  item_as fs (Remove table file) = as_without file fs
  item_as fs (SetVector table file vector removed) = as_vector file vector removed fs

  pub replay_as : (items : List Item) (fs : List FileRow) → map (file_as seq) (replay 0 items fs) ≡
      replay seq items (map (file_as seq) fs)
  replay_as [] fs = refl
  replay_as (i ∷ is) fs = replay_as is (after_item 0 fs i) ∙ ap (replay seq is) (item_as fs i)

  pub committed_as : (fs : List FileRow) → AllByRecursion (λ f. nat_eq f.seq 0 ≡ false) fs → map
      (file_as seq) fs ≡ fs
  committed_as [] all = refl
  committed_as (f ∷ fs) all = λ i. record f { seq = if all.0 i then seq else f.seq } ∷ committed_as
      fs all.1 i

  -- the rows of files that become a commit's
  pub weight_as : (c : Contents) (table : List ℕ) (g : MarkedRow → ℕ) (fs : List FileRow) → weight g
      (rows_in c table (map (file_as seq) fs)) ≡ weight (λ m. g (row_as seq m)) (rows_in c table fs)
  weight_as c table g [] = refl
  weight_as c table g (f ∷ fs) =
      let left = weight_append g (marked_live c table (file_as seq f))
      (rows_in c table (map (file_as seq) fs)) in
      let right = weight_append (λ m. g (row_as seq m)) (marked_live c table f) (rows_in c table fs)
      in
      let mine = weight_map (with_mark (mark_of table (file_as seq f))) g (live_of c f) ∙ sym
      (weight_map (with_mark (mark_of table f)) (λ m. g (row_as seq m)) (live_of c f)) in
      omega (arith, left, right, mine, weight_as c table g fs)
