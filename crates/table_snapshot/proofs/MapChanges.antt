-- What the changes of a map make of the files that it lists.
use Rattle.std.proofs.Common.{◌≡◌, ℕ, zero, suc, ◌+◌, ◌<◌, Bool, true, false, length, get_or, take}
use Rattle.std.proofs.Common.{drop, List, [], ◌∷◌, ◌++◌, map, Some, None, refl, sym, ap, ◌∙◌}
use Rattle.std.specs.Prelude.{if◌then◌else◌}
use Rattle.std.specs.List.{list_all, AllByRecursion}
use Rattle.std.specs.List.Sorted.{IsStrictlySortedBy}
use Rattle.std.specs.FinMap.{nat_cmp-IsAntisymmetric}
use Rattle.std.specs.Map.{keys_of, values_of, lookup, remove_entry, set_value}
use Rattle.std.specs.BTreeMap.{insert_entry, is_at}
use Rattle.std.specs.Ordering.{is_lt, nat_cmp, on, then_cmp, ordering_then, ordering_reverse}
use Rattle.std.specs.declared.cmp.Ordering.{Ordering}
use Rattle.std.specs.declared.cmp.Ordering.TheVariants.{Less, Equal, Greater}
use Rattle.std.proofs.lemmas.Bool.{and_parts}
use Rattle.std.proofs.lemmas.List.{take_more, drop_more, take-append-drop}
use Rattle.lake_values.specs.declared.names.Kind.{Kind}
use Rattle.lake_values.specs.declared.names.Kind.TheVariants.{File, Vector, Manifest, Checkpoint}
use Rattle.lake_values.specs.declared.names.Name.{Name}
use Rattle.lake_values.specs.contracts.names.KindOrd.TheImpl as kinds
use Rattle.lake_values.specs.contracts.names.NameOrd.TheImpl as order
use Rattle.lake_values.specs.contracts.names.NameOrd.TheImpl.Laws as laws
use Rattle.lake_values.specs.Names.{kind_rank, name_cmp, is_ascending}
use Rattle.sql_model.specs.Listing.{placed}
use Rattle.table_snapshot.specs.declared.files.FileRow.{FileRow}
use Rattle.table_snapshot.specs.Files.{file_cmp, in_order, is_file, without_file, with_vector}
use Rattle.table_snapshot.specs.NamedFiles.{named, AreByName}

-- the order of the map is that of names

by_kind : (j k : Kind) → kinds.ghosts.cmp j k ≡ nat_cmp (kind_rank j) (kind_rank k)
by_kind File File = refl
by_kind File Vector = refl
by_kind File Manifest = refl
by_kind File Checkpoint = refl
by_kind Vector File = refl
by_kind Vector Vector = refl
by_kind Vector Manifest = refl
by_kind Vector Checkpoint = refl
by_kind Manifest File = refl
by_kind Manifest Vector = refl
by_kind Manifest Manifest = refl
by_kind Manifest Checkpoint = refl
by_kind Checkpoint File = refl
by_kind Checkpoint Vector = refl
by_kind Checkpoint Manifest = refl
by_kind Checkpoint Checkpoint = refl

pub alike : (m n : Name) → order.ghosts.cmp m n ≡ name_cmp m n
alike m n =
    ap (λ (r : Ordering). ordering_then r (then_cmp (on (λ x. x.txn) nat_cmp) (then_cmp
    (on (λ x. x.part) nat_cmp)
    (then_cmp (on (λ x. x.task) nat_cmp) (on (λ x. x.attempt) nat_cmp))) m n))
    (by_kind m.kind n.kind)

-- the laws of the order of names

swapped : (m n : Name) → name_cmp m n ≡ Less → name_cmp n m ≡ Greater
swapped m n less =
    sym (alike n m) ∙ laws.total-law.antisymm n m ∙ ap ordering_reverse (alike m n ∙ less)

through : (a b c : Name) → name_cmp a b ≡ Less → name_cmp b c ≡ Less → name_cmp a c ≡ Less
through a b c ab bc = sym (alike a c) ∙ laws.total-law.trans a b c (alike a b ∙ ab) (alike b c ∙ bc)

at_equal : (a b c : Name) → name_cmp a b ≡ Equal → name_cmp b c ≡ Less → name_cmp a c ≡ Less
at_equal a b c ab bc =
    sym (alike a c) ∙ laws.total-law.congr a b c (alike a b ∙ ab) ∙ alike b c ∙ bc

rank_kind : ℕ → Kind
rank_kind zero = File
rank_kind (suc zero) = Vector
rank_kind (suc (suc zero)) = Manifest
rank_kind (suc (suc (suc n))) = Checkpoint

kind_again : (k : Kind) → rank_kind (kind_rank k) ≡ k
unfolding rank_kind
kind_again File = refl
kind_again Vector = refl
kind_again Manifest = refl
kind_again Checkpoint = refl

both_equal : (r s : Ordering) → ordering_then r s ≡ Equal → (r ≡ Equal) × (s ≡ Equal)
both_equal Less s e = absurd cc
both_equal Equal s e = (refl, e)
both_equal Greater s e = absurd cc

abbrev made : Kind → ℕ → ℕ → ℕ → ℕ → Name
made kind txn part task attempt =
    record { kind = kind; txn = txn; part = part; task = task; attempt = attempt }

pub told : (m n : Name) → name_cmp m n ≡ Equal → m ≡ n
told m n e =
    let a = both_equal (nat_cmp (kind_rank m.kind) (kind_rank n.kind)) _ e in
    let b = both_equal (nat_cmp m.txn n.txn) _ a.1 in
    let c = both_equal (nat_cmp m.part n.part) _ b.1 in
    let d = both_equal (nat_cmp m.task n.task) _ c.1 in
    let kind : m.kind ≡ n.kind = sym (kind_again m.kind) ∙ ap rank_kind
    (nat_cmp-IsAntisymmetric (kind_rank m.kind) (kind_rank n.kind) a.0) ∙ kind_again n.kind in
    let txn = nat_cmp-IsAntisymmetric m.txn n.txn b.0 in
    let part = nat_cmp-IsAntisymmetric m.part n.part c.0 in
    let task = nat_cmp-IsAntisymmetric m.task n.task d.0 in
    let attempt = nat_cmp-IsAntisymmetric m.attempt n.attempt d.1 in
    let all : made m.kind m.txn m.part m.task m.attempt ≡ made n.kind n.txn n.part n.task n.attempt
    = rw (kind, txn, part, task, attempt) refl in
    all

pub less_is : (r : Ordering) → is_lt r ≡ true → r ≡ Less
less_is Less e = refl
less_is Equal e = absurd cc
less_is Greater e = absurd cc

-- ---- files that stand above a name

abbrev pub Above : Name → List FileRow → Type 0
Above name [] = Unit {0}
Above name (x ∷ xs) = (name_cmp name x.file ≡ Less) × Above name xs

above : (name : Name) (xs : List FileRow) → list_all (λ n. is_lt (name_cmp name n))
    (map (λ f. f.file) xs) ≡ true → Above name xs
above name [] all = tt
above name (x ∷ xs) all =
    let both = and_parts (is_lt (name_cmp name x.file))
    (list_all (λ n. is_lt (name_cmp name n)) (map (λ f. f.file) xs)) all in
    (less_is (name_cmp name x.file) both.0, above name xs both.1)

pub lower : (a b : Name) (xs : List FileRow) → name_cmp a b ≡ Less → Above b xs → Above a xs
lower a b [] less up = tt
lower a b (x ∷ xs) less up = (through a b x.file less up.0, lower a b xs less up.1)

equal : (a b : Name) (xs : List FileRow) → name_cmp a b ≡ Equal → Above b xs → Above a xs
equal a b [] same up = tt
equal a b (x ∷ xs) same up = (at_equal a b x.file same up.0, equal a b xs same up.1)

pub tail_above : (x : FileRow) (xs : List FileRow) → in_order (x ∷ xs) ≡ true → Above x.file xs ×
    (in_order xs ≡ true)
tail_above x xs up =
    let both = and_parts (list_all (λ n. is_lt (name_cmp x.file n)) (map (λ f. f.file) xs))
    (in_order xs) up in
    (above x.file xs both.0, both.1)

all_above : (name : Name) (xs : List FileRow) → Above name xs → list_all
    (λ n. is_lt (name_cmp name n)) (map (λ f. f.file) xs) ≡ true
all_above name [] up = refl
all_above name (x ∷ xs) up = rw (up.0, all_above name xs up.1) refl

pub front_in_order : (x : FileRow) (xs : List FileRow) → Above x.file xs → in_order xs ≡ true →
    in_order (x ∷ xs) ≡ true
front_in_order x xs up order = rw (all_above x.file xs up, order) refl

none_out : (name : Name) (xs : List FileRow) → Above name xs → without_file name xs ≡ xs
none_out name [] up = refl
none_out name (x ∷ xs) up = rw (up.0, none_out name xs up.1) refl

none_set : (name vector : Name) (removed : ℕ) (xs : List FileRow) → Above name xs → map
    (with_vector name vector removed) xs ≡ xs
none_set name vector removed [] up = refl
none_set name vector removed (x ∷ xs) up = rw (up.0, none_set name vector removed xs up.1) refl

first_placed : (f : FileRow) (xs : List FileRow) → Above f.file xs → placed file_cmp f xs ≡ f ∷ xs
first_placed f [] up = refl
first_placed f (x ∷ xs) up = rw up.0 refl

behind : (f x : FileRow) (xs : List FileRow) → name_cmp f.file x.file ≡ Greater → placed file_cmp f
    (x ∷ xs) ≡ x ∷ placed file_cmp f xs
behind f x xs is = rw is refl

kept : (f x : FileRow) (xs : List FileRow) → name_cmp f.file x.file ≡ Greater → without_file f.file
    (x ∷ xs) ≡ x ∷ without_file f.file xs
kept f x xs is = rw is refl

stays : (f x : FileRow) (xs : List FileRow) → name_cmp f.file x.file ≡ Greater
    → placed file_cmp f (without_file f.file (x ∷ xs)) ≡ x ∷ placed file_cmp f
    (without_file f.file xs)
stays f x xs is = ap (placed file_cmp f) (kept f x xs is) ∙ behind f x (without_file f.file xs) is

-- ---- entries of the map

pub entry_put : (f : FileRow) (xs : List FileRow) → in_order xs ≡ true
    → insert_entry order.ghosts.cmp (named xs) f.file f ≡ named
    (placed file_cmp f (without_file f.file xs))
entry_put f [] up = refl
entry_put f (x ∷ xs) up = by (name_cmp f.file x.file) refl (entry_put f xs parts.1)
  where
    parts : Above x.file xs × (in_order xs ≡ true)
    parts = tail_above x xs up

    by : (r : Ordering) → name_cmp f.file x.file ≡ r
        → insert_entry order.ghosts.cmp (named xs) f.file f ≡ named
        (placed file_cmp f (without_file f.file xs))
        → insert_entry order.ghosts.cmp (named (x ∷ xs)) f.file f ≡ named
        (placed file_cmp f (without_file f.file (x ∷ xs)))
    by Less is others =
        let up : Above f.file (x ∷ xs) = (is, lower f.file x.file xs is parts.0) in
        rw (none_out f.file (x ∷ xs) up, first_placed f (x ∷ xs) up, alike f.file x.file, is) refl
    by Equal is others =
        let up : Above f.file xs = equal f.file x.file xs is parts.0 in
        rw (alike f.file x.file, is, none_out f.file xs up, first_placed f xs up)
        (ap (λ (n : Name). (n, f) ∷ named xs) (sym (told f.file x.file is)))
    by Greater is others = rw (stays f x xs is, alike f.file x.file, is)
        (ap (λ (es : List (Name × FileRow)). (x.file, x) ∷ es) others)

pub entry_out : (name : Name) (xs : List FileRow) → in_order xs ≡ true → remove_entry
    (is_at (order.ghosts.cmp name)) (named xs) ≡ named (without_file name xs)
entry_out name [] up = refl
entry_out name (x ∷ xs) up = by (name_cmp name x.file) refl (entry_out name xs parts.1)
  where
    parts : Above x.file xs × (in_order xs ≡ true)
    parts = tail_above x xs up

    by : (r : Ordering) → name_cmp name x.file ≡ r → remove_entry (is_at (order.ghosts.cmp name))
        (named xs) ≡ named (without_file name xs)
        → remove_entry (is_at (order.ghosts.cmp name)) (named (x ∷ xs)) ≡ named
        (without_file name (x ∷ xs))
    by Less is others = rw (alike name x.file, is)
        (ap (λ (es : List (Name × FileRow)). (x.file, x) ∷ es) others)
    by Equal is others = rw
        (alike name x.file, is, none_out name xs (equal name x.file xs is parts.0)) refl
    by Greater is others = rw (alike name x.file, is)
        (ap (λ (es : List (Name × FileRow)). (x.file, x) ∷ es) others)

some_is : (x y : FileRow) → Some x ≡ Some y → x ≡ y
some_is x y e = cc

entry_set : (name vector : Name) (removed : ℕ) (row : FileRow) (xs : List FileRow) → in_order xs ≡
    true → lookup (is_at (order.ghosts.cmp name)) (named xs) ≡ Some row
    → set_value (is_at (order.ghosts.cmp name)) (named xs)
    (record row { vector = Some (vector, removed) }) ≡ named
    (map (with_vector name vector removed) xs)
entry_set name vector removed row [] up there = absurd cc
entry_set name vector removed row (x ∷ xs) up there =
    by (name_cmp name x.file) refl (entry_set name vector removed row xs parts.1)
  where
    parts : Above x.file xs × (in_order xs ≡ true)
    parts = tail_above x xs up

    by : (r : Ordering) → name_cmp name x.file ≡ r
        → (lookup (is_at (order.ghosts.cmp name)) (named xs) ≡ Some row → set_value
        (is_at (order.ghosts.cmp name)) (named xs)
        (record row { vector = Some (vector, removed) }) ≡ named
        (map (with_vector name vector removed) xs))
        → set_value (is_at (order.ghosts.cmp name)) (named (x ∷ xs))
        (record row { vector = Some (vector, removed) }) ≡ named
        (map (with_vector name vector removed) (x ∷ xs))
    by Less is others = rw (alike name x.file, is) (ap
        (λ (es : List (Name × FileRow)). (x.file, x) ∷ es)
        (others (rw (alike name x.file, is) at there)))
    by Equal is others =
        let it : x ≡ row = some_is x row (rw (alike name x.file, is) at there) in
        rw (
          alike name x.file,
          is,
          none_set name vector removed xs
              (equal name x.file xs is parts.0),
        ) (ap
        (λ (y : FileRow). (x.file, record y { vector = Some (vector, removed) }) ∷ named xs)
        (sym it))
    by Greater is others = rw (alike name x.file, is) (ap
        (λ (es : List (Name × FileRow)). (x.file, x) ∷ es)
        (others (rw (alike name x.file, is) at there)))

absent_set : (name vector : Name) (removed : ℕ) (xs : List FileRow) → lookup
    (is_at (order.ghosts.cmp name)) (named xs) ≡ None → map (with_vector name vector removed) xs ≡
    xs
absent_set name vector removed [] none = refl
absent_set name vector removed (x ∷ xs) none =
    by (name_cmp name x.file) refl (absent_set name vector removed xs)
  where
    by : (r : Ordering) → name_cmp name x.file ≡ r → (lookup (is_at (order.ghosts.cmp name))
        (named xs) ≡ None → map (with_vector name vector removed) xs ≡ xs)
        → map (with_vector name vector removed) (x ∷ xs) ≡ x ∷ xs
    by Less is others = rw is
        (ap (λ (ys : List FileRow). x ∷ ys) (others (rw (alike name x.file, is) at none)))
    by Equal is others = absurd (let e = rw (alike name x.file, is) at none in cc)
    by Greater is others = rw is
        (ap (λ (ys : List FileRow). x ∷ ys) (others (rw (alike name x.file, is) at none)))

-- a file above all others
pub placed_last : (front : List FileRow) (f : FileRow) (rest : List FileRow) → in_order
    (front ++ f ∷ rest) ≡ true → placed file_cmp f (without_file f.file front) ≡ front ++ f ∷ []
placed_last [] f rest up = refl
placed_last (x ∷ front) f rest up =
    let parts = tail_above x (front ++ f ∷ rest) up in
    let less : name_cmp x.file f.file ≡ Less = inside front parts.0 in
    stays f x front (swapped x.file f.file less) ∙ ap (λ (ys : List FileRow). x ∷ ys)
    (placed_last front f rest parts.1)
  where
    inside : (ys : List FileRow) → Above x.file (ys ++ f ∷ rest) → name_cmp x.file f.file ≡ Less
    inside [] all = all.0
    inside (y ∷ ys) all = inside ys all.1

-- ---- what the map lists

values_named : (xs : List FileRow) → values_of (named xs) ≡ xs
values_named [] = refl
values_named (x ∷ xs) = ap (λ (ys : List FileRow). x ∷ ys) (values_named xs)

pub values_are : (es : List (Name × FileRow)) (xs : List FileRow) → es ≡ named xs → values_of es ≡
    xs
values_are es xs is = ap values_of is ∙ values_named xs

keys_named : (xs : List FileRow) → keys_of (named xs) ≡ map (λ f. f.file) xs
keys_named [] = refl
keys_named (x ∷ xs) = ap (λ (ns : List Name). x.file ∷ ns) (keys_named xs)

below_all : (n : Name) (ns : List Name) → AllByRecursion (λ y. order.ghosts.cmp n y ≡ Less) ns →
    list_all (λ m. is_lt (name_cmp n m)) ns ≡ true
below_all n [] all = refl
below_all n (m ∷ ms) all = rw (sym (alike n m) ∙ all.0, below_all n ms all.1) refl

pub ascend : (ns : List Name) → IsStrictlySortedBy order.ghosts.cmp ns → is_ascending ns ≡ true
unfolding IsStrictlySortedBy
ascend [] sorted = refl
ascend (n ∷ ns) sorted = rw (below_all n ns sorted.0, ascend ns sorted.1) refl

-- a map of files lists them in order
pub are_by_name : (es : List (Name × FileRow)) (xs : List FileRow) → es ≡ named xs →
    IsStrictlySortedBy order.ghosts.cmp (keys_of es) → AreByName es
are_by_name es xs is sorted =
    let names : es ≡ named (values_of es) = is ∙ ap named (sym (values_are es xs is)) in
    let keys : keys_of es ≡ map (λ f. f.file) (values_of es) = ap keys_of names ∙ keys_named
    (values_of es) in
    record { names = names; order = ap is_ascending (sym keys) ∙ ascend (keys_of es) sorted }

-- vectors leave the names as they are

same_names : (name vector : Name) (removed : ℕ) (xs : List FileRow) → map (λ f. f.file)
    (map (with_vector name vector removed) xs) ≡ map (λ f. f.file) xs
same_names name vector removed [] = refl
same_names name vector removed (x ∷ xs) =
    rw (same_names name vector removed xs, same_name_of (is_file name x)) refl
  where
    same_name_of : (b : Bool) → (if b then record x { vector = Some (vector, removed) } else x).file
        ≡ x.file
    same_name_of true = refl
    same_name_of false = refl

pub are_with_vector : (es : List (Name × FileRow)) (name vector : Name) (removed : ℕ)
    (xs : List FileRow) → in_order xs ≡ true → es ≡ named (map (with_vector name vector removed) xs)
    → AreByName es
are_with_vector es name vector removed xs up is =
    let values : values_of es ≡ map (with_vector name vector removed) xs = values_are es
    (map (with_vector name vector removed) xs) is in
    record {
      names = is ∙ ap named (sym values);
      order = ap in_order values ∙ ap is_ascending (same_names name vector removed xs) ∙ up;
    }

-- the same over the entries of a map

pub with_one_set : (old new : List (Name × FileRow)) (name vector : Name) (removed : ℕ)
    (row : FileRow) → AreByName old → Some row ≡ lookup (is_at (order.ghosts.cmp name)) old
    → new ≡ set_value (is_at (order.ghosts.cmp name)) old
    (record row { vector = Some (vector, removed) }) → new ≡ named
    (map (with_vector name vector removed) (values_of old))
with_one_set old new name vector removed row are there is =
    is
    ∙ ap (λ (es : List (Name × FileRow)). set_value (is_at (order.ghosts.cmp name)) es
    (record row { vector = Some (vector, removed) })) are.names
    ∙ entry_set name vector removed row (values_of old) are.order
    (ap (lookup (is_at (order.ghosts.cmp name))) (sym are.names) ∙ sym there)

pub with_none_set : (old : List (Name × FileRow)) (name vector : Name) (removed : ℕ) → AreByName old
    → None ≡ lookup (is_at (order.ghosts.cmp name)) old
    → values_of old ≡ map (with_vector name vector removed) (values_of old)
with_none_set old name vector removed are none =
    sym (absent_set name vector removed (values_of old)
    (ap (lookup (is_at (order.ghosts.cmp name))) (sym are.names) ∙ sym none))

-- the next of a list of files in order is put behind those before it
pub puts_next : (files : List FileRow) (k : ℕ) (d : FileRow) (old new : List FileRow) → k < length
    files → in_order files ≡ true → old ≡ take k files
    → new ≡ placed file_cmp (get_or files k d) (without_file (get_or files k d).file old) → new ≡
    take (k + 1) files
puts_next files k d old new lt up before is =
    let parts : files ≡ take k files ++ get_or files k d ∷ drop (k + 1) files =
    sym (take-append-drop k files) ∙ ap (λ (rest : List FileRow). take k files ++ rest)
    (drop_more files k d lt) in
    is
    ∙ ap (λ (front : List FileRow). placed file_cmp (get_or files k d)
    (without_file (get_or files k d).file front)) before
    ∙ placed_last (take k files) (get_or files k d) (drop (k + 1) files)
    (ap in_order (sym parts) ∙ up)
    ∙ sym (take_more files k d lt)
