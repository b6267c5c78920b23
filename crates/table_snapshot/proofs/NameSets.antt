-- Sets of the names of files and vectors.
use Rattle.std.proofs.Common.{◌≡◌, ℕ, ◌+◌, ◌<◌, Bool, true, false, not, ◌||◌, ◌&&◌, cond, length}
use Rattle.std.proofs.Common.{get_or, take, Option, Some, List, [], ◌∷◌, ◌++◌, filter, refl, sym, ap, ◌∙◌}
use Rattle.std.specs.List.{flat_map, list_any}
use Rattle.std.specs.Ordering.{is_eq, ordering_reverse}
use Rattle.std.specs.declared.cmp.Ordering.{Ordering}
use Rattle.std.specs.declared.cmp.Ordering.TheVariants.{Less, Equal, Greater}
use Rattle.std.specs.BTreeMap.{is_at}
use Rattle.std.proofs.lemmas.List.{take_more}
use Rattle.lake_values.specs.declared.names.Name.{Name}
use Rattle.lake_values.specs.contracts.names.NameOrd.TheImpl as order
use Rattle.lake_values.specs.contracts.names.NameOrd.TheImpl.Laws as laws
use Rattle.lake_values.specs.Names.{is_among, name_cmp, same_name}
use Rattle.table_snapshot.specs.declared.files.FileRow.{FileRow}
use Rattle.table_snapshot.specs.Files.{names_in, vector_names}
use Rattle.table_snapshot.proofs.MapChanges.{alike, told}

-- the keys of a set, found by the order of names
pub among_keys : (q : Name) (ks : List Name) → list_any (is_at (order.ghosts.cmp q)) ks ≡
    is_among q ks
among_keys q [] = refl
among_keys q (k ∷ ks) =
    rw (among_keys q ks, alike q k) refl

reversed : (r : Ordering) → is_eq (ordering_reverse r) ≡ is_eq r
reversed Less = refl
reversed Equal = refl
reversed Greater = refl

turned : (k q : Name) → is_eq (order.ghosts.cmp k q) ≡ same_name q k
turned k q =
    ap is_eq (laws.total-law.antisymm k q) ∙ reversed (order.ghosts.cmp q k) ∙ ap is_eq (alike q k)

chosen : (a b : Bool) → cond a true b ≡ b || a
chosen true true = refl
chosen true false = refl
chosen false true = refl
chosen false false = refl

-- with one name more
pub with_name : (k q : Name) (old new : Bool) → new ≡ cond (is_at (order.ghosts.cmp k) q) true old
    → new ≡ old || same_name q k
with_name k q old new is = is ∙ chosen (is_eq (order.ghosts.cmp k q)) old ∙ ap (λ (b : Bool). old || b)
    (turned k q)

or_false : (a : Bool) → a || false ≡ a
or_false true = refl
or_false false = refl

or_each : (a b c : Bool) → a || (b || c) ≡ (a || b) || c
or_each true b c = refl
or_each false b c = refl

-- with the names of a file that has a vector
pub both_names : (q : Name) (old : Bool) (file : Name) (v : Name × ℕ) (vector : Option (Name × ℕ))
    → vector ≡ Some v → (old || same_name q file) || same_name q v.0
    ≡ old || (same_name q file || is_among q (vector_names vector ++ []))
both_names q old file v vector is =
    rw is (ap (λ (b : Bool). (old || same_name q file) || b) (sym (or_false (same_name q v.0)))
    ∙ sym (or_each old (same_name q file) (same_name q v.0 || false)))

any_both : (q : Name) (xs ys : List Name) → is_among q (xs ++ ys) ≡ is_among q xs || is_among q ys
any_both q [] ys = refl
any_both q (x ∷ xs) ys =
    ap (λ (b : Bool). same_name q x || b) (any_both q xs ys)
    ∙ or_each (same_name q x) (is_among q xs) (is_among q ys)

names_both : (fs gs : List FileRow) → names_in (fs ++ gs) ≡ names_in fs ++ names_in gs
names_both [] gs = refl
names_both (f ∷ fs) gs =
    ap (λ (ns : List Name). (f.file ∷ vector_names f.vector) ++ ns) (names_both fs gs)
    ∙ sym (append_each (f.file ∷ vector_names f.vector) (names_in fs) (names_in gs))
  where
    append_each : (xs ys zs : List Name) → (xs ++ ys) ++ zs ≡ xs ++ (ys ++ zs)
    append_each [] ys zs = refl
    append_each (x ∷ xs) ys zs = ap (λ (ns : List Name). x ∷ ns) (append_each xs ys zs)

-- with one file more
pub with_file : (q : Name) (files : List FileRow) (k : ℕ) (d : FileRow) → k < length files →
    is_among q (names_in (take (k + 1) files)) ≡ is_among q (names_in (take k files))
    || is_among q (names_in (get_or files k d ∷ []))
with_file q files k d lt =
    ap (λ (fs : List FileRow). is_among q (names_in fs)) (take_more files k d lt)
    ∙ ap (is_among q) (names_both (take k files) (get_or files k d ∷ []))
    ∙ any_both q (names_in (take k files)) (names_in (get_or files k d ∷ []))

is_told : (r : Ordering) → is_eq r ≡ true → r ≡ Equal
is_told Less e = absurd cc
is_told Equal e = refl
is_told Greater e = absurd cc

-- those of them that pass a test

and_none : (a : Bool) → (a && false) ≡ false
and_none true = refl
and_none false = refl

passed_here : (p : Name → Bool) (q k : Name) (ks : List Name) → p q ≡ p k → same_name q k ≡ true
    → is_among q (filter p ks) ≡ (is_among q ks && p q) → (b : Bool) → p k ≡ b
    → is_among q (cond b (k ∷ filter p ks) (filter p ks)) ≡ p q
passed_here p q k ks same e rest true has = rw e (sym (same ∙ has))
passed_here p q k ks same e rest false lacks =
    rest ∙ ap (λ (b : Bool). is_among q ks && b) (same ∙ lacks) ∙ and_none (is_among q ks)
    ∙ sym (same ∙ lacks)

passed_later : (p : Name → Bool) (q k : Name) (ks : List Name) → same_name q k ≡ false
    → is_among q (filter p ks) ≡ (is_among q ks && p q) → (b : Bool)
    → is_among q (cond b (k ∷ filter p ks) (filter p ks)) ≡ (is_among q ks && p q)
passed_later p q k ks e rest true = rw e rest
passed_later p q k ks e rest false = rest

pub among_passed : (p : Name → Bool) (q : Name) (ks : List Name) → is_among q (filter p ks) ≡
    (is_among q ks && p q)
among_passed p q [] = refl
among_passed p q (k ∷ ks) =
    elim (same_name q k) as (λ b. same_name q k ≡ b → is_among q (filter p (k ∷ ks))
    ≡ ((b || is_among q ks) && p q)) [
      | true ↦ λ e. passed_here p q k ks (ap p (told q k (is_told (name_cmp q k) e))) e
          (among_passed p q ks) (p k) refl
      | false ↦ λ e. passed_later p q k ks e (among_passed p q ks) (p k)
    ] refl
