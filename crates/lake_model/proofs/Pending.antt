-- What a transaction's first statement changes, and which rows a commit adds.
use Rattle.std.proofs.Common.{◌≡◌, ℕ, suc, ◌+◌, ◌-◌, Bool, true, false, not, nat_eq, List, [], ◌∷◌, None, map, flat_map, refl, ap, arith, if◌then◌else◌}
use Rattle.std.specs.Prelude.{find}
use Rattle.std.specs.List.{AllByRecursion}
use Rattle.std.specs.Ordering.{is_eq}
use Rattle.std.specs.declared.cmp.Ordering.{Ordering}
use Rattle.std.proofs.lemmas.Bool.{eqb-true}
use Rattle.lake_values.specs.declared.values.Value.{Value}
use Rattle.sql_model.specs.declared.changes.Added.{Added}
use Rattle.sql_model.specs.declared.changes.Change.{Change}
use Rattle.sql_model.specs.declared.changes.MarkedRow.{MarkedRow}
use Rattle.sql_model.specs.Listing.{IsPartOf, numbers, weight}
use Rattle.sql_model.specs.Changes.{no_change, is_own, committed, pend, without_one, without, marked_cmp, marked, added_to, removed_from, changed_table, applied}
use Rattle.lake_model.specs.Conflicts.{wrote_one, first_conflict}
use Rattle.lake_model.specs.State.{State, last}
use Rattle.sql_model.specs.Versions.{Table, Tables, all_rows}
use Rattle.sql_model.specs.Units.{ConflictUnit}
use Rattle.lake_values.specs.Texts.{same_text}
use Rattle.sql_model.proofs.Bags.{weight_append}
use Rattle.sql_model.proofs.Lists.{all_append, all_parts}
use Rattle.sql_model.proofs.Removal.{filter_all}

-- what a transaction changes with its first statement

none_own : (rows : List MarkedRow) → AllByRecursion (λ m. is_own m ≡ false) rows → AllByRecursion (λ m. not (is_own m) ≡ true) rows
none_own [] all = tt
none_own (m ∷ ms) all = (ap not all.0, none_own ms all.1)

pub committed_all : (rows : List MarkedRow) → AllByRecursion (λ m. is_own m ≡ false) rows → committed rows ≡ rows
committed_all rows all = filter_all (λ m. not (is_own m)) rows (none_own rows all)

pub pend_nothing : (change : Change) → AllByRecursion (λ m. is_own m ≡ false) change.removed → pend no_change change ≡ change
pend_nothing change all = λ i. record { removed = committed_all change.removed all i; added = change.added }

-- what holds of all members holds of those that are a part of them

if_none : (g n : ℕ) (b : Bool) → (if b then 0 else suc g) + n ≡ 0 → (b ≡ true) × (n ≡ 0)
if_none g n true e = (refl, omega (arith, e))
if_none g n false e = absurd (omega (arith, e))

none_weighs : {X : Type 0} (q : X → Bool) (xs : List X) → weight (λ x. if q x then 0 else 1) xs ≡ 0 → AllByRecursion (λ x. q x ≡ true) xs
none_weighs q [] e = tt
none_weighs q (x ∷ xs) e = let both = if_none 0 (weight (λ x. if q x then 0 else 1) xs) (q x) e in (both.0, none_weighs q xs both.1)

all_weigh : {X : Type 0} (q : X → Bool) (xs : List X) → AllByRecursion (λ x. q x ≡ true) xs → weight (λ x. if q x then 0 else 1) xs ≡ 0
all_weigh q [] all = refl
all_weigh q (x ∷ xs) all = rw all.0 (omega (arith, all_weigh q xs all.1))

pub part_all : {X : Type 0} (q : X → Bool) (xs ys : List X) → IsPartOf xs ys → AllByRecursion (λ x. q x ≡ true) ys → AllByRecursion (λ x. q x ≡ true) xs
part_all q xs ys part all =
    none_weighs q xs (omega (arith, weight_append (λ x. if q x then 0 else 1) xs part.0, part.1 (λ x. if q x then 0 else 1), all_weigh q ys all))

not_false : (b : Bool) → not b ≡ true → b ≡ false
not_false true e = absurd cc
not_false false e = refl

back : (rows : List MarkedRow) → AllByRecursion (λ m. not (is_own m) ≡ true) rows → AllByRecursion (λ m. is_own m ≡ false) rows
back [] all = tt
back (m ∷ ms) all = (not_false (is_own m) all.0, back ms all.1)

pub committed_part : (rows : List MarkedRow) (tables : Tables) → IsPartOf rows (all_rows tables) → AllByRecursion (λ m. is_own m ≡ false) (all_rows tables) → AllByRecursion (λ m. is_own m ≡ false) rows
committed_part rows tables part all = back rows (part_all (λ m. not (is_own m)) rows (all_rows tables) part (none_own (all_rows tables) all))

-- a commit leaves and adds committed rows

all_without_one : {X : Type 0} (cmp : X → X → Ordering) (P : X → Type 0) (xs : List X) (x : X) → AllByRecursion P xs → AllByRecursion P (without_one cmp xs x)
all_without_one cmp P [] x all = tt
all_without_one cmp P (y ∷ ys) x all =
    elim (is_eq (cmp x y)) as (λ b. AllByRecursion P (if b then ys else y ∷ without_one cmp ys x)) [
      | true ↦ all.1
      | false ↦ (all.0, all_without_one cmp P ys x all.1)
    ]

pub all_without : {X : Type 0} (cmp : X → X → Ordering) (P : X → Type 0) (removed xs : List X) → AllByRecursion P xs → AllByRecursion P (without cmp xs removed)
all_without cmp P [] xs all = all
all_without cmp P (x ∷ removed) xs all = all_without cmp P removed (without_one cmp xs x) (all_without_one cmp P xs x all)

later_commit : (seq : ℕ) → nat_eq (seq + 1) 0 ≡ false
later_commit seq =
    elim (nat_eq (seq + 1) 0) as (λ b. nat_eq (seq + 1) 0 ≡ b → b ≡ false) [
      | true ↦ λ e. absurd (omega (arith, eqb-true (seq + 1) 0 e))
      | false ↦ λ e. refl
    ] refl

all_marked : (t : Table) (seq part : ℕ) (rows : List (List Value)) → AllByRecursion (λ m. is_own m ≡ false) (map (marked t.name t.schema (seq + 1) part) rows)
all_marked t seq part [] = tt
all_marked t seq part (row ∷ rows) = (later_commit seq, all_marked t seq part rows)

all_added_to : (t : Table) (seq : ℕ) (added : Added) → AllByRecursion (λ m. is_own m ≡ false) (added_to t (seq + 1) added)
all_added_to t seq added =
    elim (same_text added.table t.name) as (λ b. AllByRecursion (λ m. is_own m ≡ false) (if b then map (marked t.name t.schema (seq + 1) added.part) added.rows else [])) [
      | true ↦ all_marked t seq added.part added.rows
      | false ↦ tt
    ]

all_additions : (t : Table) (seq : ℕ) (added : List Added) → AllByRecursion (λ m. is_own m ≡ false) (flat_map (added_to t (seq + 1)) added)
all_additions t seq [] = tt
all_additions t seq (a ∷ as') = all_append _ (added_to t (seq + 1) a) (flat_map (added_to t (seq + 1)) as') (all_added_to t seq a) (all_additions t seq as')

pub committed_applied : (seq : ℕ) (change : Change) (tables : Tables) → AllByRecursion (λ m. is_own m ≡ false) (all_rows tables) → AllByRecursion (λ m. is_own m ≡ false) (all_rows (applied (seq + 1) change tables))
committed_applied seq change [] all = tt
committed_applied seq change (t ∷ ts) all =
    let both = all_parts _ t.rows (all_rows ts) all in
    all_append _ (changed_table (seq + 1) change t).rows (all_rows (applied (seq + 1) change ts))
    (all_append _ (without marked_cmp t.rows (removed_from t change.removed)) (flat_map (added_to t (seq + 1)) change.added)
    (all_without marked_cmp _ (removed_from t change.removed) t.rows both.0) (all_additions t seq change.added))
    (committed_applied seq change ts both.1)

-- nothing conflicts with what came after the last version
pub no_conflict : (st : State) (units : List ConflictUnit) → first_conflict st (last st) units ≡ None
no_conflict st units =
    let nothing : last st - last st ≡ 0 = omega arith in
    ap (λ (n : ℕ). find (wrote_one st units) (numbers (last st + 1) n)) nothing
