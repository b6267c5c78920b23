-- What a table has after some of its rows are removed.
use Rattle.std.proofs.Common.{◌≡◌, ℕ, ◌+◌, Bool, true, false, not, cond, List, [], ◌∷◌, ◌++◌, filter, refl, sym, ap, ◌∙◌, arith, if◌then◌else◌}
use Rattle.std.proofs.lemmas.Cmp.{tied_itself}
use Rattle.std.proofs.lemmas.List.Elements.{All-from_recursion, recursion_from_All, All-filter, filter_passes}
use Rattle.std.specs.List.{AllByRecursion}
use Rattle.std.specs.Prelude.{Some, find}
use Rattle.std.specs.Option.{option_map_or}
use Rattle.std.specs.Cmp.{Equal-is}
use Rattle.std.specs.Ordering.{is_eq}
use Rattle.std.specs.declared.cmp.Ordering.{Ordering}
use Rattle.lake_values.specs.declared.values.Value.{Value}
use Rattle.sql_model.specs.declared.changes.MarkedRow.{MarkedRow}
use Rattle.sql_model.specs.Listing.{IsPartOf, ordered, weight}
use Rattle.sql_model.specs.Changes.{marked_cmp, without_one, without, removed_from}
use Rattle.sql_model.specs.Versions.{Table, Tables, marked_rows_of, all_rows}
use Rattle.lake_values.specs.Texts.{same_text}
use Rattle.sql_model.proofs.Bags.{weight_append, same_if_swaps}
use Rattle.sql_model.proofs.Lists.{all_weaker}
use Rattle.sql_model.proofs.MarkOrder.{marked_total, marked_tells}
use Rattle.sql_model.proofs.Sorting.{all_placed, weight_ordered}
use Rattle.lake_values.proofs.SameTexts.{same_text_self}

tied_tells : (x y : MarkedRow) → is_eq (marked_cmp x y) ≡ true → x ≡ y
tied_tells x y e = marked_tells x y ((Equal-is (marked_cmp x y)).0 e)

-- two removals swap

one_by_one : (x y : MarkedRow) (rows : List MarkedRow) → without_one marked_cmp (without_one marked_cmp rows x) y ≡ without_one marked_cmp (without_one marked_cmp rows y) x
one_by_one x y [] = refl
one_by_one x y (r ∷ rs) =
    elim (is_eq (marked_cmp x r)) as (λ a. is_eq (marked_cmp x r) ≡ a → without_one marked_cmp (if a then rs else r ∷ without_one marked_cmp rs x) y ≡ without_one marked_cmp (if is_eq (marked_cmp y r) then rs else r ∷ without_one marked_cmp rs y) x) [
      | true ↦ λ e.
          elim (is_eq (marked_cmp y r)) as (λ b. is_eq (marked_cmp y r) ≡ b → without_one marked_cmp rs y ≡ without_one marked_cmp (if b then rs else r ∷ without_one marked_cmp rs y) x) [
            | true ↦ λ f. ap (without_one marked_cmp rs) (tied_tells y r f ∙ sym (tied_tells x r e))
            | false ↦ λ f. rw e refl
          ] refl
      | false ↦ λ e.
          elim (is_eq (marked_cmp y r)) as (λ b. is_eq (marked_cmp y r) ≡ b → (if b then without_one marked_cmp rs x else r ∷ without_one marked_cmp (without_one marked_cmp rs x) y) ≡ without_one marked_cmp (if b then rs else r ∷ without_one marked_cmp rs y) x) [
            | true ↦ λ f. refl
            | false ↦ λ f. rw e (ap (λ (ms : List MarkedRow). r ∷ ms) (one_by_one x y rs))
          ] refl
    ] refl

-- in whatever order they are removed, the same stand
without_ordered : (rows removed : List MarkedRow) → without marked_cmp rows (ordered marked_cmp removed) ≡ without marked_cmp rows removed
without_ordered rows removed =
    ap (λ (f : List MarkedRow → List MarkedRow). f rows)
    (same_if_swaps marked_total marked_tells (λ (xs ms : List MarkedRow). without marked_cmp ms xs)
    (λ x xs ys e. ap (λ (f : List MarkedRow → List MarkedRow). λ (ms : List MarkedRow). f (without_one marked_cmp ms x)) e)
    (λ x y xs. λ i ms. without marked_cmp (one_by_one x y ms i) xs)
    (ordered marked_cmp removed) removed (weight_ordered marked_cmp removed))

-- a row that none of the removed is stays in front
stays_first : (q : MarkedRow → Bool) (m : MarkedRow) → q m ≡ false → (removed : List MarkedRow) → AllByRecursion (λ x. q x ≡ true) removed → (rows : List MarkedRow)
    → without marked_cmp (m ∷ rows) removed ≡ m ∷ without marked_cmp rows removed
stays_first q m fails [] all rows = refl
stays_first q m fails (x ∷ xs) all rows =
    elim (is_eq (marked_cmp x m)) as (λ b. is_eq (marked_cmp x m) ≡ b → without marked_cmp (if b then rows else m ∷ without_one marked_cmp rows x) xs ≡ m ∷ without marked_cmp (without_one marked_cmp rows x) xs) [
      | true ↦ λ e. let same : q x ≡ q m = ap q (tied_tells x m e) in let passes : q x ≡ true = all.0 in absurd cc
      | false ↦ λ e. stays_first q m fails xs all.1 (without_one marked_cmp rows x)
    ] refl

without_first : (m : MarkedRow) (ms : List MarkedRow) → without_one marked_cmp (m ∷ ms) m ≡ ms
without_first m ms = ap (λ (r : Ordering). if is_eq r then ms else m ∷ without_one marked_cmp ms m) (tied_itself marked_total m)

without_filtered : (q : MarkedRow → Bool) (rows : List MarkedRow) → without marked_cmp rows (filter q rows) ≡ filter (λ m. not (q m)) rows
without_filtered q [] = refl
without_filtered q (m ∷ ms) =
    elim (q m) as (λ b. q m ≡ b → without marked_cmp (m ∷ ms) (cond b (m ∷ filter q ms) (filter q ms)) ≡ cond (not b) (m ∷ filter (λ m. not (q m)) ms) (filter (λ m. not (q m)) ms)) [
      | true ↦ λ e. ap (λ (rows : List MarkedRow). without marked_cmp rows (filter q ms)) (without_first m ms) ∙ without_filtered q ms
      | false ↦ λ e. stays_first q m e (filter q ms) (recursion_from_All (λ x. q x ≡ true) (filter q ms) (filter_passes q ms)) ms ∙ ap (λ (rows : List MarkedRow). m ∷ rows) (without_filtered q ms)
    ] refl

-- without the rows that pass, those stand that don't
pub without_matched : (p : List Value → Bool) (rows : List MarkedRow) → without marked_cmp rows (ordered marked_cmp (filter (λ m. p m.row) rows)) ≡ filter (λ m. not (p m.row)) rows
without_matched p rows = without_ordered rows (filter (λ m. p m.row) rows) ∙ without_filtered (λ m. p m.row) rows

-- what stands among others

pub nothing_part : (tables : Tables) → IsPartOf [] (all_rows tables)
nothing_part tables = (all_rows tables, λ g. refl)

part_ordered : {X : Type 0} (cmp : X → X → Ordering) (xs ys : List X) → IsPartOf xs ys → IsPartOf (ordered cmp xs) ys
part_ordered cmp xs ys part = (part.0, λ g. omega (arith, weight_append g (ordered cmp xs) part.0, weight_append g xs part.0, weight_ordered cmp xs g, part.1 g))

part_filter : {X : Type 0} (q : X → Bool) (xs : List X) → IsPartOf (filter q xs) xs
part_filter q xs = (filter (λ x. not (q x)) xs, λ g. weight_append g (filter q xs) (filter (λ x. not (q x)) xs) ∙ halves q xs g)
  where
    halves : {X : Type 0} (q : X → Bool) (xs : List X) (g : X → ℕ) → weight g (filter q xs) + weight g (filter (λ x. not (q x)) xs) ≡ weight g xs
    halves q [] g = refl
    halves q (x ∷ xs) g =
        elim (q x) as (λ b. weight g (cond b (x ∷ filter q xs) (filter q xs)) + weight g (cond (not b) (x ∷ filter (λ x. not (q x)) xs) (filter (λ x. not (q x)) xs)) ≡ g x + weight g xs) [
          | true ↦ omega (arith, halves q xs g)
          | false ↦ omega (arith, halves q xs g)
        ]

part_trans : {X : Type 0} (xs ys zs : List X) → IsPartOf xs ys → IsPartOf ys zs → IsPartOf xs zs
part_trans xs ys zs left right = (
  left.0 ++ right.0,
  λ g. omega (arith, weight_append g xs (left.0 ++ right.0), weight_append g left.0 right.0, weight_append g xs left.0, weight_append g ys right.0, left.1 g, right.1 g),
)

part_behind : {X : Type 0} (xs front ys : List X) → IsPartOf xs ys → IsPartOf xs (front ++ ys)
part_behind xs front ys part = (
  front ++ part.0,
  λ g. omega (arith, weight_append g xs (front ++ part.0), weight_append g front part.0, weight_append g xs part.0, weight_append g front ys, part.1 g),
)

table_part : (table : List ℕ) (tables : Tables) → IsPartOf (marked_rows_of table tables) (all_rows tables)
table_part table [] = ([], λ g. refl)
table_part table (t ∷ ts) =
    elim (same_text t.name table) as (λ b. IsPartOf (option_map_or (λ t. t.rows) (cond b (Some t) (find (λ t. same_text t.name table) ts)) []) (t.rows ++ all_rows ts)) [
      | true ↦ (all_rows ts, λ g. refl)
      | false ↦ part_behind (marked_rows_of table ts) t.rows (all_rows ts) (table_part table ts)
    ]

pub matched_part : (p : List Value → Bool) (table : List ℕ) (tables : Tables) → IsPartOf (ordered marked_cmp (filter (λ m. p m.row) (marked_rows_of table tables))) (all_rows tables)
matched_part p table tables =
    let rows = marked_rows_of table tables in
    part_ordered marked_cmp (filter (λ m. p m.row) rows) (all_rows tables)
    (part_trans (filter (λ m. p m.row) rows) rows (all_rows tables) (part_filter (λ m. p m.row) rows) (table_part table tables))

-- what holds of each member holds of each that passes, and in whatever order

pub all_ordered : {X : Type 0} (cmp : X → X → Ordering) (P : X → Type 0) (xs : List X) → AllByRecursion P xs → AllByRecursion P (ordered cmp xs)
all_ordered cmp P [] all = tt
all_ordered cmp P (x ∷ xs) all = all_placed cmp P x (ordered cmp xs) all.0 (all_ordered cmp P xs all.1)

pub all_matched : {X : Type 0} (cmp : X → X → Ordering) (q : X → Bool) (P : X → Type 0) (xs : List X) → AllByRecursion P xs → AllByRecursion P (ordered cmp (filter q xs))
all_matched cmp q P xs all = all_ordered cmp P (filter q xs) (recursion_from_All P (filter q xs) (All-filter q P xs (All-from_recursion P xs all)))

-- all pass or none

pub filter_all : {X : Type 0} (q : X → Bool) (xs : List X) → AllByRecursion (λ x. q x ≡ true) xs → filter q xs ≡ xs
filter_all q [] all = refl
filter_all {X} q (x ∷ xs) all = rw all.0 (ap (λ (ys : List X). x ∷ ys) (filter_all q xs all.1))

pub filter_none : {X : Type 0} (q : X → Bool) (xs : List X) → AllByRecursion (λ x. q x ≡ false) xs → filter q xs ≡ []
filter_none q [] all = refl
filter_none q (x ∷ xs) all = rw all.0 (filter_none q xs all.1)

-- rows that are all of one table

pub removed_here : (t : Table) (removed : List MarkedRow) → AllByRecursion (λ m. m.mark.table ≡ t.name) removed → removed_from t removed ≡ removed
removed_here t removed all =
    filter_all (λ m. same_text m.mark.table t.name) removed (all_weaker removed (λ m e. ap (λ (name : List ℕ). same_text name t.name) e ∙ same_text_self t.name) all)

pub removed_elsewhere : (t : Table) (name : List ℕ) (removed : List MarkedRow) → same_text name t.name ≡ false → AllByRecursion (λ m. m.mark.table ≡ name) removed → removed_from t removed ≡ []
removed_elsewhere t name removed other all =
    filter_none (λ m. same_text m.mark.table t.name) removed (all_weaker removed (λ m e. ap (λ (name : List ℕ). same_text name t.name) e ∙ other) all)
