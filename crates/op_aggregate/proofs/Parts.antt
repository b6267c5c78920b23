-- The groups of the rows of all parts, made of what each part keeps.
use Rattle.std.proofs.Common.{◌≡◌, ℕ, Bool, true, false, cond, ◌||◌, ◌&&◌, List, [], ◌∷◌, ◌++◌, append_assoc, map, filter, length, drop, refl, sym, ap, ◌∙◌}
use Rattle.std.specs.List.{flat_map, list_all, range_with_len, AllByRecursion}
use Rattle.std.proofs.lemmas.List.{length-map, get_or_append_left}
use Rattle.std.proofs.lemmas.List.Elements.{filter-append}
use Rattle.std.proofs.lemmas.List.FromFn.{fill_by_all}
use Rattle.std.proofs.lemmas.Option.{unwrap_or-slice_get}
use Rattle.lake_values.specs.declared.values.Value.TheVariants.{Null}
use Rattle.sql_model.specs.declared.bound.BoundAgg.{BoundAgg}
use Rattle.lake_values.specs.Rows.{value_at}
use Rattle.sql_model.specs.Groups.{aggregate, same_row, distinct, key_of, group_keys, members, group_row, groups}
use Rattle.op_aggregate.specs.Fits.{finals_fit, group_fits}
use Rattle.op_aggregate.specs.Partials.{kept, partial_rows, finals, finished_rows}
use Rattle.op_aggregate.proofs.Distinct.{Row, same_itself, same_tells, among, other_row, distinct-parts, found_once}
use Rattle.op_aggregate.proofs.Kept.{Rows, all_of, end_fits, group_fits-parts, map_of_map, finals-parts}

-- ---- lists joined end to end

filter-flat_map : {X : Type 0} (q : Row → Bool) (f : X → Rows) (xs : List X) → filter q (flat_map f xs) ≡ flat_map (λ x. filter q (f x)) xs
filter-flat_map q f [] = refl
filter-flat_map q f (x ∷ xs) = filter-append q (f x) (flat_map f xs) ∙ ap (λ (l : Rows). filter q (f x) ++ l) (filter-flat_map q f xs)

map-append : {X Y : Type 0} (g : X → Y) (xs ys : List X) → map g (xs ++ ys) ≡ map g xs ++ map g ys
map-append g [] ys = refl
map-append g (x ∷ xs) ys = ap (λ l. g x ∷ l) (map-append g xs ys)

map-flat_map : {X Y Z : Type 0} (g : Y → Z) (f : X → List Y) (xs : List X) → map g (flat_map f xs) ≡ flat_map (λ x. map g (f x)) xs
map-flat_map g f [] = refl
map-flat_map g f (x ∷ xs) = map-append g (f x) (flat_map f xs) ∙ ap (λ l. map g (f x) ++ l) (map-flat_map g f xs)

flat_map_agrees : {X Y : Type 0} (f g : X → List Y) → ((x : X) → f x ≡ g x) → (xs : List X) → flat_map f xs ≡ flat_map g xs
flat_map_agrees f g same [] = refl
flat_map_agrees f g same (x ∷ xs) = ap (λ l. l ++ flat_map f xs) (same x) ∙ ap (λ l. g x ++ l) (flat_map_agrees f g same xs)

flat_map-append : {X Y : Type 0} (f : X → List Y) (xs ys : List X) → flat_map f (xs ++ ys) ≡ flat_map f xs ++ flat_map f ys
flat_map-append f [] ys = refl
flat_map-append f (x ∷ xs) ys = ap (λ l. f x ++ l) (flat_map-append f xs ys) ∙ sym (append_assoc (f x) (flat_map f xs) (flat_map f ys))

filter_of_map_step : (p : Row → Bool) (f : Row → Row) (x : Row) (xs kept : Rows) (b : Bool) → xs ≡ map f kept → cond b (f x ∷ xs) xs ≡ map f (cond b (x ∷ kept) kept)
filter_of_map_step p f x xs kept true e = ap (λ (l : Rows). f x ∷ l) e
filter_of_map_step p f x xs kept false e = e

filter_of_map : (p : Row → Bool) (f : Row → Row) (xs : Rows) → filter p (map f xs) ≡ map f (filter (λ x. p (f x)) xs)
filter_of_map p f [] = refl
filter_of_map p f (x ∷ xs) = filter_of_map_step p f x (filter p (map f xs)) (filter (λ x. p (f x)) xs) (p (f x)) (filter_of_map p f xs)

-- ---- where something holds of each element

filter_step : (P : Row → Type 0) (x : Row) (kept : Rows) (b : Bool) → P x → AllByRecursion P kept → AllByRecursion P (cond b (x ∷ kept) kept)
filter_step P x kept true first all = (first, all)
filter_step P x kept false first all = all

pub all_filter : (P : Row → Type 0) (q : Row → Bool) (xs : Rows) → AllByRecursion P xs → AllByRecursion P (filter q xs)
all_filter P q [] all = tt
all_filter P q (x ∷ xs) all = filter_step P x (filter q xs) (q x) all.0 (all_filter P q xs all.1)

-- the width of the keys
abbrev IsWide : ℕ → Row → Type 0
IsWide n k = length k ≡ n

pub all_distinct : (P : Row → Type 0) (xs : Rows) → AllByRecursion P xs → AllByRecursion P (distinct xs)
all_distinct P [] all = tt
all_distinct P (x ∷ xs) all = (all.0, all_filter P (other_row x) (distinct xs) (all_distinct P xs all.1))

pub wide_keys_of : (columns : List ℕ) (rows : Rows) → AllByRecursion (IsWide (length columns)) (map (key_of columns) rows)
wide_keys_of columns [] = tt
wide_keys_of columns (r ∷ rows) = (length-map columns (value_at r), wide_keys_of columns rows)

pub map_agrees_on : {Y : Type 0} (P : Row → Type 0) (f g : Row → Y) → ((x : Row) → P x → f x ≡ g x) → (xs : Rows) → AllByRecursion P xs → map f xs ≡ map g xs
map_agrees_on P f g same [] all = refl
map_agrees_on P f g same (x ∷ xs) all = ap (λ y. y ∷ map f xs) (same x all.0) ∙ ap (λ l. g x ∷ l) (map_agrees_on P f g same xs all.1)

filter_agrees_on : (P : Row → Type 0) (p q : Row → Bool) → ((x : Row) → P x → p x ≡ q x) → (xs : Rows) → AllByRecursion P xs → filter p xs ≡ filter q xs
filter_agrees_on P p q same [] all = refl
filter_agrees_on P p q same (x ∷ xs) all = ap (λ b. cond b (x ∷ filter p xs) (filter p xs)) (same x all.0) ∙ ap (λ l. cond (q x) (x ∷ l) l) (filter_agrees_on P p q same xs all.1)

-- ---- a key stands in front of what is kept

key_first : (k rest : Row) → key_of (range_with_len 0 (length k)) (k ++ rest) ≡ k
key_first k rest =
    sym (fill_by_all (value_at (k ++ rest)) k (length k) Null refl (λ j lt. sym (unwrap_or-slice_get (k ++ rest) j Null ∙ get_or_append_left k rest Null j lt)))

drop_key : (k rest : Row) → drop (length k) (k ++ rest) ≡ rest
drop_key [] rest = refl
drop_key (x ∷ k) rest = drop_key k rest

-- ---- without group columns all rows are one group

pub all_members : (rows : Rows) → members [] [] rows ≡ rows
all_members [] = refl
all_members (r ∷ rows) = ap (λ (l : Rows). r ∷ l) (all_members rows)

map_itself : (rows : Rows) → map (drop 0) rows ≡ rows
map_itself [] = refl
map_itself (r ∷ rows) = ap (λ (l : Rows). r ∷ l) (map_itself rows)

one_row_each : (aggs : List BoundAgg) (parts : List Rows) → flat_map (partial_rows [] aggs) parts ≡ map (λ p. flat_map (kept p) aggs) parts
one_row_each aggs [] = refl
one_row_each aggs (p ∷ parts) = ap (λ (q : Rows). flat_map (kept q) aggs ∷ flat_map (partial_rows [] aggs) parts) (all_members p) ∙ ap (λ (l : Rows). flat_map (kept p) aggs ∷ l) (one_row_each aggs parts)

one_group : (aggs : List BoundAgg) (parts : List Rows) → finished_rows 0 aggs (flat_map (partial_rows [] aggs) parts) ≡ groups [] aggs (all_of parts)
one_group aggs parts =
    let rows : Rows = flat_map (partial_rows [] aggs) parts in
    ap (λ (l : Rows). finals aggs l ∷ []) (map_itself (members [] [] rows) ∙ all_members rows ∙ one_row_each aggs parts)
    ∙ ap (λ (l : Row). l ∷ []) (finals-parts aggs parts)
    ∙ ap (λ (l : Rows). map (aggregate l) aggs ∷ []) (sym (all_members (all_of parts)))

-- ---- with group columns

neither : (a b : Bool) → (a || b) ≡ false → (a ≡ false) × (b ≡ false)
neither true b e = absurd (cc)
neither false b e = (refl, e)

module _ (columns : List ℕ) (aggs : List BoundAgg) where
  abbrev width : ℕ
  width = length columns

  abbrev firsts : List ℕ
  firsts = range_with_len 0 width

  abbrev keys : Rows → Rows
  keys p = map (key_of columns) p

  abbrev tail_of : Rows → Row → Row
  tail_of p k = flat_map (kept (members columns k p)) aggs

  key_of_part : (p : Rows) (k : Row) → IsWide width k → key_of firsts (k ++ tail_of p k) ≡ k
  key_of_part p k wide = ap (λ (n : ℕ). key_of (range_with_len 0 n) (k ++ tail_of p k)) (sym wide) ∙ key_first k (tail_of p k)

  -- a row of the group among those of a part
  own_row : (p : Rows) (k : Row) → filter (λ r. same_row k (key_of firsts r)) (map (λ k. k ++ tail_of p k) (distinct (keys p))) ≡ cond (among (keys p) k) ((k ++ tail_of p k) ∷ []) []
  own_row p k =
      filter_of_map (λ r. same_row k (key_of firsts r)) (λ k. k ++ tail_of p k) (distinct (keys p))
      ∙ ap (map (λ k. k ++ tail_of p k))
      (filter_agrees_on (IsWide width) (λ j. same_row k (key_of firsts (j ++ tail_of p j))) (λ j. same_row k j) (λ j wide. ap (same_row k) (key_of_part p j wide)) (distinct (keys p)) (all_distinct (IsWide width) (keys p) (wide_keys_of columns p))
      ∙ found_once k (keys p))
      ∙ one (among (keys p) k)
    where
      one : (b : Bool) → map (λ k. k ++ tail_of p k) (cond b (k ∷ []) []) ≡ cond b ((k ++ tail_of p k) ∷ []) []
      one true = refl
      one false = refl

  -- the members of the group in each part that has it
  abbrev parts_of : Row → List Rows → List Rows
  parts_of k parts = flat_map (λ p. cond (among (keys p) k) (members columns k p ∷ []) []) parts

  same_back : (k r : Row) (s : Bool) → same_row k (key_of columns r) ≡ s → same_row (key_of columns r) k ≡ false → s ≡ false
  same_back k r true e apart = sym (ap (λ (x : Row). same_row x k) (sym (same_tells k (key_of columns r) e)) ∙ same_itself k) ∙ apart
  same_back k r false e apart = refl

  pub none_of_it : (k : Row) (p : Rows) → among (keys p) k ≡ false → members columns k p ≡ []
  none_of_it k [] e = refl
  none_of_it k (r ∷ p) e =
      ap (λ b. cond b (r ∷ members columns k p) (members columns k p)) (same_back k r (same_row k (key_of columns r)) refl (neither (same_row (key_of columns r) k) (among (keys p) k) e).0)
      ∙ none_of_it k p (neither (same_row (key_of columns r) k) (among (keys p) k) e).1

  members_step : (k : Row) (p : Rows) (parts : List Rows) (b : Bool) → among (keys p) k ≡ b → all_of (cond b (members columns k p ∷ []) [] ++ parts) ≡ members columns k p ++ all_of parts
  members_step k p parts true e = refl
  members_step k p parts false e = ap (λ (l : Rows). l ++ all_of parts) (sym (none_of_it k p e))

  members_of_all : (k : Row) (parts : List Rows) → all_of (parts_of k parts) ≡ members columns k (all_of parts)
  members_of_all k [] = refl
  members_of_all k (p ∷ parts) =
      members_step k p (parts_of k parts) (among (keys p) k) refl
      ∙ ap (λ (l : Rows). members columns k p ++ l) (members_of_all k parts)
      ∙ sym (filter-append (λ r. same_row k (key_of columns r)) p (all_of parts))

  abbrev kept_of : Rows → Row
  kept_of q = flat_map (kept q) aggs

  tails_step : (k : Row) (p : Rows) (rows : Rows) (parts : List Rows) (b : Bool) → IsWide width k → map (drop width) rows ≡ map kept_of parts
      → map (drop width) (cond b ((k ++ tail_of p k) ∷ []) [] ++ rows) ≡ map kept_of (cond b (members columns k p ∷ []) [] ++ parts)
  tails_step k p rows parts true wide e =
      ap (λ (l : Row). l ∷ map (drop width) rows) (ap (λ (n : ℕ). drop n (k ++ tail_of p k)) (sym wide) ∙ drop_key k (tail_of p k)) ∙ ap (λ (l : Rows). tail_of p k ∷ l) e
  tails_step k p rows parts false wide e = e

  tails : (k : Row) (parts : List Rows) → IsWide width k → map (drop width) (flat_map (λ p. cond (among (keys p) k) ((k ++ tail_of p k) ∷ []) []) parts) ≡ map kept_of (parts_of k parts)
  tails k [] wide = refl
  tails k (p ∷ parts) wide = tails_step k p (flat_map (λ p. cond (among (keys p) k) ((k ++ tail_of p k) ∷ []) []) parts) (parts_of k parts) (among (keys p) k) wide (tails k parts wide)

  abbrev kept_rows : Rows → Rows
  kept_rows p = map (λ k. k ++ tail_of p k) (distinct (keys p))

  map_same : (rows : Rows) → map (λ k. k) rows ≡ rows
  map_same [] = refl
  map_same (r ∷ rows) = ap (λ (l : Rows). r ∷ l) (map_same rows)

  keys_of_part : (p : Rows) → map (key_of firsts) (kept_rows p) ≡ distinct (keys p)
  keys_of_part p =
      map_of_map (key_of firsts) (λ k. k ++ tail_of p k) (distinct (keys p))
      ∙ map_agrees_on (IsWide width) (λ k. key_of firsts (k ++ tail_of p k)) (λ k. k) (λ k wide. key_of_part p k wide) (distinct (keys p)) (all_distinct (IsWide width) (keys p) (wide_keys_of columns p))
      ∙ map_same (distinct (keys p))

  keys_of_all : (parts : List Rows) → distinct (map (key_of firsts) (flat_map kept_rows parts)) ≡ distinct (keys (all_of parts))
  keys_of_all parts =
      ap distinct (map-flat_map (key_of firsts) kept_rows parts ∙ flat_map_agrees (λ p. map (key_of firsts) (kept_rows p)) (λ p. distinct (keys p)) keys_of_part parts)
      ∙ distinct-parts keys parts
      ∙ ap distinct (sym (map-flat_map (key_of columns) (λ p. p) parts))

  row_of_all : (parts : List Rows) (k : Row) → IsWide width k → (k ++ finals aggs (map (drop width) (members firsts k (flat_map kept_rows parts)))) ≡ group_row aggs k (members columns k (all_of parts))
  row_of_all parts k wide =
      ap (λ (l : Rows). k ++ finals aggs l)
      (ap (map (drop width)) (filter-flat_map (λ r. same_row k (key_of firsts r)) kept_rows parts ∙ flat_map_agrees (λ p. filter (λ r. same_row k (key_of firsts r)) (kept_rows p)) (λ p. cond (among (keys p) k) ((k ++ tail_of p k) ∷ []) []) (λ p. own_row p k) parts)
      ∙ tails k parts wide)
      ∙ ap (λ (l : Row). k ++ l) (finals-parts aggs (parts_of k parts))
      ∙ ap (λ (l : Rows). k ++ map (aggregate l) aggs) (members_of_all k parts)

  rows_of_all : (parts : List Rows) → map (λ k. k ++ finals aggs (map (drop width) (members firsts k (flat_map kept_rows parts)))) (distinct (map (key_of firsts) (flat_map kept_rows parts)))
      ≡ map (λ k. group_row aggs k (members columns k (all_of parts))) (distinct (keys (all_of parts)))
  rows_of_all parts =
      let made : Row → Row = λ k. k ++ finals aggs (map (drop width) (members firsts k (flat_map kept_rows parts))) in
      ap (map made) (keys_of_all parts)
      ∙ map_agrees_on (IsWide width) made (λ k. group_row aggs k (members columns k (all_of parts))) (row_of_all parts) (distinct (keys (all_of parts))) (all_distinct (IsWide width) (keys (all_of parts)) (wide_keys_of columns (all_of parts)))

  tails_of_all : (parts : List Rows) (k : Row) → IsWide width k → map (drop width) (members firsts k (flat_map kept_rows parts)) ≡ map kept_of (parts_of k parts)
  tails_of_all parts k wide =
      ap (map (drop width)) (filter-flat_map (λ r. same_row k (key_of firsts r)) kept_rows parts ∙ flat_map_agrees (λ p. filter (λ r. same_row k (key_of firsts r)) (kept_rows p)) (λ p. cond (among (keys p) k) ((k ++ tail_of p k) ∷ []) []) (λ p. own_row p k) parts)
      ∙ tails k parts wide

  fit_of_all : (parts : List Rows) (k : Row) → IsWide width k → group_fits aggs (map (drop width) (members firsts k (flat_map kept_rows parts))) ≡ list_all (end_fits (members columns k (all_of parts))) aggs
  fit_of_all parts k wide =
      ap (group_fits aggs) (tails_of_all parts k wide)
      ∙ group_fits-parts aggs (parts_of k parts)
      ∙ ap (λ (l : Rows). list_all (end_fits l) aggs) (members_of_all k parts)

  all_agrees_on : (P : Row → Type 0) (p q : Row → Bool) → ((x : Row) → P x → p x ≡ q x) → (xs : Rows) → AllByRecursion P xs → list_all p xs ≡ list_all q xs
  all_agrees_on P p q same [] all = refl
  all_agrees_on P p q same (x ∷ xs) all = λ i. same x all.0 i && all_agrees_on P p q same xs all.1 i

  fits_of_all : (parts : List Rows) → list_all (λ k. group_fits aggs (map (drop width) (members firsts k (flat_map kept_rows parts)))) (distinct (map (key_of firsts) (flat_map kept_rows parts)))
      ≡ list_all (λ k. list_all (end_fits (members columns k (all_of parts))) aggs) (distinct (keys (all_of parts)))
  fits_of_all parts =
      let fit : Row → Bool = λ k. group_fits aggs (map (drop width) (members firsts k (flat_map kept_rows parts))) in
      ap (list_all fit) (keys_of_all parts)
      ∙ all_agrees_on (IsWide width) fit (λ k. list_all (end_fits (members columns k (all_of parts))) aggs) (fit_of_all parts) (distinct (keys (all_of parts))) (all_distinct (IsWide width) (keys (all_of parts)) (wide_keys_of columns (all_of parts)))

one_group_fits : (aggs : List BoundAgg) (parts : List Rows) → finals_fit 0 aggs (flat_map (partial_rows [] aggs) parts) ≡ list_all (λ k. list_all (end_fits (members [] k (all_of parts))) aggs) ([] ∷ [])
one_group_fits aggs parts =
    let rows : Rows = flat_map (partial_rows [] aggs) parts in
    ap (λ (l : Rows). group_fits aggs l && true) (map_itself (members [] [] rows) ∙ all_members rows ∙ one_row_each aggs parts)
    ∙ ap (λ (b : Bool). b && true) (group_fits-parts aggs parts)
    ∙ ap (λ (l : Rows). list_all (end_fits l) aggs && true) (sym (all_members (all_of parts)))

-- the counts and sums made of the parts fit where those of all rows do
pub finals_fit-parts : (columns : List ℕ) (aggs : List BoundAgg) (parts : List Rows) → finals_fit (length columns) aggs (flat_map (partial_rows columns aggs) parts) ≡ list_all (λ k. list_all (end_fits (members columns k (all_of parts))) aggs) (group_keys columns (all_of parts))
finals_fit-parts [] aggs parts = one_group_fits aggs parts
finals_fit-parts (c ∷ cs) aggs parts = fits_of_all (c ∷ cs) aggs parts

pub finished_are_groups : (columns : List ℕ) (aggs : List BoundAgg) (parts : List Rows) → finished_rows (length columns) aggs (flat_map (partial_rows columns aggs) parts) ≡ groups columns aggs (all_of parts)
finished_are_groups [] aggs parts = one_group aggs parts
finished_are_groups (c ∷ cs) aggs parts = rows_of_all (c ∷ cs) aggs parts
