-- The arguments that fit on all rows fit on the rows of each group, and the other way round.
use Rattle.std.proofs.Common.{◌≡◌, ℕ, ◌<◌, ◌≤◌, ◌^◌, pos, Bool, true, false, ◌||◌, ◌&&◌, not, cond, List, [], ◌∷◌, ◌++◌, length, map, filter, refl, sym, ap, ◌∙◌, arith}
use Rattle.std.specs.List.{AllByRecursion, flat_map, list_all}
use Rattle.std.proofs.lemmas.Bool.{le-leb}
use Rattle.lake_values.specs.declared.values.Value.{Value}
use Rattle.sql_model.specs.declared.bound.BoundAgg.{BoundAgg}
use Rattle.sql_model.specs.declared.bound.BoundAgg.TheVariants.{CountAll, Count, Sum, Min, Max}
use Rattle.sql_model.specs.declared.bound.BoundExpr.{BoundExpr}
use Rattle.sql_model.specs.Evaluation.{fits, is_null, is_64_bits}
use Rattle.sql_model.specs.Groups.{aggregate, aggregate_fits, groups_fit, argument_fits, same_row, key_of, group_keys, members, values_on}
use Rattle.op_aggregate.specs.Fits.{part_fits, arguments_fit, finals_fit}
use Rattle.op_aggregate.specs.Partials.{kept, partial_rows}
use Rattle.op_aggregate.proofs.Distinct.{Row, same_itself, among, among-distinct}
use Rattle.op_aggregate.proofs.Kept.{Rows, all_of, end_fits}
use Rattle.op_aggregate.proofs.Parts.{finals_fit-parts}
use Rattle.op_aggregate.proofs.Leading.{groups_of}

-- ---- an aggregate of a part that is no SUM

pub count_fits : (n : ℕ) → n < 2 ^ 63 → is_64_bits (pos n) ≡ true
count_fits n few = le-leb n 9223372036854775807 (omega arith)

filter_short : (p : Value → Bool) (vs : List Value) → length (filter p vs) ≤ length vs
filter_short p [] = omega arith
filter_short p (v ∷ vs) =
    let behind = filter_short p vs in
    elim (p v) as (λ b. length (cond b (v ∷ filter p vs) (filter p vs)) ≤ length (v ∷ vs)) [ true ↦ omega (arith, behind) | false ↦ omega (arith, behind) ]

values_many : (e : BoundExpr) (rows : Rows) → length (values_on e rows) ≡ length rows
values_many e [] = refl
values_many e (r ∷ rows) = omega (arith, values_many e rows)

and_true : (a b : Bool) → b ≡ true → a ≡ (a && b)
and_true true b e = sym e
and_true false b e = refl

pub others_fit : (agg : BoundAgg) → ((e : BoundExpr) → agg ≡ Sum e → ⊥) → (rows : Rows) → length rows < 2 ^ 63 → aggregate_fits rows agg ≡ part_fits rows agg
others_fit CountAll other rows few = count_fits (length rows) few
others_fit (Count e) other rows few =
    let n : ℕ = length (filter (λ v. not (is_null v)) (values_on e rows)) in
    let short = filter_short (λ v. not (is_null v)) (values_on e rows) in
    let many = values_many e rows in
    sym (and_true (argument_fits rows e) (is_64_bits (pos n)) (count_fits n (omega (arith, short, many))))
others_fit (Sum e) other rows few = absurd (other e refl)
others_fit (Min e) other rows few = refl
others_fit (Max e) other rows few = refl

pub others_kept : (agg : BoundAgg) → ((e : BoundExpr) → agg ≡ Sum e → ⊥) → (rows : Rows) → kept rows agg ≡ aggregate rows agg ∷ []
others_kept CountAll other rows = refl
others_kept (Count e) other rows = refl
others_kept (Sum e) other rows = absurd (other e refl)
others_kept (Min e) other rows = refl
others_kept (Max e) other rows = refl

-- ---- tests of all members

both_ways : (a b : Bool) → (a ≡ true → b ≡ true) → (b ≡ true → a ≡ true) → a ≡ b
both_ways true b there back = sym (there refl)
both_ways false true there back = back refl
both_ways false false there back = refl

and_parts : (a b : Bool) → (a && b) ≡ true → (a ≡ true) × (b ≡ true)
and_parts true b e = (refl, e)
and_parts false b e = absurd (cc)

and_from : (a b : Bool) → a ≡ true → b ≡ true → (a && b) ≡ true
and_from true b ea eb = eb
and_from false b ea eb = ea

all_every : {X : Type 0} (xs : List X) → list_all (λ x. true) xs ≡ true
all_every [] = refl
all_every (x ∷ xs) = all_every xs

four : (a b c d : Bool) → ((a && b) && (c && d)) ≡ ((a && c) && (b && d))
four true b true d = refl
four true true false d = refl
four true false false d = refl
four false b c d = refl

all_both : {X : Type 0} (p q : X → Bool) (xs : List X) → list_all (λ x. p x && q x) xs ≡ (list_all p xs && list_all q xs)
all_both p q [] = refl
all_both p q (x ∷ xs) = ap (λ b. (p x && q x) && b) (all_both p q xs) ∙ four (p x) (q x) (list_all p xs) (list_all q xs)

all_swapped : {X Y : Type 0} (f : X → Y → Bool) (xs : List X) (ys : List Y) → list_all (λ x. list_all (f x) ys) xs ≡ list_all (λ y. list_all (λ x. f x y) xs) ys
all_swapped f xs [] = all_every xs
all_swapped f xs (y ∷ ys) = all_both (λ x. f x y) (λ x. list_all (f x) ys) xs ∙ ap (λ b. list_all (λ x. f x y) xs && b) (all_swapped f xs ys)

pub all_agree : {X : Type 0} (p q : X → Bool) → ((x : X) → p x ≡ q x) → (xs : List X) → list_all p xs ≡ list_all q xs
all_agree p q same [] = refl
all_agree p q same (x ∷ xs) = λ i. same x i && all_agree p q same xs i

pub all-map : {X Y : Type 0} (p : Y → Bool) (f : X → Y) (xs : List X) → list_all p (map f xs) ≡ list_all (λ x. p (f x)) xs
all-map p f [] = refl
all-map p f (x ∷ xs) = ap (λ b. p (f x) && b) (all-map p f xs)

-- ---- the arguments, row by row

row_fits : BoundAgg → Row → Bool
row_fits CountAll r = true
row_fits (Count e) r = fits e r
row_fits (Sum e) r = fits e r
row_fits (Min e) r = fits e r
row_fits (Max e) r = fits e r

part_by_rows : (rows : Rows) (agg : BoundAgg) → part_fits rows agg ≡ list_all (row_fits agg) rows
unfolding row_fits
part_by_rows rows CountAll = sym (all_every rows)
part_by_rows rows (Count e) = refl
part_by_rows rows (Sum e) = refl
part_by_rows rows (Min e) = refl
part_by_rows rows (Max e) = refl

all_fit_on : List BoundAgg → Row → Bool
all_fit_on aggs r = list_all (λ agg. row_fits agg r) aggs

arguments_by_rows : (aggs : List BoundAgg) (rows : Rows) → arguments_fit aggs rows ≡ list_all (all_fit_on aggs) rows
unfolding all_fit_on
arguments_by_rows aggs rows = all_agree (part_fits rows) (λ agg. list_all (row_fits agg) rows) (part_by_rows rows) aggs ∙ all_swapped row_fits aggs rows

module _ (p : Row → Bool) where
  kept_pass : (q : Row → Bool) (x : Row) (kept : Rows) (b : Bool) → p x ≡ true → list_all p kept ≡ true → list_all p (cond b (x ∷ kept) kept) ≡ true
  kept_pass q x kept true here behind = and_from (p x) (list_all p kept) here behind
  kept_pass q x kept false here behind = behind

  pub all-filter : (q : Row → Bool) (rows : Rows) → list_all p rows ≡ true → list_all p (filter q rows) ≡ true
  all-filter q [] all = refl
  all-filter q (x ∷ rows) all =
      let parts = and_parts (p x) (list_all p rows) all in
      kept_pass q x (filter q rows) (q x) parts.0 (all-filter q rows parts.1)

  module _ (columns : List ℕ) where
    abbrev on_members : Rows → Row → Bool
    on_members rows k = list_all p (members columns k rows)

    to_members : (rows ks : Rows) → list_all p rows ≡ true → list_all (on_members rows) ks ≡ true
    to_members rows [] all = refl
    to_members rows (k ∷ ks) all = and_from (on_members rows k) (list_all (on_members rows) ks) (all-filter (λ r. same_row k (key_of columns r)) rows all) (to_members rows ks all)

    less_step : (r : Row) (rows : Rows) (b : Bool) → list_all p (cond b (r ∷ rows) rows) ≡ true → list_all p rows ≡ true
    less_step r rows true all = (and_parts (p r) (list_all p rows) all).1
    less_step r rows false all = all

    -- without the first row
    less : (r : Row) (rows ks : Rows) → list_all (on_members (r ∷ rows)) ks ≡ true → list_all (on_members rows) ks ≡ true
    less r rows [] all = refl
    less r rows (k ∷ ks) all =
        let parts = and_parts (on_members (r ∷ rows) k) (list_all (on_members (r ∷ rows)) ks) all in
        and_from (on_members rows k) (list_all (on_members rows) ks) (less_step r (members columns k rows) (same_row k (key_of columns r)) parts.0) (less r rows ks parts.1)

    first_step : (r : Row) (rows : Rows) (b : Bool) → b ≡ true → list_all p (cond b (r ∷ rows) rows) ≡ true → p r ≡ true
    first_step r rows true e all = (and_parts (p r) (list_all p rows) all).0
    first_step r rows false e all = absurd (cc)

    choose : (r : Row) (k : Row) (rows ks : Rows) (b : Bool) → same_row k (key_of columns r) ≡ b → (b || among ks (key_of columns r)) ≡ true → on_members (r ∷ rows) k ≡ true → (among ks (key_of columns r) ≡ true → p r ≡ true) → p r ≡ true
    choose r k rows ks true e found here behind = first_step r (members columns k rows) (same_row k (key_of columns r)) e here
    choose r k rows ks false e found here behind = behind found

    first : (r : Row) (rows ks : Rows) → among ks (key_of columns r) ≡ true → list_all (on_members (r ∷ rows)) ks ≡ true → p r ≡ true
    first r rows [] found all = absurd (cc)
    first r rows (k ∷ ks) found all =
        let parts = and_parts (on_members (r ∷ rows) k) (list_all (on_members (r ∷ rows)) ks) all in
        choose r k rows ks (same_row k (key_of columns r)) refl found parts.0 (λ behind. first r rows ks behind parts.1)

    from_members : (rows ks : Rows) → AllByRecursion (λ r. among ks (key_of columns r) ≡ true) rows → list_all (on_members rows) ks ≡ true → list_all p rows ≡ true
    from_members [] ks found all = refl
    from_members (r ∷ rows) ks found all = and_from (p r) (list_all p rows) (first r rows ks found.0 all) (from_members rows ks found.1 (less r rows ks all))

or_true : (a b : Bool) → b ≡ true → (a || b) ≡ true
or_true true b e = refl
or_true false b e = e

keys_found : (columns : List ℕ) (ks rows : Rows) → ((k : Row) → among (map (key_of columns) rows) k ≡ true → among ks k ≡ true) → AllByRecursion (λ r. among ks (key_of columns r) ≡ true) rows
keys_found columns ks [] within = tt
keys_found columns ks (r ∷ rows) within =
    let k : Row = key_of columns r in (
      within k (ap (λ b. b || among (map (key_of columns) rows) k) (same_itself k)),
      keys_found columns ks rows (λ j e. within j (or_true (same_row k j) (among (map (key_of columns) rows) j) e)),
    )

each_found : (columns : List ℕ) (rows : Rows) → AllByRecursion (λ r. among (group_keys columns rows) (key_of columns r) ≡ true) rows
each_found [] rows = alone rows
  where
    alone : (rows : Rows) → AllByRecursion (λ r. among ([] ∷ []) (key_of [] r) ≡ true) rows
    alone [] = tt
    alone (r ∷ rows) = (refl, alone rows)
each_found (c ∷ cs) rows = keys_found (c ∷ cs) (group_keys (c ∷ cs) rows) rows (λ k e. among-distinct (map (key_of (c ∷ cs)) rows) k ∙ e)

-- the arguments fit on all rows where they fit on those of each group
pub arguments_by_groups : (columns : List ℕ) (aggs : List BoundAgg) (rows : Rows) → list_all (arguments_fit aggs) (groups_of columns rows) ≡ arguments_fit aggs rows
arguments_by_groups columns aggs rows =
    let p : Row → Bool = all_fit_on aggs in
    all-map (arguments_fit aggs) (λ k. members columns k rows) (group_keys columns rows)
    ∙ all_agree (λ k. arguments_fit aggs (members columns k rows)) (on_members p columns rows) (λ k. arguments_by_rows aggs (members columns k rows)) (group_keys columns rows)
    ∙ both_ways (list_all (on_members p columns rows) (group_keys columns rows)) (list_all p rows) (from_members p columns rows (group_keys columns rows) (each_found columns rows)) (to_members p columns rows (group_keys columns rows))
    ∙ sym (arguments_by_rows aggs rows)

-- ---- groups fit where the arguments on all parts and the counts and sums of all rows do

split_fits : (rows : Rows) (agg : BoundAgg) → aggregate_fits rows agg ≡ (part_fits rows agg && end_fits rows agg)
split_fits rows CountAll = refl
split_fits rows (Count e) = refl
split_fits rows (Sum e) = refl
split_fits rows (Min e) = and_true (argument_fits rows e) true refl
split_fits rows (Max e) = and_true (argument_fits rows e) true refl

append_all : (p : Row → Bool) (xs ys : Rows) → list_all p (xs ++ ys) ≡ (list_all p xs && list_all p ys)
append_all p [] ys = refl
append_all p (x ∷ xs) ys = ap (λ b. p x && b) (append_all p xs ys) ∙ turned (p x) (list_all p xs) (list_all p ys)
  where
    turned : (a b c : Bool) → (a && (b && c)) ≡ ((a && b) && c)
    turned true b c = refl
    turned false b c = refl

parts_all : (p : Row → Bool) (parts : List Rows) → list_all p (all_of parts) ≡ list_all (list_all p) parts
parts_all p [] = refl
parts_all p (rows ∷ parts) = append_all p rows (all_of parts) ∙ ap (λ b. list_all p rows && b) (parts_all p parts)

arguments_by_parts : (aggs : List BoundAgg) (parts : List Rows) → arguments_fit aggs (all_of parts) ≡ list_all (arguments_fit aggs) parts
arguments_by_parts aggs parts =
    arguments_by_rows aggs (all_of parts) ∙ parts_all (all_fit_on aggs) parts
    ∙ sym (all_agree (arguments_fit aggs) (λ rows. list_all (all_fit_on aggs) rows) (arguments_by_rows aggs) parts)

pub groups_fit-parts : (columns : List ℕ) (aggs : List BoundAgg) (parts : List Rows) → groups_fit columns aggs (all_of parts) ≡ (list_all (arguments_fit aggs) parts && finals_fit (length columns) aggs (flat_map (partial_rows columns aggs) parts))
groups_fit-parts columns aggs parts =
    let rows : Rows = all_of parts in
    let ks : Rows = group_keys columns rows in
    let ends : Row → Bool = λ k. list_all (end_fits (members columns k rows)) aggs in
    all_agree (λ k. list_all (aggregate_fits (members columns k rows)) aggs) (λ k. arguments_fit aggs (members columns k rows) && ends k)
    (λ k. all_agree (aggregate_fits (members columns k rows)) (λ agg. part_fits (members columns k rows) agg && end_fits (members columns k rows) agg) (split_fits (members columns k rows)) aggs ∙ all_both (part_fits (members columns k rows)) (end_fits (members columns k rows)) aggs) ks
    ∙ all_both (λ k. arguments_fit aggs (members columns k rows)) ends ks
    ∙ ap (λ b. b && list_all ends ks) (sym (all-map (arguments_fit aggs) (λ k. members columns k rows) ks) ∙ arguments_by_groups columns aggs rows ∙ arguments_by_parts aggs parts)
    ∙ ap (λ b. list_all (arguments_fit aggs) parts && b) (sym (finals_fit-parts columns aggs parts))
