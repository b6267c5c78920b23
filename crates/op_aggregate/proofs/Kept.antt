-- What the parts of a group keep, put together, is the aggregate over all of its rows.
use Rattle.std.proofs.Common.{◌≡◌, ℕ, ℤ, pos, negsuc, ◌+ℤ◌, ◌*ℤ◌, ◌+◌, ◌^◌, Bool, true, ◌&&◌, not, List, [], ◌∷◌, ◌++◌, map, filter, length, drop, refl, sym, ap, ◌∙◌, arith}
use Rattle.std.specs.Int.{int_div_euclid, int_rem_euclid}
use Rattle.std.specs.List.{flat_map, list_all}
use Rattle.std.proofs.lemmas.Int.{ints}
use Rattle.std.proofs.lemmas.List.{length-append}
use Rattle.std.proofs.lemmas.List.Elements.{filter-append}
use Rattle.lake_values.specs.Order.{number_of}
use Rattle.lake_values.specs.declared.values.Value.{Value}
use Rattle.lake_values.specs.declared.values.Value.TheVariants.{Null, Int, Text}
use Rattle.sql_model.specs.declared.bound.BoundAgg.{BoundAgg}
use Rattle.sql_model.specs.declared.bound.BoundAgg.TheVariants.{CountAll, Count, Sum, Min, Max}
use Rattle.sql_model.specs.declared.bound.BoundExpr.{BoundExpr}
use Rattle.sql_model.specs.Evaluation.{eval, is_64_bits, is_null}
use Rattle.lake_values.specs.Rows.{value_at}
use Rattle.sql_model.specs.Groups.{aggregate, joined_by, summary, sum_of_both, lesser, greater, number, values_on}
use Rattle.sql_model.proofs.Summaries.{Swaps, sum_swaps, lesser_swaps, greater_swaps}
use Rattle.op_aggregate.specs.Fits.{final_fits, group_fits}
use Rattle.op_aggregate.specs.Partials.{halves, whole, kept, columns_kept, total, final, finals}

abbrev pub Rows : Type 0
Rows = List (List Value)

abbrev pub all_of : List Rows → Rows
all_of parts = flat_map (λ p. p) parts

-- ---- the halves of sums, summed apart

high_half : Value → Value
high_half v = value_at (halves v) 0

low_half : Value → Value
low_half v = value_at (halves v) 1

-- The sums of both halves stand for the sum: where the high one is no number, nothing but no numbers was added.
abbrev Stand : Value → Value → Value → Type 0
Stand (Int high) low v = v ≡ Int ((high *ℤ pos (2 ^ 63)) +ℤ number_of low)
Stand Null low v = (v ≡ Null) × (number_of low ≡ pos 0)
Stand (Text t) low v = (v ≡ Text t) × (number_of low ≡ pos 0)

pub number-joined : (v w : Value) → number_of (joined_by sum_of_both v w) ≡ number_of v +ℤ number_of w
number-joined Null w = omega (arith, ints)
number-joined (Int m) Null = omega (arith, ints)
number-joined (Int m) (Int n) = refl
number-joined (Int m) (Text t) = refl
number-joined (Text s) Null = refl
number-joined (Text s) (Int n) = refl
number-joined (Text s) (Text t) = refl

pub halves_are : (n : ℤ) → n ≡ (int_div_euclid n (pos (2 ^ 63)) *ℤ pos (2 ^ 63)) +ℤ int_rem_euclid n (pos (2 ^ 63))
halves_are (pos n) = omega (arith, ints)
halves_are (negsuc n) = omega (arith, ints)

one_more_half : (v high low rest : Value) → Stand high low rest → Stand (joined_by sum_of_both (high_half v) high) (joined_by sum_of_both (low_half v) low) (joined_by sum_of_both v rest)
unfolding high_half low_half
one_more_half Null high low rest stand = stand
one_more_half (Int n) Null low rest stand =
    let halved = halves_are n in
    let lows = number-joined (Int (int_rem_euclid n (pos (2 ^ 63)))) low in
    ap (joined_by sum_of_both (Int n)) stand.0 ∙ ap Int (omega (arith, ints, halved, lows, stand.1))
one_more_half (Int n) (Int m) low rest stand =
    let halved = halves_are n in
    let lows = number-joined (Int (int_rem_euclid n (pos (2 ^ 63)))) low in
    ap (joined_by sum_of_both (Int n)) stand ∙ ap Int (omega (arith, ints, halved, lows))
one_more_half (Int n) (Text t) low rest stand =
    let halved = halves_are n in
    let lows = number-joined (Int (int_rem_euclid n (pos (2 ^ 63)))) low in
    ap (joined_by sum_of_both (Int n)) stand.0 ∙ ap Int (omega (arith, ints, halved, lows, stand.1))
one_more_half (Text t) Null low rest stand = (ap (joined_by sum_of_both (Text t)) stand.0, stand.1)
one_more_half (Text t) (Int m) low rest stand = ap (joined_by sum_of_both (Text t)) stand ∙ ap Int (omega (arith, ints))
one_more_half (Text t) (Text s) low rest stand = ap (joined_by sum_of_both (Text t)) stand.0 ∙ ap Int (omega (arith, ints, stand.1))

halves_stand : {X : Type 0} (f : X → Value) (xs : List X) → Stand (summary sum_of_both (map (λ x. high_half (f x)) xs)) (summary sum_of_both (map (λ x. low_half (f x)) xs)) (summary sum_of_both (map f xs))
halves_stand f [] = (refl, refl)
halves_stand f (x ∷ xs) = one_more_half (f x) _ _ _ (halves_stand f xs)

whole-stand : (high low v : Value) → Stand high low v → whole high low ≡ v
whole-stand Null low v stand = sym stand.0
whole-stand (Int n) low v stand = sym stand
whole-stand (Text t) low v stand = sym stand.0

-- what is in the columns of halves, whatever stands behind them
high_first : (v : Value) (behind : List Value) → value_at (halves v ++ behind) 0 ≡ high_half v
unfolding high_half
high_first Null behind = refl
high_first (Int n) behind = refl
high_first (Text t) behind = refl

low_second : (v : Value) (behind : List Value) → value_at (halves v ++ behind) 1 ≡ low_half v
unfolding low_half
low_second Null behind = refl
low_second (Int n) behind = refl
low_second (Text t) behind = refl

-- ---- summaries of parts

module _ (op : Value → Value → Value) (swaps : Swaps (joined_by op)) where
  alone : (v : Value) → joined_by op v Null ≡ v
  alone Null = refl
  alone (Int n) = refl
  alone (Text t) = refl

  joined_comm : (v w : Value) → joined_by op v w ≡ joined_by op w v
  joined_comm v w = ap (joined_by op v) (sym (alone w)) ∙ swaps v w Null ∙ ap (joined_by op w) (alone v)

  joined_assoc : (u v w : Value) → joined_by op (joined_by op u v) w ≡ joined_by op u (joined_by op v w)
  joined_assoc u v w = joined_comm (joined_by op u v) w ∙ swaps w u v ∙ ap (joined_by op u) (joined_comm w v)

  summary-append : (vs ws : List Value) → summary op (vs ++ ws) ≡ joined_by op (summary op vs) (summary op ws)
  summary-append [] ws = refl
  summary-append (v ∷ vs) ws = ap (joined_by op v) (summary-append vs ws) ∙ sym (joined_assoc v (summary op vs) (summary op ws))

  values_on-append : (e : BoundExpr) (xs ys : Rows) → values_on e (xs ++ ys) ≡ values_on e xs ++ values_on e ys
  values_on-append e [] ys = refl
  values_on-append e (x ∷ xs) ys = ap (λ (l : List Value). eval e x ∷ l) (values_on-append e xs ys)

  summary-parts : (e : BoundExpr) (parts : List Rows) → summary op (map (λ p. summary op (values_on e p)) parts) ≡ summary op (values_on e (all_of parts))
  summary-parts e [] = refl
  summary-parts e (p ∷ parts) =
      ap (joined_by op (summary op (values_on e p))) (summary-parts e parts)
      ∙ sym (ap (summary op) (values_on-append e p (all_of parts)) ∙ summary-append (values_on e p) (values_on e (all_of parts)))

-- ---- counts of parts

plus_pos : (a b : ℕ) → pos a +ℤ pos b ≡ pos (a + b)
plus_pos a b = refl

total-parts : (count : Rows → ℕ) → count [] ≡ 0 → ((xs ys : Rows) → count (xs ++ ys) ≡ count xs + count ys) → (parts : List Rows) → total (map (λ p. number (count p)) parts) ≡ pos (count (all_of parts))
total-parts count none adds [] = ap pos (sym none)
total-parts count none adds (p ∷ parts) =
    ap (λ (n : ℤ). pos (count p) +ℤ n) (total-parts count none adds parts) ∙ plus_pos (count p) (count (all_of parts)) ∙ ap pos (sym (adds p (all_of parts)))

abbrev counted : BoundExpr → Rows → ℕ
counted e rows = length (filter (λ v. not (is_null v)) (values_on e rows))

counted-append : (e : BoundExpr) (xs ys : Rows) → counted e (xs ++ ys) ≡ counted e xs + counted e ys
counted-append e xs ys =
    ap (λ (l : List Value). length (filter (λ v. not (is_null v)) l)) (values_on-append sum_of_both sum_swaps e xs ys)
    ∙ ap length (filter-append (λ v. not (is_null v)) (values_on e xs) (values_on e ys))
    ∙ length-append (filter (λ v. not (is_null v)) (values_on e xs)) (filter (λ v. not (is_null v)) (values_on e ys))

-- ---- one aggregate, and all of them

pub map_of_map : {X Y Z : Type 0} (g : Y → Z) (f : X → Y) (xs : List X) → map g (map f xs) ≡ map (λ x. g (f x)) xs
map_of_map g f [] = refl
map_of_map g f (x ∷ xs) = ap (λ l. g (f x) ∷ l) (map_of_map g f xs)

pub map_agrees : {X Y : Type 0} (f g : X → Y) → ((x : X) → f x ≡ g x) → (xs : List X) → map f xs ≡ map g xs
map_agrees f g same [] = refl
map_agrees f g same (x ∷ xs) = ap (λ y. y ∷ map f xs) (same x) ∙ ap (λ l. g x ∷ l) (map_agrees f g same xs)

-- what a part keeps of an aggregate, and what stands behind it
abbrev parted : BoundAgg → (Rows → List Value) → List Rows → Rows
parted agg behind parts = map (λ p. kept p agg ++ behind p) parts

final-parts : (agg : BoundAgg) (behind : Rows → List Value) (parts : List Rows) → final agg (parted agg behind parts) ≡ aggregate (all_of parts) agg
final-parts CountAll behind parts = ap (λ (l : List Value). Int (total l)) (map_of_map (λ r. value_at r 0) (λ p. kept p CountAll ++ behind p) parts) ∙ ap Int (total-parts length refl (λ xs ys. length-append xs ys) parts)
final-parts (Count e) behind parts = ap (λ (l : List Value). Int (total l)) (map_of_map (λ r. value_at r 0) (λ p. kept p (Count e) ++ behind p) parts) ∙ ap Int (total-parts (counted e) refl (counted-append e) parts)
final-parts (Sum e) behind parts =
    let sum_in : Rows → Value = λ p. summary sum_of_both (values_on e p) in
    (λ i. whole
    (summary sum_of_both ((map_of_map (λ r. value_at r 0) (λ p. kept p (Sum e) ++ behind p) parts ∙ map_agrees (λ p. value_at (kept p (Sum e) ++ behind p) 0) (λ p. high_half (sum_in p)) (λ p. high_first (sum_in p) (behind p)) parts) i))
    (summary sum_of_both ((map_of_map (λ r. value_at r 1) (λ p. kept p (Sum e) ++ behind p) parts ∙ map_agrees (λ p. value_at (kept p (Sum e) ++ behind p) 1) (λ p. low_half (sum_in p)) (λ p. low_second (sum_in p) (behind p)) parts) i)))
    ∙ whole-stand _ _ _ (halves_stand sum_in parts)
    ∙ summary-parts sum_of_both sum_swaps e parts
final-parts (Min e) behind parts = ap (summary lesser) (map_of_map (λ r. value_at r 0) (λ p. kept p (Min e) ++ behind p) parts) ∙ summary-parts lesser lesser_swaps e parts
final-parts (Max e) behind parts = ap (summary greater) (map_of_map (λ r. value_at r 0) (λ p. kept p (Max e) ++ behind p) parts) ∙ summary-parts greater greater_swaps e parts

drop_halves : (v : Value) (behind : List Value) → drop 2 (halves v ++ behind) ≡ behind
drop_halves Null behind = refl
drop_halves (Int n) behind = refl
drop_halves (Text t) behind = refl

drop_kept : (agg : BoundAgg) (p : Rows) (behind : List Value) → drop (columns_kept agg) (kept p agg ++ behind) ≡ behind
drop_kept CountAll p behind = refl
drop_kept (Count e) p behind = refl
drop_kept (Sum e) p behind = drop_halves (aggregate p (Sum e)) behind
drop_kept (Min e) p behind = refl
drop_kept (Max e) p behind = refl

pub finals-parts : (aggs : List BoundAgg) (parts : List Rows) → finals aggs (map (λ p. flat_map (kept p) aggs) parts) ≡ map (aggregate (all_of parts)) aggs
finals-parts [] parts = refl
finals-parts (agg ∷ aggs) parts =
    let behind : Rows → List Value = λ p. flat_map (kept p) aggs in
    ap (λ v. v ∷ finals aggs (map (drop (columns_kept agg)) (parted agg behind parts))) (final-parts agg behind parts)
    ∙ ap (λ (l : Rows). aggregate (all_of parts) agg ∷ finals aggs l) (map_of_map (drop (columns_kept agg)) (λ p. kept p agg ++ behind p) parts ∙ map_agrees (λ p. drop (columns_kept agg) (kept p agg ++ behind p)) behind (λ p. drop_kept agg p (behind p)) parts)
    ∙ ap (λ (l : List Value). aggregate (all_of parts) agg ∷ l) (finals-parts aggs parts)

-- whether a count or a final sum of a group stays within 64 bits
abbrev pub end_fits : Rows → BoundAgg → Bool
end_fits rows CountAll = is_64_bits (number_of (aggregate rows CountAll))
end_fits rows (Count e) = is_64_bits (number_of (aggregate rows (Count e)))
end_fits rows (Sum e) = is_64_bits (number_of (aggregate rows (Sum e)))
end_fits rows (Min e) = true
end_fits rows (Max e) = true

final_fits-parts : (agg : BoundAgg) (behind : Rows → List Value) (parts : List Rows) → final_fits agg (parted agg behind parts) ≡ end_fits (all_of parts) agg
final_fits-parts CountAll behind parts = ap (λ (v : Value). is_64_bits (number_of v)) (final-parts CountAll behind parts)
final_fits-parts (Count e) behind parts = ap (λ (v : Value). is_64_bits (number_of v)) (final-parts (Count e) behind parts)
final_fits-parts (Sum e) behind parts = ap (λ (v : Value). is_64_bits (number_of v)) (final-parts (Sum e) behind parts)
final_fits-parts (Min e) behind parts = refl
final_fits-parts (Max e) behind parts = refl

pub group_fits-parts : (aggs : List BoundAgg) (parts : List Rows) → group_fits aggs (map (λ p. flat_map (kept p) aggs) parts) ≡ list_all (end_fits (all_of parts)) aggs
group_fits-parts [] parts = refl
group_fits-parts (agg ∷ aggs) parts =
    let behind : Rows → List Value = λ p. flat_map (kept p) aggs in
    ap (λ (b : Bool). b && group_fits aggs (map (drop (columns_kept agg)) (parted agg behind parts))) (final_fits-parts agg behind parts)
    ∙ ap (λ (l : Rows). end_fits (all_of parts) agg && group_fits aggs l) (map_of_map (drop (columns_kept agg)) (λ p. kept p agg ++ behind p) parts ∙ map_agrees (λ p. drop (columns_kept agg) (kept p agg ++ behind p)) behind (λ p. drop_kept agg p (behind p)) parts)
    ∙ ap (λ (b : Bool). end_fits (all_of parts) agg && b) (group_fits-parts aggs parts)
