-- A query answers the same over databases that hold the same bags.
use Rattle.std.proofs.Common.{◌≡◌, ℕ, zero, suc, true, false, ◌&&◌, ◌||◌, List, [], ◌∷◌, ◌++◌, map, nat_lt, refl, ap, subst, if◌then◌else◌}
use Rattle.std.proofs.lemmas.Cmp.{on_total, then_total, back_total}
use Rattle.std.specs.List.{list_all}
use Rattle.std.specs.Cmp.{IsTotalOrder}
use Rattle.std.specs.Ordering.{ordering_reverse, ordering_then}
use Rattle.std.specs.declared.cmp.Ordering.{Ordering}
use Rattle.std.specs.declared.cmp.Ordering.TheVariants.{Less, Equal, Greater}
use Rattle.lake_values.specs.declared.values.Value.{Value}
use Rattle.lake_values.specs.Order.{value_cmp, value_cmp_total, row_cmp_total, row_cmp_tells}
use Rattle.sql_model.specs.declared.bound.Key.{Key}
use Rattle.sql_model.specs.declared.bound.Query.{Query}
use Rattle.lake_values.specs.Rows.{value_at}
use Rattle.sql_model.specs.Evaluation.{meets, all_fit, evaluated}
use Rattle.sql_model.specs.Groups.{groups, groups_fit}
use Rattle.sql_model.specs.Listing.{SameBag}
use Rattle.sql_model.specs.Query.{Database, SameDatabase, agree, joined_with, table_at, guards_at, pairs_behind, stage, most_rows, too_many, last_stage, is_grouped_query, kept, shown, shown_fits, outputs, key_cmp, order_cmp, limited, answer, answer_fits, checked, plain}
use Rattle.sql_model.proofs.Bags.{same_map, same_filter, same_flat_map, same_length, same_ordered, same_list_all}
use Rattle.sql_model.proofs.GroupBags.{same_groups, same_groups_fit}

-- the order of an answer is total, and tells rows apart

key_total : (k : Key) → IsTotalOrder (key_cmp k)
key_total k =
    let at = on_total (λ (r : List Value). value_at r k.column) value_cmp_total in
    elim k.descending as (λ b. IsTotalOrder (λ (r s : List Value). if b then ordering_reverse (value_cmp (value_at r k.column) (value_at s k.column)) else value_cmp (value_at r k.column) (value_at s k.column))) [
      | true ↦ subst (IsTotalOrder {K = List Value}) (λ i r s. at.antisymm s r i) (back_total at)
      | false ↦ at
    ]

pub order_total : (ks : List Key) → IsTotalOrder (order_cmp ks)
order_total [] = row_cmp_total
order_total (k ∷ ks) = then_total (key_total k) (order_total ks)

then_equal : (r s : Ordering) → ordering_then r s ≡ Equal → s ≡ Equal
then_equal Less s e = absurd (cc)
then_equal Equal s e = e
then_equal Greater s e = absurd (cc)

pub order_tells : (ks : List Key) (r s : List Value) → order_cmp ks r s ≡ Equal → r ≡ s
order_tells [] r s e = row_cmp_tells r s e
order_tells (k ∷ ks) r s e = order_tells ks r s (then_equal (key_cmp k r s) (order_cmp ks r s) e)

-- the answer over the same bags of rows, and whether it fits
module _ (q : Query) (xs ys : List (List Value)) (same : SameBag xs ys) where
  same_shown : SameBag (shown q xs) (shown q ys)
  same_shown =
      elim (is_grouped_query q) as (λ b. SameBag (if b then groups q.keys q.aggs xs else map (evaluated q.items) xs) (if b then groups q.keys q.aggs ys else map (evaluated q.items) ys)) [
        | true ↦ same_groups q.keys q.aggs xs ys same
        | false ↦ same_map (evaluated q.items) xs ys same
      ]

  same_shown_fits : shown_fits q xs ≡ shown_fits q ys
  same_shown_fits =
      elim (is_grouped_query q) as (λ b. (if b then groups_fit q.keys q.aggs xs else list_all (all_fit q.items) xs) ≡ (if b then groups_fit q.keys q.aggs ys else list_all (all_fit q.items) ys)) [
        | true ↦ same_groups_fit q.keys q.aggs xs ys same
        | false ↦ same_list_all row_cmp_total row_cmp_tells (all_fit q.items) xs ys same
      ]

module _ (q : Query) (xs ys : List (List Value)) (same : SameBag xs ys) where
  same_kept : SameBag (kept q xs) (kept q ys)
  same_kept = same_filter (meets q.computed) xs ys same

  same_answer : answer q xs ≡ answer q ys
  same_answer =
      ap (limited q.limit) (same_ordered (order_total q.order) (order_tells q.order) _ _
      (same_map (outputs q) (shown q (kept q xs)) (shown q (kept q ys)) (same_shown q (kept q xs) (kept q ys) same_kept)))

  same_answer_fits : answer_fits q xs ≡ answer_fits q ys
  same_answer_fits =
      λ i. same_list_all row_cmp_total row_cmp_tells (all_fit q.computed) xs ys same i && same_shown_fits q (kept q xs) (kept q ys) same_kept i

-- over databases with the same bags of rows each stage is the same bag
module _ (q : Query) (db db' : Database) (same : SameDatabase db db') where
  same_stage : (j : ℕ) → SameBag (stage q db j) (stage q db' j)
  same_stage zero = same_filter (meets (guards_at q 0)) (db (table_at q 0)) (db' (table_at q 0)) (same (table_at q 0))
  same_stage (suc j) =
      let name = table_at q (suc j) in
      let pairs = pairs_behind q j in
      let guards = guards_at q (suc j) in
      same_flat_map (joined_with pairs guards (db name)) (joined_with pairs guards (db' name)) (stage q db j) (stage q db' j)
      (λ left. same_map (λ right. left ++ right) _ _ (same_filter (λ right. agree pairs left right && meets guards (left ++ right)) (db name) (db' name) (same name)))
      (same_stage j)

  same_too_many : (j : ℕ) → too_many q db j ≡ too_many q db' j
  same_too_many zero = refl
  same_too_many (suc j) = λ i. same_too_many j i || nat_lt most_rows (same_length (stage q db (suc j)) (stage q db' (suc j)) (same_stage (suc j)) i)

  pub same_plain : plain q db ≡ plain q db'
  same_plain =
      let last = last_stage q in
      let bags = same_stage last in λ i.
      checked (same_too_many last i) (same_answer_fits q (stage q db last) (stage q db' last) bags i) (same_answer q (stage q db last) (stage q db' last) bags i)
