-- Rows sorted by a key, and what is known of their groups from the groups of the sorted rows.
use Rattle.std.proofs.Common.{◌≡◌, ℕ, true, List, [], ◌∷◌, length, ◌==◌, map, refl, sym, ap, ◌∙◌, arith, Bor, IsPermutation}
use Rattle.std.specs.Fn.{Called}
use Rattle.std.specs.List.Sorted.{IsSortedByClosure, IsSortedByKey}
use Rattle.std.specs.Ordering.{is_lt}
use Rattle.std.specs.declared.cmp.Ordering.{Ordering}
use Rattle.std.proofs.lemmas.Bool.{eqb-true}
use Rattle.std.proofs.lemmas.Fn.{always_returns_same}
use Rattle.std.proofs.lemmas.List.Sorted.{ranks_by, IsPermutation-map}
use denote.Param.Members.{Mut}
use Rattle.lake_values.specs.Order.{row_cmp, row_cmp_total}
use Rattle.sql_model.specs.declared.bound.BoundAgg.{BoundAgg}
use Rattle.sql_model.specs.Groups.{groups}
use Rattle.sql_model.specs.Listing.{weight, SameBag}
use Rattle.sql_model.proofs.Sorting.{same_moved}
use Rattle.sql_model.proofs.GroupBags.{same_groups}
use Rattle.plain_query.proofs.Grouping.{Row}

module _ {X : Type 0} (key : X → Row) where
  -- from the clause `sorted` of a sort, where each call compares the keys of the two elements
  pub sorted_by_key : {F : Type 0} {g : Mut F (Bor X × (Bor X × Unit {0})) Ordering} {f : F} (xs : List X) → IsSortedByClosure g f xs
      → ((a : Bor X × (Bor X × Unit {0})) (r : Ordering) (f' : F) → Called g f a r f' → (r ≡ row_cmp (key a.0.now) (key a.1.0.now)) × (f' ≡ f)) → IsSortedByKey key row_cmp xs
  sorted_by_key {g = g} {f = f} xs sorted compares =
      sorted (λ x y. is_lt (row_cmp (key x) (key y))) (ranks_by row_cmp_total key)
      (always_returns_same g (λ a r. is_lt r ≡ is_lt (row_cmp (key a.0.now) (key a.1.0.now))) f (λ a r f' k. (ap is_lt (compares a r f' k).0, (compares a r f' k).1)))

pub same_rows : {X : Type 0} (row_of : X → Row) (rows : List Row) (lent sorted slice : List X) → map row_of lent ≡ rows → IsPermutation lent sorted → slice ≡ sorted → SameBag rows (map row_of slice)
same_rows row_of rows lent sorted slice lent-is moved slice-is g =
    ap (weight g) (sym lent-is) ∙ same_moved (map row_of lent) (map row_of sorted) (IsPermutation-map row_of lent sorted moved) g ∙ ap (λ xs. weight g (map row_of xs)) (sym slice-is)

module _ (columns : List ℕ) (aggs : List BoundAgg) (rows : List Row) where
  pub made_without_keys : (made : List Row) → columns ≡ [] → made ≡ groups [] aggs rows → SameBag made (groups columns aggs rows)
  made_without_keys made none is g = ap (weight g) (is ∙ ap (λ ks. groups ks aggs rows) (sym none))

  pub made_alike : (sorted made : List Row) → SameBag rows sorted → made ≡ groups columns aggs sorted → SameBag made (groups columns aggs rows)
  made_alike sorted made same is g = ap (weight g) is ∙ sym (same_groups columns aggs rows sorted same g)

pub no_columns : (columns : List ℕ) → true ≡ (length columns == 0) → columns ≡ []
no_columns [] none = refl
no_columns (c ∷ columns) none =
    let empty : length (c ∷ columns) ≡ 0 = eqb-true (length (c ∷ columns)) 0 (sym none) in
    absurd (omega arith)
