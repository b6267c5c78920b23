-- The order in which values stand, and rows.
use Rattle.std.specs.Prelude.{◌≡◌, ℕ, ℤ, pos, List, [], refl, T}
use Rattle.std.proofs.Common.{sym, ap, subst}
use Rattle.std.specs.Ordering.{nat_cmp, int_cmp, on, then_cmp, eq_by_cmp, as_partial_cmp, ordering_then, is_eq}
use Rattle.std.specs.FinMap.{nat_cmp-IsAntisymmetric, int_cmp-IsAntisymmetric, slice_cmp-IsAntisymmetric}
use Rattle.std.specs.declared.cmp.Ordering.TheVariants.{Less, Equal, Greater}
use Rattle.std.specs.Cmp.Lexicographic.{slice_cmp, lists_total}
use Rattle.std.specs.Cmp.{IsTotalOrder, IsPartialOrder, IsEquivalence, then_total, on_total, nat_cmp_total, int_cmp_total, eq_by_cmp_equiv, partial_order_from_total}
use Rattle.std.specs.declared.cmp.Ordering.{Ordering}
use Rattle.lake_values.specs.declared.values.Value.{Value}
use Rattle.lake_values.specs.declared.values.Value.TheVariants.{Null, Int, Text}

-- NULL stands before the numbers, and these before the texts
abbrev pub rank_of : Value → ℕ
rank_of Null = 0
rank_of (Int n) = 1
rank_of (Text t) = 2

abbrev pub number_of : Value → ℤ
number_of Null = pos 0
number_of (Int n) = n
number_of (Text t) = pos 0

abbrev pub bytes_of : Value → List ℕ
bytes_of Null = []
bytes_of (Int n) = []
bytes_of (Text t) = t

-- the order of values: NULL, then the numbers, then the texts by their bytes
abbrev pub value_cmp : Value → Value → Ordering
value_cmp = then_cmp (on rank_of nat_cmp) (then_cmp (on number_of int_cmp) (on bytes_of (slice_cmp nat_cmp)))

-- the order of rows: by the first column in which they differ
abbrev pub row_cmp : List Value → List Value → Ordering
row_cmp = slice_cmp value_cmp

-- the laws that the comparisons of values and rows ask for

pub value_cmp_total : IsTotalOrder value_cmp
value_cmp_total =
    then_total
    (on_total rank_of nat_cmp_total)
    (then_total (on_total number_of int_cmp_total) (on_total bytes_of (lists_total nat_cmp_total)))

pub value_eq_equiv : IsEquivalence (eq_by_cmp value_cmp)
value_eq_equiv = eq_by_cmp_equiv value_cmp_total

pub value_partial_order : IsPartialOrder (eq_by_cmp value_cmp) (as_partial_cmp value_cmp)
value_partial_order = partial_order_from_total value_cmp_total

pub row_cmp_total : IsTotalOrder row_cmp
row_cmp_total = lists_total value_cmp_total

pub row_eq_equiv : IsEquivalence (eq_by_cmp row_cmp)
row_eq_equiv = eq_by_cmp_equiv row_cmp_total

pub row_partial_order : IsPartialOrder (eq_by_cmp row_cmp) (as_partial_cmp row_cmp)
row_partial_order = partial_order_from_total row_cmp_total

-- only equal values tie, and only equal rows

then_equal : (r : Ordering) → ordering_then r Equal ≡ Equal → r ≡ Equal
then_equal Less e = e
then_equal Equal e = e
then_equal Greater e = e

value_cmp_tells : (x y : Value) → value_cmp x y ≡ Equal → x ≡ y
value_cmp_tells Null Null e = refl
value_cmp_tells Null (Int n) e = absurd (subst (λ r. T (is_eq r)) (sym e) tt)
value_cmp_tells Null (Text t) e = absurd (subst (λ r. T (is_eq r)) (sym e) tt)
value_cmp_tells (Int m) Null e = absurd (subst (λ r. T (is_eq r)) (sym e) tt)
value_cmp_tells (Int m) (Int n) e = ap Int (int_cmp-IsAntisymmetric m n (then_equal (int_cmp m n) e))
value_cmp_tells (Int m) (Text t) e = absurd (subst (λ r. T (is_eq r)) (sym e) tt)
value_cmp_tells (Text s) Null e = absurd (subst (λ r. T (is_eq r)) (sym e) tt)
value_cmp_tells (Text s) (Int n) e = absurd (subst (λ r. T (is_eq r)) (sym e) tt)
value_cmp_tells (Text s) (Text t) e = ap Text (slice_cmp-IsAntisymmetric nat_cmp-IsAntisymmetric s t e)

pub row_cmp_tells : (x y : List Value) → row_cmp x y ≡ Equal → x ≡ y
row_cmp_tells = slice_cmp-IsAntisymmetric value_cmp_tells
