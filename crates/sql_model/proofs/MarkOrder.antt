-- The orders of marks and of rows with marks.
use Rattle.std.proofs.Common.{◌≡◌, refl}
use Rattle.std.proofs.lemmas.Cmp.{on_total, then_total, nat_cmp_total}
use Rattle.std.specs.Cmp.{IsTotalOrder}
use Rattle.std.specs.Cmp.Lexicographic.{nat_list_cmp_total}
use Rattle.std.specs.FinMap.{nat_cmp-IsAntisymmetric, slice_cmp-IsAntisymmetric}
use Rattle.std.specs.Ordering.{ordering_then}
use Rattle.std.specs.declared.cmp.Ordering.{Ordering}
use Rattle.std.specs.declared.cmp.Ordering.TheVariants.{Less, Equal, Greater}
use Rattle.lake_values.specs.Order.{row_cmp_total, row_cmp_tells}
use Rattle.sql_model.specs.declared.changes.Mark.{Mark}
use Rattle.sql_model.specs.declared.changes.MarkedRow.{MarkedRow}
use Rattle.sql_model.specs.Changes.{mark_cmp, marked_cmp}

-- the orders of marks and of rows with marks are total, and only equal ones tie

mark_total : IsTotalOrder mark_cmp
mark_total =
    then_total (on_total (λ m. m.table) nat_list_cmp_total)
    (then_total (on_total (λ m. m.seq) nat_cmp_total) (then_total (on_total (λ m. m.part) nat_cmp_total) (on_total (λ m. m.cell) nat_cmp_total)))

pub marked_total : IsTotalOrder marked_cmp
marked_total = then_total (on_total (λ m. m.mark) mark_total) (on_total (λ m. m.row) row_cmp_total)

both_equal : (r s : Ordering) → ordering_then r s ≡ Equal → (r ≡ Equal) × (s ≡ Equal)
both_equal Less s e = absurd cc
both_equal Equal s e = (refl, e)
both_equal Greater s e = absurd cc

mark_tells : (x y : Mark) → mark_cmp x y ≡ Equal → x ≡ y
mark_tells x y e =
    let (tables, after_table) = both_equal _ _ e in
    let (seqs, after_seq) = both_equal _ _ after_table in
    let (parts, cells) = both_equal _ _ after_seq in
    λ i. record {
      table = slice_cmp-IsAntisymmetric nat_cmp-IsAntisymmetric x.table y.table tables i;
      seq = nat_cmp-IsAntisymmetric x.seq y.seq seqs i;
      part = nat_cmp-IsAntisymmetric x.part y.part parts i;
      cell = nat_cmp-IsAntisymmetric x.cell y.cell cells i;
    }

pub marked_tells : (x y : MarkedRow) → marked_cmp x y ≡ Equal → x ≡ y
marked_tells x y e =
    let (marks, rows) = both_equal _ _ e in
    λ i. record { mark = mark_tells x.mark y.mark marks i; row = row_cmp_tells x.row y.row rows i }
