-- The rows that a merged vector leaves.
use Rattle.std.proofs.Common.{◌≡◌, ℕ, zero, suc, ◌+◌, ◌<◌, ◌≤◌, Bool, true, false, ◌||◌, ◌&&◌, not}
use Rattle.std.proofs.Common.{cond, eqb, List, [], ◌∷◌, length, map, refl, sym, ap, ◌∙◌, inl, inr}
use Rattle.std.proofs.Common.{arith}
use Rattle.std.specs.List.{AllByRecursion, enumerate_from, filter, range_with_len}
use Rattle.std.proofs.lemmas.Bool.{eq-eqb, ne_eqb, cases_eq, cases_lt}
use Rattle.lake_values.specs.declared.values.Value.{Value}
use Rattle.data_cell.specs.Live.{is_live}
use Rattle.deletion_vector.specs.Positions.{has}
use Rattle.op_write.specs.Laws.{VectorLeavesTheRest}
use Rattle.op_write.specs.Writes.{gone_with}

module _ (q : ℕ → Bool) where
  -- those in a range that pass, behind its first place
  abbrev behind : ℕ → ℕ → List ℕ
  behind from n = filter q (range_with_len (from + 1) n)

  none_before : (from n p : ℕ) → p < from → has p (filter q (range_with_len from n)) ≡ false
  none_before from zero p lt = refl
  none_before from (suc n) p lt =
      let apart : eqb from p ≡ false = ne_eqb from p (λ e. omega (arith, e, lt)) in
      let rest = none_before (from + 1) n p (omega (arith, lt)) in
      elim (q from) as (λ b. has p (cond b (from ∷ behind from n) (behind from n)) ≡ false) [
        | true ↦ ap (λ (b : Bool). b || has p (behind from n)) apart ∙ rest
        | false ↦ rest
      ]

  first_place : (from n : ℕ) → has from (filter q (range_with_len from (suc n))) ≡ q from
  first_place from n =
      elim (q from) as (λ b. has from (cond b (from ∷ behind from n) (behind from n)) ≡ b) [
        | true ↦ ap (λ (b : Bool). b || has from (behind from n)) (eq-eqb from from refl)
        | false ↦ none_before (from + 1) n from (omega arith)
      ]

  later_place : (from n p : ℕ) → (from ≡ p → ⊥) → has p (behind from n) ≡ q p → has p
      (filter q (range_with_len from (suc n))) ≡ q p
  later_place from n p ne rest =
      elim (q from) as (λ b. has p (cond b (from ∷ behind from n) (behind from n)) ≡ q p) [
        | true ↦ ap (λ (b : Bool). b || has p (behind from n)) (ne_eqb from p ne) ∙ rest
        | false ↦ rest
      ]

  -- a position of the range is among those that pass exactly where it passes
  passes_in_range : (from n p : ℕ) → from ≤ p → p < from + n → has p
      (filter q (range_with_len from n)) ≡ q p
  passes_in_range from zero p le lt = absurd (omega (arith, le, lt))
  passes_in_range from (suc n) p le lt =
      elim (cases_eq from p) as (λ _. has p (filter q (range_with_len from (suc n))) ≡ q p) [
        | inl e ↦ ap (λ (x : ℕ). has x (filter q (range_with_len from (suc n)))) (sym e) ∙
            first_place from n ∙ ap q e
        | inr ne ↦ later_place from n p ne
            (passes_in_range (from + 1) n p (omega_above from p le ne) (omega (arith, lt)))
      ]
    where
      omega_above : (from p : ℕ) → from ≤ p → (from ≡ p → ⊥) → from + 1 ≤ p
      omega_above from p le ne = elim (cases_lt from p) as (λ _. from + 1 ≤ p) [
        | inl lt ↦ omega (arith, lt)
        | inr ge ↦ absurd (ne (omega (arith, le, ge)))
      ]

either_gone : (before matches : Bool) → (before || (not before && matches)) ≡ (before || matches)
either_gone true matches = refl
either_gone false matches = refl

module _ (matches : List Value → Bool) (before gone : List ℕ) where
  -- the rows that match are gone too then
  abbrev AreGone : ℕ → ℕ → List (List Value) → Type 0
  AreGone total n rows =
      AllByRecursion (λ r. has r.0 (gone_with total before gone) ≡ (has r.0 before || matches r.1))
      (enumerate_from n rows)

  are_gone : (total n : ℕ) (rows : List (List Value)) → n + length rows ≤ total
      → AllByRecursion (λ r. has r.0 gone ≡ (not (has r.0 before) && matches r.1))
      (enumerate_from n rows) → AreGone total n rows
  are_gone total n [] within all = tt
  are_gone total n (row ∷ rows) within all =
      let here = passes_in_range (λ p. has p before || has p gone) 0 total n (omega arith)
      (omega (arith, within)) in (
        here ∙ ap (λ (b : Bool). has n before || b) all.0 ∙ either_gone (has n before)
            (matches row),
        are_gone total (n + 1) rows (omega (arith, within)) all.1,
      )

  abbrev left : List ℕ → ℕ → List (List Value) → List (List Value)
  left positions n rows = map (λ (r : ℕ × List Value). r.1)
      (filter (λ (r : ℕ × List Value). is_live positions r.0) (enumerate_from n rows))

  left_from : (total n : ℕ) (rows : List (List Value)) → AreGone total n rows
      → left (gone_with total before gone) n rows ≡ filter (λ row. not (matches row))
      (left before n rows)
  left_from total n [] all = refl
  left_from total n (row ∷ rows) all =
      let rest = left_from total (n + 1) rows all.1 in
      let later = filter (λ (r : ℕ × List Value). is_live (gone_with total before gone) r.0)
      (enumerate_from (n + 1) rows) in
      let old = filter (λ (r : ℕ × List Value). is_live before r.0) (enumerate_from (n + 1) rows) in
      ap (λ (b : Bool). map (λ (r : ℕ × List Value). r.1) (cond (not b) ((n, row) ∷ later) later))
      all.0
      ∙ elim (has n before) as (λ b. map (λ (r : ℕ × List Value). r.1)
      (cond (not (b || matches row)) ((n, row) ∷ later) later)
      ≡ filter (λ row. not (matches row))
      (map (λ (r : ℕ × List Value). r.1) (cond (not b) ((n, row) ∷ old) old))) [
        | true ↦ rest
        | false ↦ elim (matches row) as (λ b. map (λ (r : ℕ × List Value). r.1)
            (cond (not b) ((n, row) ∷ later) later)
            ≡ cond (not b)
            (row ∷ filter (λ row. not (matches row)) (map (λ (r : ℕ × List Value). r.1) old))
            (filter (λ row. not (matches row)) (map (λ (r : ℕ × List Value). r.1) old))) [
              | true ↦ rest
              | false ↦ ap (λ (l : List (List Value)). row ∷ l) rest
            ]
      ]

pub vector_leaves_the_rest : VectorLeavesTheRest
vector_leaves_the_rest matches before gone rows all =
    left_from matches before gone (length rows) 0 rows
    (are_gone matches before gone (length rows) 0 rows (omega arith) all)
