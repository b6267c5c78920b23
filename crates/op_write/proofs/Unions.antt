-- The positions of a merged vector, and the rows that it leaves.
use Rattle.std.proofs.Common.{◌≡◌, ℕ, zero, suc, ◌+◌, ◌<◌, ◌≤◌, Bool, true, false, ◌||◌, cond, eqb}
use Rattle.std.proofs.Common.{List, [], ◌∷◌, refl, sym, ap, subst, ◌∙◌, inl, inr, arith}
use Rattle.std.specs.Prelude.{All}
use Rattle.std.specs.List.{filter, range_with_len}
use Rattle.std.specs.List.Sorted.{IsStrictlyIncreasing}
use Rattle.std.proofs.lemmas.Bool.{eq-eqb, ne_eqb, cases_lt}
use Rattle.std.proofs.lemmas.List.Elements.{All-cons, All-head, All-tail}
use Rattle.data_cell.proofs.Walks.{Rises, Rises-from_increasing, has_below}
use Rattle.deletion_vector.specs.Positions.{has}
use Rattle.op_write.specs.Writes.{gone_with}

-- positions that ascend from a bound on have none below it
has_none : (from p : ℕ) (xs : List ℕ) → Rises from xs → p < from → has p xs ≡ false
has_none from p [] up lt = refl
has_none from p (x ∷ xs) up lt =
    let least = up.0 in
    let first : eqb x p ≡ false = ne_eqb x p (λ e. omega (arith, e, least, lt)) in
    rw (first, has_none (x + 1) p xs up.1 (omega (arith, least, lt))) refl

Rises-higher : (from x : ℕ) (xs : List ℕ) → from < x → Rises from (x ∷ xs) → Rises (from + 1)
    (x ∷ xs)
Rises-higher from x xs lt up = (omega (arith, lt), up.1)

module _ (q : ℕ → Bool) where
  -- the list has just the positions in a range that pass
  abbrev HasPassing : ℕ → ℕ → List ℕ → Type 0
  HasPassing from n xs = (p : ℕ) → from ≤ p → p < from + n → has p xs ≡ q p

  behind : (from n : ℕ) (xs : List ℕ) → HasPassing from (suc n) xs → HasPassing (from + 1) n xs
  behind from n xs same = λ p le lt. same p (omega (arith, le)) (omega (arith, lt))

  behind_first : (from n : ℕ) (xs : List ℕ) → HasPassing from (suc n) (from ∷ xs) → HasPassing
      (from + 1) n xs
  behind_first from n xs same = λ p le lt.
      let apart : eqb from p ≡ false = ne_eqb from p (λ e. omega (arith, e, le)) in
      ap (λ (b : Bool). b || has p xs) (sym apart) ∙ same p (omega (arith, le)) (omega (arith, lt))

  narrower : (from n : ℕ) (xs : List ℕ) → All (λ p. p < from + suc n) xs → All
      (λ p. p < (from + 1) + n) xs
  narrower from n xs all = subst (λ (end : ℕ). All (λ p. p < end) xs) (omega arith) all

  -- what a range with a first place that passes or fails has, by what the range behind it has

  abbrev IsPassing : ℕ → ℕ → List ℕ → Type 0
  IsPassing from n xs =
      Rises from xs → All (λ p. p < from + n) xs → HasPassing from n xs → xs ≡ filter q
      (range_with_len from n)

  takes_first : (from n x : ℕ) (xs : List ℕ) → x ≡ from → Rises from (x ∷ xs) → All
      (λ p. p < from + suc n) (x ∷ xs)
      → HasPassing from (suc n) (x ∷ xs) → IsPassing (from + 1) n xs → x ∷ xs ≡ filter q
      (range_with_len from (suc n))
  takes_first from n x xs e up all same rest =
      let same' : HasPassing from (suc n) (from ∷ xs) = subst
      (λ (y : ℕ). HasPassing from (suc n) (y ∷ xs)) e same in
      let up' : Rises (from + 1) xs = subst (λ (y : ℕ). Rises (y + 1) xs) e up.1 in
      let passes : q from ≡ true = sym (same' from (omega arith) (omega arith)) ∙ ap
      (λ (b : Bool). b || has from xs) (eq-eqb from from refl) in
      ap (λ (y : ℕ). y ∷ xs) e
      ∙ ap (λ (l : List ℕ). from ∷ l) (rest up'
      (narrower from n xs (All-tail (λ p. p < from + suc n) x xs all))
      (behind_first from n xs same'))
      ∙ ap (λ (b : Bool). cond b (from ∷ filter q (range_with_len (from + 1) n))
      (filter q (range_with_len (from + 1) n))) (sym passes)

  skips_first : (from n x : ℕ) (xs : List ℕ) → from < x → Rises from (x ∷ xs) → All
      (λ p. p < from + suc n) (x ∷ xs)
      → HasPassing from (suc n) (x ∷ xs) → IsPassing (from + 1) n (x ∷ xs) → x ∷ xs ≡ filter q
      (range_with_len from (suc n))
  skips_first from n x xs lt up all same rest =
      let up' = Rises-higher from x xs lt up in
      let fails : q from ≡ false = sym (same from (omega arith) (omega arith)) ∙ has_none (from + 1)
      from (x ∷ xs) up' (omega arith) in
      rest up' (narrower from n (x ∷ xs) all) (behind from n (x ∷ xs) same)
      ∙ ap (λ (b : Bool). cond b (from ∷ filter q (range_with_len (from + 1) n))
      (filter q (range_with_len (from + 1) n))) (sym fails)

  -- ascending positions within a range are those of the range that pass
  pub passing : (from n : ℕ) (xs : List ℕ) → Rises from xs → All (λ p. p < from + n) xs → HasPassing
      from n xs
      → xs ≡ filter q (range_with_len from n)
  passing from zero [] up all same = refl
  passing from zero (x ∷ xs) up all same =
      let least = up.0 in
      let below = All-head (λ p. p < from + 0) x xs all in
      absurd (omega (arith, least, below))
  passing from (suc n) [] up all same =
      let fails : q from ≡ false = sym (same from (omega arith) (omega arith)) in
      passing (from + 1) n [] tt (λ k d lt. absurd (omega (arith, lt))) (behind from n [] same)
      ∙ ap (λ (b : Bool). cond b (from ∷ filter q (range_with_len (from + 1) n))
      (filter q (range_with_len (from + 1) n))) (sym fails)
  passing from (suc n) (x ∷ xs) up all same =
      elim (cases_lt from x) as (λ _. x ∷ xs ≡ filter q (range_with_len from (suc n))) [
        | inl lt ↦ skips_first from n x xs lt up all same (passing (from + 1) n (x ∷ xs))
        | inr le ↦ let least = up.0 in
            takes_first from n x xs (omega (arith, least, le)) up all same (passing (from + 1) n xs)
      ]

has_self : (x : ℕ) (xs : List ℕ) → has x (x ∷ xs) ≡ true
has_self x xs = rw (eq-eqb x x refl) refl

pub all_below : (end : ℕ) (xs : List ℕ) → ((p : ℕ) → has p xs ≡ true → p < end) → All (λ p. p < end)
    xs
all_below end [] below = λ k d lt. absurd (omega (arith, lt))
all_below end (x ∷ xs) below =
    All-cons (λ p. p < end) x xs (below x (has_self x xs))
    (all_below end xs (λ p e. below p (behind_another (eqb x p) (has p xs) e)))
  where
    behind_another : (b c : Bool) → c ≡ true → (b || c) ≡ true
    behind_another true c e = refl
    behind_another false c e = e

either_below : (rows : ℕ) (before gone : List ℕ) → All (λ p. p < rows) before → All (λ p. p < rows)
    gone
    → (p : ℕ) → (has p before || has p gone) ≡ true → p < rows
either_below rows before gone old new p e = by (has p before) refl e
  where
    by : (b : Bool) → has p before ≡ b → (b || has p gone) ≡ true → p < rows
    by true there e = has_below rows p before old there
    by false there e = has_below rows p gone new e

pub merged_positions : (rows : ℕ) (before gone xs : List ℕ) → IsStrictlyIncreasing xs → All
    (λ p. p < rows) before → All (λ p. p < rows) gone
    → ((p : ℕ) → has p xs ≡ (has p before || has p gone)) → xs ≡ gone_with rows before gone
merged_positions rows before gone xs up old new same =
    passing (λ p. has p before || has p gone) 0 rows xs
    (Rises-from_increasing 0 xs up (λ k d lt. omega arith))
    (subst (λ (end : ℕ). All (λ p. p < end) xs) (omega arith)
    (all_below rows xs (λ p e. either_below rows before gone old new p (sym (same p) ∙ e))))
    (λ p le lt. same p)
