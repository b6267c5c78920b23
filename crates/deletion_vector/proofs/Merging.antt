-- Two ascending lists on the way to one: what was taken, and what is left of each.
use Rattle.std.proofs.Common.{◌≡◌, ℕ, ◌+◌, ◌<◌, ◌≤◌, ◌-◌, ◌⊎◌, inl, inr, take, ◌||◌, Bool, true, false, List, [], ◌∷◌, ◌++◌, length, get_or, drop, None, refl, sym, ap, subst, ◌∙◌, arith}
use Rattle.std.specs.List.Sorted.{IsStrictlyIncreasing}
use Rattle.std.specs.Ordering.{nat_cmp}
use Rattle.std.specs.declared.cmp.Ordering.TheVariants.{Less, Equal, Greater}
use Rattle.std.proofs.lemmas.List.{append-nil, drop_more, drop_all, take_rest}
use Rattle.deletion_vector.specs.Positions.{has}
use Rattle.deletion_vector.proofs.Ascending.{Ascends, Ascends-from_increasing, IsStrictlyIncreasing-from_ascends, Ascends-between, Ascends-moved, has-append, union_left, union_right, union_both}

pub record IsMerging (left right both : List ℕ) (i j : ℕ) : Type 0 where
  pub left_within : i ≤ length left
  pub right_within : j ≤ length right
  pub left_above : Ascends None (both ++ drop i left)
  pub right_above : Ascends None (both ++ drop j right)
  pub union : (p : ℕ) → (has p both || (has p (drop i left) || has p (drop j right))) ≡ (has p left || has p right)

pub starts : (left right both : List ℕ) → both ≡ [] → IsStrictlyIncreasing left → IsStrictlyIncreasing right → IsMerging left right both 0 0
starts left right both none up_left up_right = rw none record {
  left_within = omega arith;
  right_within = omega arith;
  left_above = Ascends-from_increasing left up_left;
  right_above = Ascends-from_increasing right up_right;
  union = λ p. refl;
}

here : (xs : List ℕ) (i : ℕ) → i < length xs → drop i xs ≡ get_or xs i 0 ∷ drop (i + 1) xs
here xs i lt = drop_more xs i 0 lt

pub takes_left : (left right both after : List ℕ) (i j : ℕ) → after ≡ both ++ get_or left i 0 ∷ [] → i < length left → j < length right → get_or left i 0 < get_or right j 0
    → IsMerging left right both i j → IsMerging left right after (i + 1) j
takes_left left right both after i j is lt_i lt_j less so_far =
    let a = subst (λ (l : List ℕ). Ascends None (both ++ l)) (here left i lt_i) so_far.left_above in
    let b = subst (λ (l : List ℕ). Ascends None (both ++ l)) (here right j lt_j) so_far.right_above in
    rw is record {
      left_within = omega arith;
      right_within = so_far.right_within;
      left_above = Ascends-moved None both (get_or left i 0) (drop (i + 1) left) a;
      right_above = subst (λ (l : List ℕ). Ascends None ((both ++ get_or left i 0 ∷ []) ++ l)) (sym (here right j lt_j)) (Ascends-between None both (get_or left i 0) (drop (i + 1) left) (get_or right j 0) (drop (j + 1) right) a b less);
      union = λ p. union_left p both (get_or left i 0) (drop (i + 1) left) (drop j right) ∙ ap (λ (l : List ℕ). has p both || (has p l || has p (drop j right))) (sym (here left i lt_i)) ∙ so_far.union p;
    }

pub takes_right : (left right both after : List ℕ) (i j : ℕ) → after ≡ both ++ get_or right j 0 ∷ [] → i < length left → j < length right → get_or right j 0 < get_or left i 0
    → IsMerging left right both i j → IsMerging left right after i (j + 1)
takes_right left right both after i j is lt_i lt_j less so_far =
    let a = subst (λ (l : List ℕ). Ascends None (both ++ l)) (here left i lt_i) so_far.left_above in
    let b = subst (λ (l : List ℕ). Ascends None (both ++ l)) (here right j lt_j) so_far.right_above in
    rw is record {
      left_within = so_far.left_within;
      right_within = omega arith;
      left_above = subst (λ (l : List ℕ). Ascends None ((both ++ get_or right j 0 ∷ []) ++ l)) (sym (here left i lt_i)) (Ascends-between None both (get_or right j 0) (drop (j + 1) right) (get_or left i 0) (drop (i + 1) left) b a less);
      right_above = Ascends-moved None both (get_or right j 0) (drop (j + 1) right) b;
      union = λ p. union_right p both (get_or right j 0) (drop i left) (drop (j + 1) right) ∙ ap (λ (l : List ℕ). has p both || (has p (drop i left) || has p l)) (sym (here right j lt_j)) ∙ so_far.union p;
    }

pub takes_both : (left right both after : List ℕ) (i j : ℕ) → after ≡ both ++ get_or left i 0 ∷ [] → i < length left → j < length right → get_or left i 0 ≡ get_or right j 0
    → IsMerging left right both i j → IsMerging left right after (i + 1) (j + 1)
takes_both left right both after i j is lt_i lt_j same so_far =
    let x = get_or left i 0 in
    let at_right : drop j right ≡ get_or left i 0 ∷ drop (j + 1) right = here right j lt_j ∙ ap (λ (y : ℕ). y ∷ drop (j + 1) right) (sym same) in
    let a = subst (λ (l : List ℕ). Ascends None (both ++ l)) (here left i lt_i) so_far.left_above in
    let b = subst (λ (l : List ℕ). Ascends None (both ++ l)) at_right so_far.right_above in
    rw is record {
      left_within = omega arith;
      right_within = omega arith;
      left_above = Ascends-moved None both (get_or left i 0) (drop (i + 1) left) a;
      right_above = Ascends-moved None both (get_or left i 0) (drop (j + 1) right) b;
      union = λ p. union_both p both (get_or left i 0) (drop (i + 1) left) (drop (j + 1) right)
          ∙ ap (λ (l : List ℕ). has p both || (has p l || has p (get_or left i 0 ∷ drop (j + 1) right))) (sym (here left i lt_i))
          ∙ ap (λ (l : List ℕ). has p both || (has p (drop i left) || has p l)) (sym at_right) ∙ so_far.union p;
    }

-- one of the two is used up
pub record IsMerged (left right all : List ℕ) : Type 0 where
  pub ascending : IsStrictlyIncreasing all
  pub union : (p : ℕ) → has p all ≡ (has p left || has p right)

or_groups : (a b c : Bool) → ((a || b) || c) ≡ (a || (b || c))
or_groups true b c = refl
or_groups false b c = refl

has_all : (p : ℕ) (both a b : List ℕ) → has p ((both ++ a) ++ b) ≡ (has p both || (has p a || has p b))
has_all p both a b = has-append p (both ++ a) b ∙ ap (λ x. x || has p b) (has-append p both a) ∙ or_groups (has p both) (has p a) (has p b)

pub left_ends : (left right both : List ℕ) (i j : ℕ) → length left ≤ i → IsMerging left right both i j → IsMerged left right ((both ++ drop i left) ++ drop j right)
left_ends left right both i j le so_far =
    let none : drop i left ≡ [] = drop_all i left le in
    let shape : (both ++ drop i left) ++ drop j right ≡ both ++ drop j right = ap (λ (l : List ℕ). (both ++ l) ++ drop j right) none ∙ ap (λ (l : List ℕ). l ++ drop j right) (append-nil both) in
    record {
      ascending = IsStrictlyIncreasing-from_ascends ((both ++ drop i left) ++ drop j right) (subst (λ (l : List ℕ). Ascends None l) (sym shape) so_far.right_above);
      union = λ p. has_all p both (drop i left) (drop j right) ∙ so_far.union p;
    }

pub right_ends : (left right both : List ℕ) (i j : ℕ) → length right ≤ j → IsMerging left right both i j → IsMerged left right ((both ++ drop i left) ++ drop j right)
right_ends left right both i j le so_far =
    let none : drop j right ≡ [] = drop_all j right le in
    let shape : (both ++ drop i left) ++ drop j right ≡ both ++ drop i left = ap (λ (l : List ℕ). (both ++ drop i left) ++ l) none ∙ append-nil (both ++ drop i left) in
    record {
      ascending = IsStrictlyIncreasing-from_ascends ((both ++ drop i left) ++ drop j right) (subst (λ (l : List ℕ). Ascends None l) (sym shape) so_far.left_above);
      union = λ p. has_all p both (drop i left) (drop j right) ∙ so_far.union p;
    }

-- what a loop over both leaves, and the rests that are appended to it
pub ends : (left right both first all : List ℕ) (i j : ℕ) → first ≡ both ++ take (length left - i) (drop i left) → all ≡ first ++ take (length right - j) (drop j right)
    → (length left ≤ i) ⊎ (length right ≤ j) → IsMerging left right both i j → IsMerged left right all
ends left right both first all i j e f (inl le) so_far = rw (f, e, take_rest left i, take_rest right j) (left_ends left right both i j le so_far)
ends left right both first all i j e f (inr le) so_far = rw (f, e, take_rest left i, take_rest right j) (right_ends left right both i j le so_far)

-- what a comparison told

pub lt_from_less : (a b : ℕ) → Less ≡ nat_cmp a b → a < b
lt_from_less a b e = grind (arith, e)

pub gt_from_greater : (a b : ℕ) → Greater ≡ nat_cmp a b → b < a
gt_from_greater a b e = grind (arith, e)

pub eq_from_equal : (a b : ℕ) → Equal ≡ nat_cmp a b → a ≡ b
eq_from_equal a b e = grind (arith, e)
