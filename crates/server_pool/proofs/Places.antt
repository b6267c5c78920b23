-- What is placed when a pool closes.
use Rattle.std.proofs.Common.{◌≡◌, ℕ, zero, suc, ◌+◌, ◌-◌, ◌<◌, ◌≤◌, ◌==◌, List, [], ◌∷◌, length}
use Rattle.std.proofs.Common.{set, map, Option, Some, None, slice_index_or, sym, refl, ap, ◌∙◌}
use Rattle.std.proofs.Common.{subst, arith, eq-eqb, ne_eqb, length-set, get_or-set_other}
use Rattle.std.proofs.Common.{get_or-set_same}
use mathlib.Core.Logic.{dite}
use native.Mathlib.Decide.{ℕ_discrete}
use mathlib.Core.Option.{some}
use lib.ListN.{get_elem?}
use Rattle.lake_values.specs.declared.names.Name.{Name}
use Rattle.server_pool.specs.declared.rule.Hand.{Hand}
use Rattle.server_pool.specs.declared.rule.Server.{Server}
use Rattle.server_pool.specs.declared.rule.Start.{Start}
use Rattle.server_pool.specs.Pooled.{start, weigh, one_if, numbered, at_last, times, notes}
use Rattle.server_pool.specs.Pooled.{last_notes, first_sum, fixed_deletions, took, IsFixed}
use Rattle.server_pool.specs.Pooled.{HoldsAll}
use Rattle.server_pool.specs.Placed.{AreFull, Placed}
use Rattle.server_pool.specs.Rooms.{or_none}
use Rattle.server_pool.proofs.Keeps.{weigh_set, weigh_at, numbered_low}

-- a number up to n is among the first n
pub numbered_one : (k n : ℕ) → 0 < k → k ≤ n → numbered k n ≡ 1
numbered_one k zero some_k low = absurd (omega arith)
numbered_one k (suc n) some_k low = dite (ℕ_discrete (suc n) k)
    (λ e. let one : one_if (suc n == k) ≡ 1 = ap one_if (eq-eqb (suc n) k e) in let most =
    numbered_low k (suc n) in omega arith)
    (λ ne. let z : one_if (suc n == k) ≡ 0 = ap one_if (ne_eqb (suc n) k ne) in let rest =
    numbered_one k n some_k (omega arith) in omega arith)

module _ {P : Type 0} where
  abbrev pub one : Option P → ℕ
  one = or_none (λ (p : P). 1)

  abbrev inside : P → Option P → P
  inside d None = d
  inside d (Some p) = p

  none_weighs : (g : P → ℕ) (o : Option P) → one o ≡ 0 → or_none g o ≡ 0
  none_weighs g None e = refl
  none_weighs g (Some p) e = absurd (omega arith)

  at_here : (l : List (Option P)) (j : ℕ) → j < length l → get_elem? l j ≡ some
      (slice_index_or l j None)
  at_here [] j h = absurd (omega arith)
  at_here (x ∷ xs) zero h = refl
  at_here (x ∷ xs) (suc j) h = at_here xs j (omega arith)

  beyond : (l : List (Option P)) (j : ℕ) (p : P) → slice_index_or l j None ≡ Some p → j < length l
  beyond [] j p e = absurd (let a = ap one e in omega arith)
  beyond (x ∷ xs) zero p e = omega arith
  beyond (x ∷ xs) (suc j) p e = let h = beyond xs j p e in omega arith

  pub full_all : (l : List (Option P)) →
      ((j : ℕ) → j < length l → one (slice_index_or l j None) ≡ 1) → AreFull l
  full_all [] f = tt
  full_all (None ∷ rest) f = absurd (let e = f zero (omega arith) in omega arith)
  full_all (Some p ∷ rest) f = full_all rest (λ j h. f (suc j) (omega arith))

  pub weigh_somes : (g : P → ℕ) (l : List P) → weigh (or_none g) (map Some l) ≡ weigh g l
  weigh_somes g [] = refl
  weigh_somes g (p ∷ ps) = let h = weigh_somes g ps in omega arith

module _ {P : Type 0} (faults : P → ℕ) (deletions : P → List Name) where
  pub placed_begins : (v : Hand) (places : List (Option P)) → v.held ≡ [] → length places ≡ length
      v.starts → ((g : P → ℕ) → weigh (or_none g) places ≡ 0) → Placed faults deletions v places
  placed_begins v places none long empty = record {
    long = long;
    each = λ j h. let low = weigh_at one places j _ (at_here places j h) in let z = empty (λ p. 1)
        in let t = ap (times (suc j)) none in omega arith;
    sum = empty faults ∙ sym (ap notes none);
    lasts = empty (λ p. at_last (faults p)) ∙ sym (ap last_notes none);
    fixed = λ j p e. absurd (let h = beyond places j p e in let low = weigh_at one places j _
        (at_here places j h) in let z = empty (λ p. 1) in let a = ap one e in omega arith);
  }

  pub placed_more : (v : Hand) (places : List (Option P)) (x : Server P) → Placed faults deletions v
      places → IsFixed deletions v.starts x → times x.number v.held ≡ 0
      → Placed faults deletions (took faults v x) (set places (x.number - 1) (Some x.port))
  placed_more v places x r fixed fresh =
      let k : ℕ = x.number - 1 in
      let back : suc k ≡ x.number = let a = fixed.0 in omega arith in
      let inside_k : k < length places = let a = fixed.0 in let b = fixed.1 in let l = r.long in
      omega arith in
      let old : Option P = slice_index_or places k None in
      let at : get_elem? places k ≡ some old = at_here places k inside_k in
      let none : one old ≡ 0 = r.each k inside_k ∙ (ap (λ m. times m v.held) back ∙ fresh) in
      let here = get_or-set_same places k (Some x.port) None inside_k in record {
        long = length-set places k (Some x.port) ∙ r.long;
        each = λ j h. dite (ℕ_discrete j k)
            (λ e. let a = ap one
            (ap (λ m. slice_index_or (set places k (Some x.port)) m None) e ∙ here) in
            let b : one_if (x.number == suc j) ≡ 1 = ap one_if
            (eq-eqb x.number (suc j) (omega arith)) in
            let c = ap (λ m. times m v.held) (ap suc e ∙ back) in omega arith)
            (λ ne. let a = ap one (get_or-set_other places k j (Some x.port) None ne) in
            let b : one_if (x.number == suc j) ≡ 0 = ap one_if
            (ne_eqb x.number (suc j) (λ e. ne (omega arith))) in
            let c = r.each j (let l = length-set places k (Some x.port) in omega arith) in omega
            arith);
        sum = let s = weigh_set (or_none faults) places k old (Some x.port) at in let z =
            none_weighs faults old none in let was = r.sum in omega arith;
        lasts = let s = weigh_set (or_none (λ (p : P). at_last (faults p))) places k old
            (Some x.port) at in let z = none_weighs (λ p. at_last (faults p)) old none in let was =
            r.lasts in omega arith;
        fixed = λ j p e. dite (ℕ_discrete j k)
            (λ is. let same : x.port ≡ p = ap (inside p) (sym here ∙
            (ap (λ m. slice_index_or (set places k (Some x.port)) m None) (sym is) ∙ e)) in
            ap deletions (sym same) ∙
            (fixed.2 ∙ ap (fixed_deletions v.starts) (sym (ap suc is ∙ back))))
            (λ ne. r.fixed j p (sym (get_or-set_other places k j (Some x.port) None ne) ∙ e));
      }

  pub placed_after : (v w : Hand) (places more : List (Option P)) (x : Server P) → Placed faults
      deletions v places → (w ≡ took faults v x) × IsFixed deletions v.starts x ×
      (times x.number v.held ≡ 0)
      → more ≡ set places (x.number - 1) (Some x.port) → Placed faults deletions w more
  placed_after v w places more x r (is, fixed, fresh) made = subst
      (λ (t : Hand × List (Option P)). Placed faults deletions t.0 t.1)
      (λ i. (sym is i, sym made i)) (placed_more v places x r fixed fresh)

  pub placed_all : (v : Hand) (places : List (Option P)) → Placed faults deletions v places →
      HoldsAll v → AreFull places
  placed_all v places r all = full_all places (λ j h. r.each j h ∙ (all.once (suc j) ∙ numbered_one
      (suc j) (length v.starts) (omega arith) (let l = r.long in omega arith)))

  same_deletions : (l : List P) (starts : List Start) → length l ≡ length starts → ((j : ℕ) (p : P)
      → slice_index_or (map Some l) j None ≡ Some p → deletions p ≡
      (slice_index_or starts j (start 0 [])).deletions)
      → map deletions l ≡ map (λ (s : Start). s.deletions) starts
  same_deletions [] [] long f = refl
  same_deletions [] (s ∷ ss) long f = absurd (omega arith)
  same_deletions (p ∷ ps) [] long f = absurd (omega arith)
  same_deletions (p ∷ ps) (s ∷ ss) long f = λ i. f zero p refl i ∷ same_deletions ps ss
      (omega arith) (λ j q e. f (suc j) q e) i

  length_somes : (l : List P) → length (map Some l) ≡ length l
  length_somes [] = refl
  length_somes (p ∷ ps) = let h = length_somes ps in omega arith

  module _ (v : Hand) (l : List P) (places : List (Option P)) (is : map Some l ≡ places)
      (r : Placed faults deletions v places) (all : HoldsAll v) where
    pub closed_count : length l ≡ length v.starts
    closed_count = sym (length_somes l) ∙ (ap length is ∙ r.long)

    pub closed_sum : weigh faults l ≡ first_sum v.starts + v.rise
    closed_sum = sym (weigh_somes faults l) ∙
        (ap (weigh (or_none faults)) is ∙ (r.sum ∙ all.counts))

    pub closed_last : 0 < v.lasts → 0 < weigh (λ (p : P). at_last (faults p)) l
    closed_last p = let a = weigh_somes (λ (p : P). at_last (faults p)) l in let b = ap
        (weigh (or_none (λ (p : P). at_last (faults p)))) is in let c = r.lasts in let d =
        all.marked p in omega arith

    pub closed_deletions : map deletions l ≡ map (λ (s : Start). s.deletions) v.starts
    closed_deletions = same_deletions l v.starts closed_count (λ j p e. r.fixed j p
        (sym (ap (λ (m : List (Option P)). slice_index_or m j None) is) ∙ e) ∙ ap
        (λ m. (slice_index_or v.starts m (start 0 [])).deletions)
        (let b : suc j - 1 ≡ j = omega arith in b))
