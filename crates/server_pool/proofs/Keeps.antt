-- Each step keeps the rule of the pool.
use Rattle.std.proofs.Common.{◌≡◌, ◌≢◌, ℕ, zero, suc, ◌+◌, ◌-◌, ◌<◌, ◌≤◌, ◌==◌, Bool, true, false}
use Rattle.std.proofs.Common.{List, [], ◌∷◌, ◌++◌, length, set, sym, refl, ap, ◌∙◌, subst, ⊎_elim}
use Rattle.std.proofs.Common.{arith, eqb→eq, eq-eqb, ne_eqb, length-append, slice_index_or, map}
use Rattle.std.specs.Prelude.{if◌then◌else◌}
use mathlib.Core.Logic.{dite}
use native.Mathlib.Decide.{ℕ_discrete}
use mathlib.Core.Option.{some, some-injective, some-ne-none}
use lib.Dec.{T}
use lib.ListN.{get_elem?}
use Rattle.crossbeam_queue.specs.Fifo.{Pushes, Pops, Forks, Merges, Learns}
use Rattle.crossbeam_queue.proofs.Lists.{at_set, at_snoc}
use Rattle.server_pool.specs.declared.rule.Hand.{Hand}
use Rattle.server_pool.specs.declared.rule.Server.{Server}
use Rattle.server_pool.specs.declared.rule.Start.{Start}
use Rattle.lake_values.specs.declared.names.Name.{Name}
use Rattle.server_pool.specs.Pooled.{hand, start, weigh, one_if, numbered, at_last, without, noted}
use Rattle.server_pool.specs.Pooled.{times, notes, last_notes, first_sum, fixed_deletions, IsHeldAt}
use Rattle.server_pool.specs.Pooled.{took, gave, start_of, added, IsFixed, Pooled, HoldsRest}
use Rattle.server_pool.specs.Pooled.{HasRoom, IsRoomToAdd, IsFresh}
use Rattle.atomic_table.proofs.Lists.{set_else}
use Rattle.atomic_table.specs.Table.{opening}
use Rattle.server_pool.specs.declared.room.Room.{Room}
use Rattle.server_pool.specs.Rooms.{IsRoomFor, IsKept}

module _ {A : Type 0} where
  pub weigh_set : (f : A → ℕ) (l : List A) (i : ℕ) (v w : A) → get_elem? l i ≡ some v → weigh f
      (set l i w) + f v ≡ weigh f l + f w
  weigh_set f [] i v w e = absurd (some-ne-none v (sym e))
  weigh_set f (x ∷ xs) zero v w e = let same : f x ≡ f v = ap f (some-injective x v e) in omega
      arith
  weigh_set f (x ∷ xs) (suc i) v w e = let h = weigh_set f xs i v w e in omega arith

  pub weigh_at : (f : A → ℕ) (l : List A) (i : ℕ) (v : A) → get_elem? l i ≡ some v → f v ≤ weigh f l
  weigh_at f [] i v e = absurd (some-ne-none v (sym e))
  weigh_at f (x ∷ xs) zero v e = let same : f x ≡ f v = ap f (some-injective x v e) in omega arith
  weigh_at f (x ∷ xs) (suc i) v e = let h = weigh_at f xs i v e in omega arith

  pub weigh_snoc : (f : A → ℕ) (l : List A) (x : A) → weigh f (l ++ x ∷ []) ≡ weigh f l + f x
  weigh_snoc f [] x = omega arith
  weigh_snoc f (y ∷ ys) x = let h = weigh_snoc f ys x in omega arith

  pub weigh_append : (f : A → ℕ) (l m : List A) → weigh f (l ++ m) ≡ weigh f l + weigh f m
  weigh_append f [] m = omega arith
  weigh_append f (y ∷ ys) m = let h = weigh_append f ys m in omega arith

  weigh_none : (f g : A → ℕ) (l : List A) → weigh g l ≡ 0 →
      ((j : ℕ) (u : A) → get_elem? l j ≡ some u → g u ≡ 0 → f u ≡ 0) → weigh f l ≡ 0
  weigh_none f g [] z none = refl
  weigh_none f g (x ∷ xs) z none = let a = none zero x refl (omega arith) in let b = weigh_none f g
      xs (omega arith) (λ j u e. none (suc j) u e) in omega arith

  -- the others weigh nothing where g is 0 of each
  pub weigh_alone : (f g : A → ℕ) (l : List A) (i : ℕ) (v : A) → get_elem? l i ≡ some v → g v ≡
      weigh g l → ((j : ℕ) (u : A) → get_elem? l j ≡ some u → g u ≡ 0 → f u ≡ 0) → weigh f l ≡ f v
  weigh_alone f g [] i v e is none = absurd (some-ne-none v (sym e))
  weigh_alone f g (x ∷ xs) zero v e is none =
      let same : x ≡ v = some-injective x v e in
      let gs : g x ≡ g v = ap g same in
      let fs : f x ≡ f v = ap f same in
      let rest = weigh_none f g xs (omega arith) (λ j u e. none (suc j) u e) in omega arith
  weigh_alone f g (x ∷ xs) (suc i) v e is none =
      let low = weigh_at g xs i v e in
      let z = none zero x refl (omega arith) in
      let rest = weigh_alone f g xs i v e (omega arith) (λ j u e. none (suc j) u e) in omega arith

times_case : (b : Bool) (k j t : ℕ) (p : ℕ × ℕ) (ps qs : List (ℕ × ℕ)) → (b ≡ true → p.0 ≡ k) → 0 <
    one_if b + t → (0 < t → times j qs + one_if (k == j) ≡ times j ps)
    → times j (if b then ps else p ∷ qs) + one_if (k == j) ≡ one_if (p.0 == j) + times j ps
times_case true k j t p ps qs is h f =
    let e : one_if (p.0 == j) ≡ one_if (k == j) = ap (λ z. one_if (z == j)) (is refl) in omega arith
times_case false k j t p ps qs is h f = let e = f (omega arith) in omega arith

length_case : (b : Bool) (t : ℕ) (p : ℕ × ℕ) (ps qs : List (ℕ × ℕ)) → 0 < one_if b + t →
    (0 < t → length qs + 1 ≡ length ps) → length (if b then ps else p ∷ qs) + 1 ≡ length (p ∷ ps)
length_case true t p ps qs h f = omega arith
length_case false t p ps qs h f = let e = f (omega arith) in omega arith

noted_case : (g : ℕ → ℕ) (b : Bool) (t n : ℕ) (p : ℕ × ℕ) (ps qs : List (ℕ × ℕ)) → 0 < one_if b + t
    → (0 < t → weigh (λ (p : ℕ × ℕ). g p.1) qs + g n ≡ weigh (λ (p : ℕ × ℕ). g p.1) ps)
    → weigh (λ (p : ℕ × ℕ). g p.1) (if b then ps else p ∷ qs) + g (if b then p.1 else n) ≡ g p.1 +
    weigh (λ (p : ℕ × ℕ). g p.1) ps
noted_case g true t n p ps qs h f = omega arith
noted_case g false t n p ps qs h f = let e = f (omega arith) in omega arith

pub times_without : (k j : ℕ) (held : List (ℕ × ℕ)) → 0 < times k held → times j (without k held) +
    one_if (k == j) ≡ times j held
times_without k j [] h = absurd (omega arith)
times_without k j (p ∷ ps) h =
    times_case (p.0 == k) k j (times k ps) p ps (without k ps)
    (λ e. eqb→eq p.0 k (subst T (sym e) tt)) h (times_without k j ps)

pub length_without : (k : ℕ) (held : List (ℕ × ℕ)) → 0 < times k held → length (without k held) + 1
    ≡ length held
length_without k [] h = absurd (omega arith)
length_without k (p ∷ ps) h =
    length_case (p.0 == k) (times k ps) p ps (without k ps) h (length_without k ps)

pub noted_without : (g : ℕ → ℕ) (k : ℕ) (held : List (ℕ × ℕ)) → 0 < times k held → weigh
    (λ (p : ℕ × ℕ). g p.1) (without k held) + g (noted k held) ≡ weigh (λ (p : ℕ × ℕ). g p.1) held
noted_without g k [] h = absurd (omega arith)
noted_without g k (p ∷ ps) h =
    noted_case g (p.0 == k) (times k ps) (noted k ps) p ps (without k ps) h (noted_without g k ps)

pub all_set : (F : ℕ → Hand → Type 0) (views : List Hand) (id : ℕ) (w : Hand) → F id w →
    ((j : ℕ) (u : Hand) → j ≢ id → get_elem? views j ≡ some u → F j u) → (j : ℕ) (u : Hand) →
    get_elem? (set views id w) j ≡ some u → F j u
all_set F views id w mine others j u e =
    ⊎_elim (λ (x : (j ≡ id) × (w ≡ u)). subst (λ (y : ℕ × Hand). F y.0 y.1)
    (λ i. (sym x.0 i, x.1 i)) mine)
    (λ (x : (j ≢ id) × (get_elem? views j ≡ some u)). others j u x.0 x.1) (at_set views id j w u e)

one_if_same : (k : ℕ) → one_if (k == k) ≡ 1
one_if_same k = ap one_if (eq-eqb k k refl)

one_if_apart : (b : Bool) → one_if b ≤ 1
one_if_apart true = omega arith
one_if_apart false = omega arith

-- a number above n is not among the first n
numbered_above : (k n : ℕ) → n < k → numbered k n ≡ 0
numbered_above k zero h = refl
numbered_above k (suc n) h =
    let z : one_if (suc n == k) ≡ 0 = ap one_if (ne_eqb (suc n) k (λ e. absurd (omega arith))) in
    let rest = numbered_above k n (omega arith) in omega arith

pub numbered_low : (k n : ℕ) → numbered k n ≤ 1
numbered_low k zero = omega arith
numbered_low k (suc n) = dite (ℕ_discrete (suc n) k)
    (λ e. let z = numbered_above k n (omega arith) in let one = one_if_apart (suc n == k) in omega
    arith)
    (λ ne. let z : one_if (suc n == k) ≡ 0 = ap one_if (ne_eqb (suc n) k ne) in let rest =
    numbered_low k n in omega arith)

at_last_rises : (old new : ℕ) → old ≤ new → at_last old ≤ at_last new
at_last_rises old new h = omega arith

length_none : {A : Type 0} (l : List A) → length l ≡ 0 → l ≡ []
length_none [] e = refl
length_none (x ∷ xs) e = absurd (omega arith)

get_front : {A : Type 0} (l : List A) (x : A) (k : ℕ) (d : A) → k < length l → slice_index_or
    (l ++ x ∷ []) k d ≡ slice_index_or l k d
get_front [] x k d h = absurd (omega arith)
get_front (y ∷ ys) x zero d h = refl
get_front (y ∷ ys) x (suc k) d h = get_front ys x k d (omega arith)

get_last : {A : Type 0} (l : List A) (x : A) (k : ℕ) (d : A) → k ≡ length l → slice_index_or
    (l ++ x ∷ []) k d ≡ x
get_last [] x zero d h = refl
get_last [] x (suc k) d h = absurd (omega arith)
get_last (y ∷ ys) x zero d h = absurd (omega arith)
get_last (y ∷ ys) x (suc k) d h = get_last ys x k d (omega arith)

first_alone : (i : ℕ) (v : Hand) → get_elem? (hand 17 [] 0 0 [] ∷ []) i ≡ some v →
    (F : Hand → Type 0) → F (hand 17 [] 0 0 []) → F v
first_alone zero v e F first = subst F (some-injective _ _ e) first
first_alone (suc i) v e F first = absurd (some-ne-none v (sym e))

module _ {P : Type 0} (faults : P → ℕ) (deletions : P → List Name) where
  abbrev Idle : Hand → Type 0
  Idle v = v.parts ≡ 0 → (v.held ≡ []) × (v.rise ≡ 0) × (v.lasts ≡ 0)

  pub takes : (id : ℕ) (v : Hand) → 0 < v.parts → Pops (Pooled faults deletions) id v
      (λ x w. (w ≡ took faults v x) × IsFixed deletions v.starts x × IsFresh v x)
  takes id v some_parts x items views r at =
      let w : Hand = took faults v x in
      let parts = weigh_set (λ (u : Hand). u.parts) views id v w at in
      let was_parts = r.parts in
      let few = weigh_set (λ (u : Hand). length u.held) views id v w at in
      let was_few = r.few in
      let noted = weigh_set (λ (u : Hand). notes u.held) views id v w at in
      let rises = weigh_set (λ (u : Hand). u.rise) views id v w at in
      let was_counts = r.counts in
      let marks = weigh_set (λ (u : Hand). u.lasts) views id v w at in
      let lasts = weigh_set (λ (u : Hand). last_notes u.held) views id v w at in
      let all = r.once x.number in
      let one = numbered_low x.number (length r.starts) in
      let itself : one_if (x.number == x.number) ≡ 1 = one_if_same x.number in
      let mine = weigh_at (λ (u : Hand). times x.number u.held) views id v at in
      let mine_few = weigh_at (λ (u : Hand). length u.held) views id v at in
      let same = r.same id v at some_parts in
      let long = ap length same in (
        w,
        record {
          starts = r.starts;
          parts = omega arith;
          idle = all_set (λ j u. Idle u) views id w (λ z. absurd (omega arith))
              (λ j u ne e. r.idle j u e);
          same = all_set (λ j u. 0 < u.parts → u.starts ≡ r.starts) views id w (λ p. same)
              (λ j u ne e. r.same j u e);
          once = λ k. let one = weigh_set (λ (u : Hand). times k u.held) views id v w at in let was
              = r.once k in omega arith;
          few = omega arith;
          counts = omega arith;
          marked = λ p. let m = r.marked (omega arith) in omega arith;
          fixed = λ j y e. r.fixed (suc j) y e;
        },
        (
          refl,
          subst (λ (l : List Start). IsFixed deletions l x) (sym same) (r.fixed zero x refl),
          (omega arith, omega arith),
        ),
      )

  pub finds_empty : (id : ℕ) (v : Hand) → Learns (Pooled faults deletions) id v (HoldsRest v)
  finds_empty id v items views r at none whole =
      let few = r.few in
      let parts = r.parts in
      let empty : items ≡ [] = length_none items none in
      let alone = λ (f : Hand → ℕ) (idle : (u : Hand) → Idle u → u.parts ≡ 0 → f u ≡ 0). weigh_alone
      f (λ (u : Hand). u.parts) views id v at (omega arith) (λ j u e z. idle u (r.idle j u e) z)
      in
      let same = r.same id v at (omega arith) in
      let long = ap length same in
      let sums = ap first_sum same in record {
        once = λ k.
            let a = alone (λ u. times k u.held) (λ u i z. ap (times k) (i z).0) in
            let all = r.once k in
            let gone = ap (weigh (λ (s : Server P). one_if (s.number == k))) empty in
            let n = ap (numbered k) long in omega arith;
        few = let a = alone (λ u. length u.held) (λ u i z. ap length (i z).0) in omega arith;
        counts =
            let a = alone (λ u. notes u.held) (λ u i z. ap notes (i z).0) in
            let b = alone (λ u. u.rise) (λ u i z. (i z).1) in
            let c = r.counts in
            let gone = ap (weigh (λ (s : Server P). faults s.port)) empty in omega arith;
        marked = λ p.
            let a = alone (λ u. last_notes u.held) (λ u i z. ap last_notes (i z).0) in
            let b = alone (λ u. u.lasts) (λ u i z. (i z).2) in
            let m = r.marked (omega arith) in
            let gone = ap (weigh (λ (s : Server P). at_last (faults s.port))) empty in omega arith;
      }

  pub gives : (n id : ℕ) (v : Hand) (x : Server P) → 0 < v.parts → IsHeldAt x.number (faults x.port)
      v → IsFixed deletions v.starts x → Pushes (Pooled faults deletions) n id v x
      (λ w. w ≡ gave faults v x)
  gives n id v x some_parts held is_fixed items views room r at =
      let w : Hand = gave faults v x in
      let few = weigh_set (λ (u : Hand). length u.held) views id v w at in
      let was_few = r.few in
      let less = length_without x.number v.held held.0 in
      let parts = weigh_set (λ (u : Hand). u.parts) views id v w at in
      let was_parts = r.parts in
      let noted_all = weigh_set (λ (u : Hand). notes u.held) views id v w at in
      let note = noted_without (λ c. c) x.number v.held held.0 in
      let rises = weigh_set (λ (u : Hand). u.rise) views id v w at in
      let was_counts = r.counts in
      let more = held.1 in
      let counts = weigh_snoc (λ (s : Server P). faults s.port) items x in
      let marks = weigh_set (λ (u : Hand). u.lasts) views id v w at in
      let lasts = weigh_set (λ (u : Hand). last_notes u.held) views id v w at in
      let last_note = noted_without at_last x.number v.held held.0 in
      let last_items = weigh_snoc (λ (s : Server P). at_last (faults s.port)) items x in
      let rising : at_last (noted x.number v.held) ≤ at_last (faults x.port) = at_last_rises _ _
      more in
      let same = r.same id v at some_parts in (
        w,
        record {
          starts = r.starts;
          parts = omega arith;
          idle = all_set (λ j u. Idle u) views id w (λ z. absurd (omega arith))
              (λ j u ne e. r.idle j u e);
          same = all_set (λ j u. 0 < u.parts → u.starts ≡ r.starts) views id w (λ p. same)
              (λ j u ne e. r.same j u e);
          once = λ k.
              let one = weigh_set (λ (u : Hand). times k u.held) views id v w at in
              let was = r.once k in
              let t = times_without x.number k v.held held.0 in
              let more_items = weigh_snoc (λ (s : Server P). one_if (s.number == k)) items x in
              omega arith;
          few = let long = length-append items (x ∷ []) in omega arith;
          counts = omega arith;
          marked = λ p. dite (ℕ_discrete (at_last (faults x.port)) 0)
              (λ z. let m = r.marked (omega arith) in omega arith) (λ z. omega arith);
          fixed = λ j y e. ⊎_elim (λ was. r.fixed j y was) (λ is. subst
              (λ (t : Server P × List Start). IsFixed deletions t.1 t.0) (λ i. (is i, same i))
              is_fixed) (at_snoc items x y j e);
        },
        refl,
      )

  pub has_room : (id : ℕ) (v : Hand) (k : ℕ) → 0 < v.parts → 0 < times k v.held → Learns
      (Pooled faults deletions) id v (HasRoom v)
  has_room id v k some_parts held items views r at =
      let few = r.few in
      let mine = weigh_at (λ (u : Hand). length u.held) views id v at in
      let less = length_without k v.held held in
      let long = ap length (r.same id v at some_parts) in omega arith

  pub splits : (id : ℕ) (v : Hand) → 1 < v.parts → Forks (Pooled faults deletions) id v
      (hand (v.parts - 1) v.held v.rise v.lasts v.starts) (hand 1 [] 0 0 v.starts)
  splits id v two items views r at =
      let left : Hand = hand (v.parts - 1) v.held v.rise v.lasts v.starts in
      let right : Hand = hand 1 [] 0 0 v.starts in
      let total : (f : Hand → ℕ) → (weigh f (set views id left) + f v ≡ weigh f views + f left) ×
      (weigh f (set views id left ++ right ∷ []) ≡ weigh f (set views id left) + f right) = λ f.
      (weigh_set f views id v left at, weigh_snoc f (set views id left) right) in
      let parts = total (λ u. u.parts) in
      let was_parts = r.parts in
      let few = total (λ u. length u.held) in
      let was_few = r.few in
      let noted = total (λ u. notes u.held) in
      let rises = total (λ u. u.rise) in
      let was_counts = r.counts in
      let marks = total (λ u. u.lasts) in
      let lasts = total (λ u. last_notes u.held) in
      let same = r.same id v at (omega arith) in record {
        starts = r.starts;
        parts = omega arith;
        idle = λ j u e. ⊎_elim (all_set (λ j u. Idle u) views id left (λ z. absurd (omega arith))
            (λ j u ne e. r.idle j u e) j u)
            (λ (is : right ≡ u). subst Idle is (λ z. absurd (omega arith)))
            (at_snoc (set views id left) right u j e);
        same = λ j u e. ⊎_elim (all_set (λ j u. 0 < u.parts → u.starts ≡ r.starts) views id left
            (λ p. same) (λ j u ne e. r.same j u e) j u) (λ (is : right ≡ u). subst
            (λ (y : Hand). 0 < y.parts → y.starts ≡ r.starts) is (λ p. same))
            (at_snoc (set views id left) right u j e);
        once = λ k. let one = total (λ u. times k u.held) in let was = r.once k in omega arith;
        few = omega arith;
        counts = omega arith;
        marked = λ p. let m = r.marked (omega arith) in omega arith;
        fixed = r.fixed;
      }

  pub joins : (id : ℕ) (v : Hand) (other : ℕ) (w : Hand) → 0 < v.parts → Merges
      (Pooled faults deletions) id v other w
      (hand (v.parts + w.parts) (v.held ++ w.held) (v.rise + w.rise) (v.lasts + w.lasts) v.starts)
      (hand 0 [] 0 0 [])
  joins id v other w some_parts items views r at apart at' =
      let both : Hand = hand (v.parts + w.parts) (v.held ++ w.held) (v.rise + w.rise)
      (v.lasts + w.lasts) v.starts in
      let spent : Hand = hand 0 [] 0 0 [] in
      let total : (f : Hand → ℕ) → (weigh f (set views id both) + f v ≡ weigh f views + f both) ×
      (weigh f (set (set views id both) other spent) + f w ≡ weigh f (set views id both) + f
      spent) = λ f.
      (weigh_set f views id v both at, weigh_set f (set views id both) other w spent at') in
      let parts = total (λ u. u.parts) in
      let was_parts = r.parts in
      let few = total (λ u. length u.held) in
      let was_few = r.few in
      let long = length-append v.held w.held in
      let noted = total (λ u. notes u.held) in
      let note = weigh_append (λ (p : ℕ × ℕ). p.1) v.held w.held in
      let rises = total (λ u. u.rise) in
      let was_counts = r.counts in
      let marks = total (λ u. u.lasts) in
      let lasts = total (λ u. last_notes u.held) in
      let last = weigh_append (λ (p : ℕ × ℕ). at_last p.1) v.held w.held in
      let same = r.same id v at some_parts in
      let idle = all_set (λ j u. Idle u) views id both (λ z. absurd (omega arith))
      (λ j u ne e. r.idle j u e) in
      let starts = all_set (λ j u. 0 < u.parts → u.starts ≡ r.starts) views id both (λ p. same)
      (λ j u ne e. r.same j u e) in record {
        starts = r.starts;
        parts = omega arith;
        idle = all_set (λ j u. Idle u) (set views id both) other spent (λ z. (refl, refl, refl))
            (λ j u ne e. idle j u e);
        same = all_set (λ j u. 0 < u.parts → u.starts ≡ r.starts) (set views id both) other spent
            (λ p. absurd (omega arith)) (λ j u ne e. starts j u e);
        once = λ k. let one = total (λ u. times k u.held) in let both_times = weigh_append
            (λ (p : ℕ × ℕ). one_if (p.0 == k)) v.held w.held in let was = r.once k in omega arith;
        few = omega arith;
        counts = omega arith;
        marked = λ p. let m = r.marked (omega arith) in omega arith;
        fixed = r.fixed;
      }

  pub adds : (n id : ℕ) (v : Hand) (x : Server P) → v.parts ≡ 17 → x.number ≡ suc (length v.starts)
      → Pushes (Pooled faults deletions) n id v x (λ w. w ≡ added faults deletions v x)
  adds n id v x all_parts next items views room r at =
      let s : Start = start_of faults deletions x.port in
      let w : Hand = added faults deletions v x in
      let more : List Start = v.starts ++ s ∷ [] in
      let gone : Hand = hand 0 [] 0 0 [] in
      let same = r.same id v at (omega arith) in
      let long = ap length same in
      let sums = ap first_sum same in
      let longer : length more ≡ suc (length v.starts) = let l = length-append v.starts (s ∷ []) in
      omega arith in
      let total = λ (f : Hand → ℕ). weigh_set f views id v w at in
      let parts = total (λ u. u.parts) in
      let was_parts = r.parts in
      let few = total (λ u. length u.held) in
      let was_few = r.few in
      let noted = total (λ u. notes u.held) in
      let rises = total (λ u. u.rise) in
      let was_counts = r.counts in
      let marks = total (λ u. u.lasts) in
      let lasts = total (λ u. last_notes u.held) in
      let none = weigh_set (λ (u : Hand). u.parts) views id v gone at in
      let alone : (j : ℕ) (u : Hand) → j ≢ id → get_elem? views j ≡ some u → u.parts ≡ 0 = λ j u ne
      e. let low = weigh_at (λ (u : Hand). u.parts) (set views id gone) j u
      (set_else views id j gone ne ∙ e) in omega arith in (
        w,
        record {
          starts = more;
          parts = omega arith;
          idle = all_set (λ j u. Idle u) views id w (λ z. absurd (omega arith))
              (λ j u ne e. r.idle j u e);
          same = all_set (λ j u. 0 < u.parts → u.starts ≡ more) views id w (λ p. refl)
              (λ j u ne e p. absurd (let z = alone j u ne e in omega arith));
          once = λ k.
              let one = total (λ u. times k u.held) in
              let was = r.once k in
              let more_items = weigh_snoc (λ (s : Server P). one_if (s.number == k)) items x in
              let a = ap (numbered k) longer in
              let b = ap (numbered k) long in
              let c = ap (λ m. one_if (m == k)) next in omega arith;
          few = let l = length-append items (x ∷ []) in omega arith;
          counts = let more_items = weigh_snoc (λ (s : Server P). faults s.port) items x in let
              more_starts = weigh_snoc (λ (s : Start). s.faults) v.starts s in omega arith;
          marked = λ p. let m = r.marked (omega arith) in let more_items = weigh_snoc
              (λ (s : Server P). at_last (faults s.port)) items x in omega arith;
          fixed = λ j y e. ⊎_elim
              (λ was. let f = r.fixed j y was in (
                f.0,
                (omega arith),
                f.2 ∙ (ap
                    (λ l. fixed_deletions l y.number) (sym same) ∙ ap
                    (λ (t : Start). t.deletions) (sym (get_front v.starts s (y.number - 1)
                    (start 0 []) (let a = f.0 in let b = f.1 in omega arith)))),
              ))
              (λ is. subst (IsFixed deletions more) is (
                omega arith,
                omega arith,
                ap
                    (λ (t : Start). t.deletions)
                    (sym (get_last v.starts s (x.number - 1) (start 0 []) (omega arith))),
              ))
              (at_snoc items x y j e);
        },
        refl,
      )

  pub room_to_add : (id : ℕ) (v : Hand) → 0 < v.parts → Learns (Pooled faults deletions) id v
      (IsRoomToAdd v)
  room_to_add id v some_parts items views r at =
      let few = r.few in
      let long = ap length (r.same id v at some_parts) in omega arith

  -- the rule of a pool that no server has joined
  pub begins : Pooled faults deletions [] (hand 17 [] 0 0 [] ∷ [])
  begins = record {
    starts = [];
    parts = omega arith;
    idle = λ i v e z. absurd
        (first_alone i v e (λ (u : Hand). u.parts ≡ 0 → ⊥) (λ z. absurd (omega arith)) z);
    same = λ i v e. first_alone i v e (λ (u : Hand). 0 < u.parts → u.starts ≡ []) (λ p. refl);
    once = λ k. omega arith;
    few = omega arith;
    counts = omega arith;
    marked = λ p. absurd (omega arith);
    fixed = λ i x e. absurd (some-ne-none x (sym e));
  }

module _ {P : Type 0} where
  pub keeps_room : (n : ℕ) (words : List ℕ) (slots : List (Room P)) (room : Room P) → slots ≡ room ∷
      [] → IsRoomFor n room → IsKept n (opening {S = Room P} {V = Unit {0}} words slots tt)
  keeps_room n words slots room e fits = record {
    room = room;
    here = ap (λ (l : List (Room P)). get_elem? (map some l) 0) e;
    fits = fits;
  }
