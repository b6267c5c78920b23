-- Each step keeps the rule of the words.
use Rattle.std.proofs.Common.{◌≡◌, ◌≢◌, ℕ, ◌+◌, ◌-◌, ◌<◌, eqb, zero, suc, slice_index}
use Rattle.std.proofs.Common.{slice_index_or, List, [], ◌∷◌, ◌++◌, length, get_or, set, sym, refl}
use Rattle.std.proofs.Common.{ap, ◌∙◌, subst, ⊎_elim, arith, length-set, get_or-set_other}
use Rattle.std.proofs.Common.{get_or-set_same}
use mathlib.Core.Logic.{dite}
use native.Mathlib.Decide.{ℕ_discrete}
use mathlib.Core.Option.{some, none}
use lib.ListN.{get_elem?}
use lib.Seq.{set-get_or}
use prog.Atomic.{either}
use Rattle.atomic_table.specs.Table.{State, Me, step, keeps, stepped, Allows, Splits, Joins}
use Rattle.atomic_table.proofs.Lists.{at_set, at_snoc, exchanged}
use Rattle.race_claim.specs.declared.rule.Known.{Known}
use Rattle.race_claim.specs.Race.{known, Knows, IsTrueOfSome, Kept, claimed, looked, agrees}
use Rattle.race_claim.specs.Seats.{HasOneHolderEach}

-- a word that changed was 0
pub knows_more : (words words' : List ℕ) →
    ((j : ℕ) → 0 < get_or words j 0 → get_or words' j 0 ≡ get_or words j 0) → (held : List (ℕ × ℕ))
    → Knows words held → Knows words' held
knows_more words words' same [] k = tt
knows_more words words' same (p ∷ ps) (q, a, k, rest) = (
  q,
  a,
  same (p.0 - 1) (subst (λ (x : ℕ). 0 < x) (sym k) a) ∙ k,
  knows_more words words' same ps
      rest,
)

pub knows_both : (words : List ℕ) (xs ys : List (ℕ × ℕ)) → Knows words xs → Knows words ys → Knows
    words (xs ++ ys)
knows_both words [] ys a b = b
knows_both words (p ∷ ps) ys (q, a, k, rest) b = (q, a, k, knows_both words ps ys rest b)

pub holder_at : (words : List ℕ) (held : List (ℕ × ℕ)) → Knows words held → (k : ℕ) (p : ℕ × ℕ) → k
    < length held → slice_index_or held k p ≡ p → slice_index words (p.0 - 1) ≡ p.1
holder_at words [] known k p inside e = absurd (omega arith)
holder_at words (q ∷ qs) (_, _, holds, rest) zero p inside e =
    subst (λ (x : ℕ × ℕ). slice_index words (x.0 - 1) ≡ x.1) e holds
holder_at words (q ∷ qs) (_, _, holds, rest) (suc k) p inside e =
    holder_at words qs rest k p (omega arith) e

-- what is true of some words names one holder a task
pub one_holder_each : (held : List (ℕ × ℕ)) → IsTrueOfSome held → HasOneHolderEach held
one_holder_each held (words, known) task a b (i, i_in, i_is) (j, j_in, j_is) =
    sym (holder_at words held known i (task, a) i_in i_is) ∙ holder_at words held known j (task, b)
    j_in j_is

-- each view holds of the words, where one has changed
seats_stay : (words : List ℕ) (vs : List Known) (me : ℕ) (w : Known) → Knows words w.held →
    ((j : ℕ) (v : Known) → get_elem? vs j ≡ some v → Knows words v.held)
    → (j : ℕ) (v : Known) → get_elem? (set vs me w) j ≡ some v → Knows words v.held
seats_stay words vs me w mine others j v e =
    ⊎_elim (λ (t : (j ≡ me) × (w ≡ v)). subst (λ (x : Known). Knows words x.held) t.1 mine)
    (λ (t : (j ≢ me) × (get_elem? vs j ≡ some v)). others j v t.1) (at_set vs me j w v e)

module _ {S : Type 0} where
  -- a step that changes no word
  pub unmoved : (n : ℕ) (s : State S Known) → Kept n s → (i me : ℕ) (cs : List (ℕ × S)) (w : Known)
      → Knows s.words w.held → Kept n (stepped s i (get_or s.words i 0) me cs w keeps)
  unmoved n s r i me cs w mine = subst
      (λ (ws : List ℕ). Kept n record { words = ws; homes = s.homes; views = set s.views me w })
      (sym (set-get_or s.words i 0)) record {
        wide = r.wide;
        small = r.small;
        each = seats_stay s.words s.views me w mine r.each;
      }

  -- a word that was 0 becomes a, or keeps its number
  pub claims : (n id : ℕ) (me : Me S Known) (i a : ℕ) (slots : ℕ) → i < n → 0 < a → a < 4294967296
      → Allows (Kept n) slots id me i (λ m. either (eqb m 0) a m)
      (claimed (step slots i 0 a none) me)
  claims n id me i a slots inside some_a small s r homes at bound =
      let m : ℕ = get_or s.words i 0 in
      let x : ℕ = either (eqb m 0) a m in
      let ws : List ℕ = set s.words i x in
      let w : Known = known ((i + 1, x) ∷ me.0.held) (i + 1, m) in
      let long : length s.words ≡ n = r.wide in
      let here : get_or ws i 0 ≡ x = get_or-set_same s.words i x 0 (omega arith) in
      let back : i + 1 - 1 ≡ i = omega arith in
      let positive : 0 < x = exchanged m 0 a (λ y. 0 < y) (λ e. some_a) (λ ne. omega arith) in
      let low : x < 4294967296 = exchanged m 0 a (λ y. y < 4294967296) (λ e. small)
      (λ ne. r.small i) in
      let same : (j : ℕ) → 0 < get_or s.words j 0 → get_or ws j 0 ≡ get_or s.words j 0 = λ j some_j.
      dite (ℕ_discrete j i)
      (λ e. let z : 0 < m = subst (λ k. 0 < get_or s.words k 0) e some_j in
      let kept : x ≡ m = exchanged m 0 a (λ y. y ≡ m) (λ e'. absurd (omega arith)) (λ ne. refl) in
      ap (λ k. get_or ws k 0) e ∙ (here ∙ (kept ∙ ap (λ k. get_or s.words k 0) (sym e))))
      (λ ne. get_or-set_other s.words i j x 0 ne) in
      let each : (j : ℕ) (v : Known) → get_elem? s.views j ≡ some v → Knows ws v.held = λ j v e.
      knows_more s.words ws same v.held (r.each j v e) in (
        w,
        keeps,
        tt,
        record {
          wide = length-set s.words i x ∙ long;
          small = λ j. dite (ℕ_discrete j i)
              (λ e. subst (λ k. k < 4294967296) (sym (ap (λ k. get_or ws k 0) e ∙ here)) low)
              (λ ne. subst (λ k. k < 4294967296) (sym (get_or-set_other s.words i j x 0 ne))
              (r.small j));
          each = seats_stay ws s.views id w
              (omega arith, positive, ap (λ k. get_or ws k 0) back ∙ here, each id me.0 at) each;
        },
        (r.small i, refl, refl),
      )

  pub looks : (n id : ℕ) (me : Me S Known) (i : ℕ) (slots : ℕ) → Allows (Kept n) slots id me i
      (λ m. m) (looked (step slots i 0 0 none) me)
  looks n id me i slots s r homes at bound =
      let m : ℕ = get_or s.words i 0 in
      let back : i + 1 - 1 ≡ i = omega arith in
      dite (ℕ_discrete m 0)
      (λ e. (
        known me.0.held (i + 1, m),
        keeps,
        tt,
        unmoved n s r i id me.1
            (known me.0.held (i + 1, m)) (r.each id me.0 at),
        (r.small i, (λ _. refl), (λ p. absurd (omega arith)), refl),
      ))
      (λ ne. (
        known ((i + 1, m) ∷ me.0.held) (i + 1, m),
        keeps,
        tt,
        unmoved n s r i id me.1
            (known ((i + 1, m) ∷ me.0.held) (i + 1, m))
            (omega arith, omega arith, ap (λ k. get_or s.words k 0) back, r.each id me.0 at),
        (r.small i, (λ e. absurd (ne e)), (λ p. refl), refl),
      ))

  pub agree : (n id : ℕ) (me : Me S Known) (i : ℕ) (slots : ℕ) → Allows (Kept n) slots id me i
      (λ m. m) (agrees (step slots i 0 0 none) me)
  agree n id me i slots s r homes at bound = (
    me.0,
    keeps,
    tt,
    unmoved n s r i id me.1 me.0
        (r.each id me.0 at),
    (refl, refl, (s.words, r.each id me.0 at)),
  )

  pub splits : (n id : ℕ) (v : Known) → Splits {S = S} (Kept n) id v v v
  splits n id v s r at = record {
    wide = r.wide;
    small = r.small;
    each = λ j u e. ⊎_elim (seats_stay s.words s.views id v (r.each id v at) r.each j u)
        (λ (t : v ≡ u). subst (λ (x : Known). Knows s.words x.held) t (r.each id v at))
        (at_snoc (set s.views id v) v u j e);
  }

  pub joins : (n id : ℕ) (v : Known) (other : ℕ) (w : Known) → Joins {S = S} (Kept n) id v other w
      (known (v.held ++ w.held) v.last) (known [] (0, 0))
  joins n id v other w s r at apart at' =
      let both : Known = known (v.held ++ w.held) v.last in
      let was : get_elem? s.views other ≡ some w = ⊎_elim (λ t. absurd (apart t.0)) (λ t. t.1)
      (at_set s.views id other both w at') in
      let now : (j : ℕ) (u : Known) → get_elem? (set s.views id both) j ≡ some u → Knows s.words
      u.held = seats_stay s.words s.views id both
      (knows_both s.words v.held w.held (r.each id v at) (r.each other w was)) r.each in
      record {
        wide = r.wide;
        small = r.small;
        each = seats_stay s.words (set s.views id both)
            other (known [] (0, 0)) tt now;
      }
