-- A refusal stands at one of the tokens or behind the last, and what stands before it can be completed.
use Rattle.std.proofs.Common.{◌≡◌, inl, inr, refl, sym, ◌∙◌, ap, subst, append_assoc, append-nil, length-append, arith, ℕ, zero, suc, ◌+◌, ◌-◌, ◌&&◌, Bool, true, false, List, [], ◌∷◌, ◌++◌, Option, Ok, Err, length}
use Rattle.grammar_laws.specs.Grammars.{Words, Grammar, Rules, one, nothing, both, fork, either, many, as_, down, afresh}
use Rattle.grammar_laws.specs.Phrases.{Relation, IsToken, InTurn, Chosen, IsLead, has_room, less_one, Opened, PhraseIn, Past, Deeper}
use Rattle.grammar_laws.specs.Prediction.{Classes, is_among, begins, first_of, has_flat, completes}
use Rattle.grammar_laws.specs.Reading.{Refused, Refusal, Syntax, Limit, Reader, choose, read_in_turn, read_members, behind, read_in, read_deeper}
use Rattle.grammar_laws.specs.Laws.{Continues}
use Rattle.grammar_laws.proofs.ClassLemmas.{both_hold}
use Rattle.grammar_laws.proofs.Sound.{IsSound, MembersOf, sound_in, sound_deeper}
use Rattle.grammar_laws.proofs.Steps.{chosen_one, token_err, in_turn_err, mapped_err, with_budget_err, member_err, more_err, lead_of}
use Rattle.grammar_laws.proofs.Samples.{HasSample, StartsWith, sample_chosen, has_sample, starts_with}

-- the tokens before the refused place begin a phrase, and at Limit also with the refused token
abbrev pub BegunAt : {X A : Type 0} → Relation X A → ℕ → List X → Refused X → Type 0
BegunAt {X} {A} P budget front f = (more : List X) × (x : A) × (left : ℕ) × Continues f.0 f.1 more × P (length front) budget (front ++ more) x left

-- The refused place is among the tokens, and under the premise C what stands before it is begun.
abbrev pub RefusedAt : {X A : Type 0} → Relation X A → Type 0 → ℕ → List X → Refused X → Type 0
RefusedAt {X} P C budget ts f = (front : List X) × (ts ≡ front ++ f.1) × (C → BegunAt P budget front f)

abbrev pub IsRefused : {X A : Type 0} → Reader X A → Relation X A → Type 0 → Type 0
IsRefused {X} r P C = (budget : ℕ) (ts : List X) (f : Refused X) → r budget ts ≡ Err f → RefusedAt P C budget ts f

continues_more : {X : Type 0} (kind : Refusal) (rest more others : List X) → Continues kind rest more → Continues kind rest (more ++ others)
continues_more Syntax rest more others c = tt
continues_more Limit rest more others (t, us, vs, same, begins) = (t, us, vs ++ others, same, ap (λ a. a ++ others) begins)

same_refusal : {X A : Type 0} (P : Relation X A) (C : Type 0) (budget : ℕ) (ts : List X) (f g : Refused X) → f ≡ g → RefusedAt P C budget ts f → RefusedAt P C budget ts g
same_refusal P C budget ts f g same h = subst (RefusedAt P C budget ts) same h

refused_turns : {X A B : Type 0} (r : Reader X A) (s : A → Reader X B) (P : Relation X A) (Q : A → Relation X B) (C D E : Type 0) → IsSound r P
    → IsRefused r P D → ((x : A) → IsRefused (s x) (Q x) E) → (C → D) → (C → E) → (C → (x : A) → HasSample (Q x)) → IsRefused (read_in_turn r s) (InTurn P Q) C
refused_turns r s P Q C D E sound h k d e samples budget ts f refused = elim (in_turn_err r s budget ts f refused) [
  | inl refused_r ↦ let (front, joined, begun) = h budget ts f refused_r in (
    front,
    joined,
    λ c.
        let (more, x, between, continues, p) = begun (d c) in
        let (b, y, left, q) = samples c x between in
        let size : length (front ++ more) ≡ length front + length more = length-append front more in
        let none : 0 ≡ length front - length (front ++ more) = omega arith in (
          more ++ b,
          (x, y),
          left,
          continues_more f.0 f.1 more b continues,
          record { front = front ++ more; back = b; between = between; joined = sym (append_assoc front more b); first = p; second = subst (λ n. Q x n between b y left) none q },
        ),
  )
  | inr (x, reads, refused_s) ↦
      let (a, joined_a, p) = sound budget ts x reads in
      let (b, joined_b, begun) = k x.0 x.1 x.2 f refused_s in (
        a ++ b,
        joined_a ∙ ap (λ us. a ++ us) joined_b ∙ sym (append_assoc a b f.1),
        λ c.
            let (more, y, left, continues, q) = begun (e c) in
            let size : length (a ++ b) ≡ length a + length b = length-append a b in
            let kept : length b ≡ length (a ++ b) - length a = omega arith in (
              more,
              (x.0, y),
              left,
              continues,
              record { front = a; back = b ++ more; between = x.1; joined = append_assoc a b more; first = p (length (a ++ b)); second = subst (λ n. Q x.0 n x.1 (b ++ more) y left) kept q },
            ),
      )
]

refused_chosen : {X A : Type 0} (b : Bool) (r s : Reader X A) (P Q : Relation X A) (C : Type 0) → IsRefused r P C → IsRefused s Q C
    → IsRefused (λ left rest. choose b (λ _. r left rest) (λ _. s left rest)) (Chosen b P Q) C
refused_chosen true r s P Q C h k budget ts f e = h budget ts f e
refused_chosen false r s P Q C h k budget ts f e = k budget ts f e

-- a stronger premise
refused_less : {X A : Type 0} (r : Reader X A) (P : Relation X A) (C D : Type 0) → (D → C) → IsRefused r P C → IsRefused r P D
refused_less r P C D less h budget ts f e = let (front, joined, begun) = h budget ts f e in (front, joined, λ d. begun (less d))

refused_members : (W : Words) {A : Type 0} (lead : Option W.Class) (firsts : List W.Class) (r : Reader W.Token A) (P : Relation W.Token A) (C : Type 0)
    → IsSound r P → IsRefused r P C → (C → HasSample P) → (C → (t : W.Token) → is_among W firsts t ≡ true → StartsWith P t)
    → (n : ℕ) (room : Option ℕ) → IsRefused (read_members W lead firsts r n room) (MembersOf W lead P room) C
refused_members W lead firsts r P C sound h sample starts zero room budget ts f e = absurd cc
refused_members W {A} lead firsts r P C sound h sample starts (suc n) room budget ts f e =
    let (comes, which) = more_err W lead firsts r (has_room room) (λ left rest. read_members W lead firsts r n (less_one room) left rest) budget ts f e in
    let (l, joined_l, leads) = lead_of W lead firsts ts comes in
    let no_more : length l - length l ≡ 0 = omega arith in
    elim which [
      | inl refused ↦ elim (member_err (has_room room) (begins W firsts) r budget (behind lead ts) f refused) [
        | inl (has, refused_r) ↦
            let (a, joined_a, begun) = h budget (behind lead ts) f refused_r in (
              l ++ a,
              joined_l ∙ ap (λ us. l ++ us) joined_a ∙ sym (append_assoc l a f.1),
              λ c.
                  let (more, x, left, continues, p) = begun c in
                  let size : length (l ++ a) ≡ length l + length a = length-append l a in
                  let kept : length a ≡ length (l ++ a) - length l = omega arith in (
                    more,
                    x ∷ [],
                    left,
                    continues,
                    record {
                      lead = l;
                      front = a ++ more;
                      back = [];
                      between = left;
                      joined = append_assoc l a more ∙ ap (λ b. l ++ b) (sym (append-nil (a ++ more)));
                      leads = leads;
                      in_limit = λ _. has;
                      member = subst (λ k. P k budget (a ++ more) x left) kept p;
                      rest = (refl, refl);
                    },
                  ),
            )
        | inr (inl (begun, same)) ↦ same_refusal (MembersOf W lead P room) C budget ts (Limit, behind lead ts) f (sym same) (l, joined_l, λ c. beyond (behind lead ts) l leads begun c)
        | inr (inr same) ↦ same_refusal (MembersOf W lead P room) C budget ts (Syntax, behind lead ts) f (sym same) (
          l,
          joined_l,
          λ c.
              let (more, x, left, p) = sample c budget in (more, x ∷ [], left, tt, free l more leads p),
        )
      ]
      | inr (x, has, reads, refused) ↦
          let (a, joined_a, p) = sound budget (behind lead ts) x reads in
          let (b, joined_b, begun) = refused_members W lead firsts r P C sound h sample starts n (less_one room) x.1 x.2 f refused in (
            l ++ (a ++ b),
            joined_l ∙ ap (λ us. l ++ us) (joined_a ∙ ap (λ us. a ++ us) joined_b ∙ sym (append_assoc a b f.1)) ∙ sym (append_assoc l (a ++ b) f.1),
            λ c.
                let (more, xs, left, continues, q) = begun c in
                let size : length (l ++ (a ++ b)) ≡ length l + length (a ++ b) = length-append l (a ++ b) in
                let inner_size : length (a ++ b) ≡ length a + length b = length-append a b in
                let kept : length b ≡ length (l ++ (a ++ b)) - length l - length a = omega arith in (
                  more,
                  x.0 ∷ xs,
                  left,
                  continues,
                  record {
                    lead = l;
                    front = a;
                    back = b ++ more;
                    between = x.1;
                    joined = append_assoc l (a ++ b) more ∙ ap (λ us. l ++ us) (append_assoc a b more);
                    leads = leads;
                    in_limit = λ _. has;
                    member = p (length (l ++ (a ++ b)) - length l);
                    rest = subst (λ k. MembersOf W lead P (less_one room) k x.1 (b ++ more) xs left) kept q;
                  },
                ),
          )
    ]
  where
    -- behind the tokens that keep the bounds any member goes
    free : {x : A} {left : ℕ} (l more : List W.Token) → IsLead W.is_of lead l → P 0 budget more x left → MembersOf W lead P room (length l) budget (l ++ more)
        (x ∷ []) left
    free {x} {left} l more leads p =
        let none : 0 ≡ length l - length l = omega arith in
        record {
          lead = l;
          front = more;
          back = [];
          between = left;
          joined = ap (λ b. l ++ b) (sym (append-nil more));
          leads = leads;
          in_limit = λ kept. absurd (omega arith);
          member = subst (λ k. P k budget more x left) none p;
          rest = (refl, refl);
        }

    beyond : (us l : List W.Token) → IsLead W.is_of lead l → begins W firsts us ≡ true → C → BegunAt (MembersOf W lead P room) budget l (Limit, us)
    beyond [] l leads begun c = absurd cc
    beyond (t ∷ us) l leads begun c =
        let (more, x, left, p) = starts c t begun budget in
        (t ∷ more, x ∷ [], left, (t, us, more, refl, refl), free l (t ∷ more) leads p)

-- the same of what stands behind a token that opens a level
abbrev pub DeeperRefused : (W : Words) → (W.Sort → Bool) → Type 0 → ((sort : W.Sort) → W.Token → Reader W.Token (W.Tree sort))
    → ((sort : W.Sort) → Relation W.Token (W.Tree sort)) → Type 0
DeeperRefused W sort_has G deeper Inner = (sort : W.Sort) (t : W.Token) (budget : ℕ) (ts : List W.Token) (f : Refused W.Token) → deeper sort t budget ts ≡ Err f
    → (front : List W.Token) × (t ∷ ts ≡ front ++ f.1) × (sort_has sort ≡ true → G → (more inner : List W.Token) × (x : W.Tree sort) × (left : ℕ) × Continues f.0 f.1 more × (front ++ more ≡ t ∷ inner) × Inner sort (length front) budget inner x left)

pub refused_in : {W : Words} (K : Classes W) (sort_has : W.Sort → Bool) (G : Type 0) (deeper : (sort : W.Sort) → W.Token → Reader W.Token (W.Tree sort))
    (Inner : (sort : W.Sort) → Relation W.Token (W.Tree sort))
    → ((sort : W.Sort) (t : W.Token) → IsSound (deeper sort t) (Inner sort)) → (G → (sort : W.Sort) → sort_has sort ≡ true → HasSample (Inner sort))
    → DeeperRefused W sort_has G deeper Inner
    → {A : Type 0} (g : Grammar W A) → IsRefused (read_in deeper g) (PhraseIn Inner g) ((completes sort_has g ≡ true) × G)
refused_in {W} K sort_has G deeper Inner sound s inner (one cost c f) budget ts r e =
    elim (token_err (W.is_of c) cost (λ t left rest. Ok (f t, left, rest)) budget ts r e) [
      | inl (inl same) ↦ same_refusal (IsToken (W.is_of c) cost f) ((true ≡ true) × G) budget ts (Syntax, ts) r (sym same) (
        [],
        refl,
        λ _.
            (K.a_token c ∷ [], f (K.a_token c), budget - cost, tt, record { token = K.a_token c; alone = refl; fits = K.token_is c; affordable = λ kept. absurd (omega arith); value_is = refl; left_is = refl }),
      )
      | inl (inr (t, us, joined, fits, same)) ↦ same_refusal (IsToken (W.is_of c) cost f) ((true ≡ true) × G) budget ts (Limit, ts) r (sym same) (
        [],
        refl,
        λ _.
            (t ∷ [], f t, budget - cost, (t, us, [], joined, refl), record { token = t; alone = refl; fits = fits; affordable = λ kept. absurd (omega arith); value_is = refl; left_is = refl }),
      )
      | inr (t, us, joined, fits, room, found) ↦ absurd cc
    ]
refused_in {W} K sort_has G deeper Inner sound s inner (nothing v) budget ts r e = absurd cc
refused_in {W} K sort_has G deeper Inner sound s inner (both g h) budget ts r e =
    refused_turns (read_in deeper g) (λ _. read_in deeper h) (PhraseIn Inner g) (λ _. PhraseIn Inner h) ((completes sort_has (both g h) ≡ true) × G)
    ((completes sort_has g ≡ true) × G) ((completes sort_has h ≡ true) × G)
    (sound_in deeper Inner sound g) (refused_in K sort_has G deeper Inner sound s inner g) (λ _. refused_in K sort_has G deeper Inner sound s inner h)
    (λ c. ((both_hold _ _ (both_hold _ _ c.0).0).0, c.1)) (λ c. ((both_hold _ _ (both_hold _ _ c.0).0).1, c.1))
    (λ c _. has_sample K sort_has Inner (s c.1) h (both_hold _ _ c.0).1) budget ts r e
refused_in {W} K sort_has G deeper Inner sound s inner (fork g test h i) budget ts r e =
    refused_turns (read_in deeper g) (λ y left rest. choose (test y) (λ _. read_in deeper h left rest) (λ _. read_in deeper i left rest)) (PhraseIn Inner g)
    (λ y. Chosen (test y) (PhraseIn Inner h) (PhraseIn Inner i))
    ((completes sort_has (fork g test h i) ≡ true) × G) ((completes sort_has g ≡ true) × G) (((completes sort_has h && completes sort_has i) ≡ true) × G)
    (sound_in deeper Inner sound g) (refused_in K sort_has G deeper Inner sound s inner g)
    (λ y. refused_chosen (test y) (read_in deeper h) (read_in deeper i) (PhraseIn Inner h) (PhraseIn Inner i) (((completes sort_has h && completes sort_has i) ≡ true) × G)
    (refused_less (read_in deeper h) (PhraseIn Inner h) _ _ (λ c. ((both_hold _ _ c.0).0, c.1)) (refused_in K sort_has G deeper Inner sound s inner h))
    (refused_less (read_in deeper i) (PhraseIn Inner i) _ _ (λ c. ((both_hold _ _ c.0).1, c.1)) (refused_in K sort_has G deeper Inner sound s inner i)))
    (λ c. ((both_hold _ _ (both_hold _ _ c.0).0).0, c.1)) (λ c. ((both_hold _ _ (both_hold _ _ c.0).0).1, c.1))
    (λ c y. sample_chosen (test y) (PhraseIn Inner h) (PhraseIn Inner i) (has_sample K sort_has Inner (s c.1) h (both_hold _ _ (both_hold _ _ c.0).1).0) (has_sample K sort_has Inner (s c.1) i (both_hold _ _ (both_hold _ _ c.0).1).1))
    budget ts r e
refused_in {W} K sort_has G deeper Inner sound s inner (either g h) budget ts r e = elim (chosen_one (begins W (first_of g) ts) _ _ _ e) [
  | inl p ↦ let (front, joined, begun) = refused_in K sort_has G deeper Inner sound s inner g budget ts r p.1 in
      (front, joined, λ c. let (more, x, left, continues, q) = begun ((both_hold _ _ c.0).0, c.1) in (more, x, left, continues, inl q))
  | inr p ↦ let (front, joined, begun) = refused_in K sort_has G deeper Inner sound s inner h budget ts r p.1 in
      (front, joined, λ c. let (more, x, left, continues, q) = begun ((both_hold _ _ c.0).1, c.1) in (more, x, left, continues, inr q))
]
refused_in {W} K sort_has G deeper Inner sound s inner (many limit lead g) budget ts r e =
    refused_members W lead (first_of g) (read_in deeper g) (PhraseIn Inner g) ((completes sort_has (many limit lead g) ≡ true) × G) (sound_in deeper Inner sound g)
    (refused_less (read_in deeper g) (PhraseIn Inner g) _ _ (λ c. ((both_hold _ _ c.0).0, c.1)) (refused_in K sort_has G deeper Inner sound s inner g))
    (λ c. has_sample K sort_has Inner (s c.1) g (both_hold _ _ c.0).1) (λ c t. starts_with K sort_has Inner (s c.1) g (both_hold _ _ c.0).0 t)
    (length ts) limit budget ts r e
refused_in {W} K sort_has G deeper Inner sound s inner (as_ f g) budget ts r e =
    let (front, joined, begun) = refused_in K sort_has G deeper Inner sound s inner g budget ts r (mapped_err f (read_in deeper g budget ts) r e) in
    (front, joined, λ c. let (more, x, left, continues, q) = begun c in (more, f x, left, continues, (x, q, refl)))
refused_in {W} K sort_has G deeper Inner sound s inner (down cost c sort) budget ts r e = elim (token_err (W.is_of c) cost (deeper sort) budget ts r e) [
  | inl (inl same) ↦ same_refusal (Opened (W.is_of c) cost (Inner sort)) ((sort_has sort ≡ true) × G) budget ts (Syntax, ts) r (sym same) (
    [],
    refl,
    λ h.
        let (us, x, left, p) = s h.1 sort h.0 (budget - cost) in
        (K.a_token c ∷ us, x, left, tt, record { token = K.a_token c; inner = us; joined = refl; fits = K.token_is c; affordable = λ kept. absurd (omega arith); part = p }),
  )
  | inl (inr (t, vs, joined, fits, same)) ↦ same_refusal (Opened (W.is_of c) cost (Inner sort)) ((sort_has sort ≡ true) × G) budget ts (Limit, ts) r (sym same) (
    [],
    refl,
    λ h.
        let (us, x, left, p) = s h.1 sort h.0 (budget - cost) in
        (t ∷ us, x, left, (t, vs, us, joined, refl), record { token = t; inner = us; joined = refl; fits = fits; affordable = λ kept. absurd (omega arith); part = p }),
  )
  | inr (t, us, joined, fits, room, refused) ↦
      let (front, behind_t, begun) = inner sort t (budget - cost) us r refused in (
        front,
        joined ∙ behind_t,
        λ h.
            let (more, vs, x, left, continues, same, p) = begun h.0 h.1 in
            (more, x, left, continues, record { token = t; inner = vs; joined = same; fits = fits; affordable = λ _. room; part = p }),
      )
]
refused_in {W} K sort_has G deeper Inner sound s inner (afresh own g) budget ts r e =
    let (front, joined, begun) = refused_in K sort_has G deeper Inner sound s inner g own ts r (with_budget_err budget (read_in deeper g own ts) r e) in
    (front, joined, λ c. let (more, x, left, continues, q) = begun c in (more, x, budget, continues, (left, q, refl)))

-- the phrases that a sort has and that go no level deeper stand at any level, and past the last
pub sample_deeper : {W : Words} (K : Classes W) (rules : Rules W) (levels : ℕ) (sort : W.Sort) → has_flat rules sort ≡ true → HasSample (Deeper rules 1 levels sort)
sample_deeper K rules zero sort has budget =
    let (ts, x, left, p) = has_sample K (λ _. false) (Past rules 0) (λ _ e. absurd cc) (rules sort) has budget in (ts, x, left, (refl, p))
sample_deeper K rules (suc levels) sort has budget = has_sample K (λ _. false) (Deeper rules 1 levels) (λ _ e. absurd cc) (rules sort) has budget

pub refused_deeper : {W : Words} (K : Classes W) (rules : Rules W) (levels : ℕ)
    → DeeperRefused W (has_flat rules) ((sort : W.Sort) → completes (has_flat rules) (rules sort) ≡ true) (read_deeper rules levels) (Deeper rules 1 levels)
refused_deeper {W} K rules zero sort t budget ts f e =
    let same : (Limit, t ∷ ts) ≡ f = cc in
    subst
    (λ r. (front : List W.Token) × (t ∷ ts ≡ front ++ r.1) × (has_flat rules sort ≡ true → ((sort : W.Sort) → completes (has_flat rules) (rules sort) ≡ true) → (more inner : List W.Token) × (x : W.Tree sort) × (left : ℕ) × Continues r.0 r.1 more × (front ++ more ≡ t ∷ inner) × Deeper rules 1 zero sort (length front) budget inner x left))
    same
    ([], refl, λ has c. let (us, x, left, p) = sample_deeper K rules zero sort has budget in (t ∷ us, us, x, left, (t, ts, us, refl, refl), refl, p))
refused_deeper K rules (suc levels) sort t budget ts f e =
    let (front, joined, begun) = refused_in K (has_flat rules) _ (read_deeper rules levels) (Deeper rules 1 levels) (sound_deeper rules 1 levels) (λ _. sample_deeper K rules levels) (refused_deeper K rules levels) (rules sort) budget ts f e in (
      t ∷ front,
      ap (λ us. t ∷ us) joined,
      λ has c.
          let (more, x, left, continues, p) = begun (c sort, c) in
          let one_less : length front ≡ suc (length front) - 1 = omega arith in
          (more, front ++ more, x, left, continues, refl, subst (λ k. PhraseIn (Deeper rules 1 levels) (rules sort) k budget (front ++ more) x left) one_less p),
    )
