-- Phrases of a grammar in which no bound is kept: some phrase, and one that begins with a given token.
use Rattle.std.proofs.Common.{◌≡◌, inl, inr, refl, sym, ap, subst, append-nil, arith, ℕ, ◌-◌, Bool, true, false, cond, List, [], ◌∷◌, ◌++◌, Option, Some, None, length}
use Rattle.grammar_laws.specs.Grammars.{Words, Grammar, one, nothing, both, fork, either, many, as_, down, afresh}
use Rattle.grammar_laws.specs.Phrases.{Relation, InTurn, Chosen, IsLead, PhraseIn}
use Rattle.grammar_laws.specs.Prediction.{Classes, is_among, openers, where_some, empty_of, first_of, has_phrase, completes}
use Rattle.grammar_laws.proofs.ClassLemmas.{both_hold, one_holds, among_either, among_one}
use Rattle.grammar_laws.proofs.Sound.{MembersOf}
use Rattle.grammar_laws.proofs.Firsts.{HasEmpty, empty_is}

-- some tokens are a phrase
abbrev pub HasSample : {X A : Type 0} → Relation X A → Type 0
HasSample {X} {A} P = (budget : ℕ) → (ts : List X) × (x : A) × (left : ℕ) × P 0 budget ts x left

-- some tokens that begin with this one are a phrase
abbrev pub StartsWith : {X A : Type 0} → Relation X A → X → Type 0
StartsWith {X} {A} P t = (budget : ℕ) → (more : List X) × (x : A) × (left : ℕ) × P 0 budget (t ∷ more) x left

nothing_kept : (n : ℕ) → 0 ≡ 0 - n
nothing_kept n = omega arith

pub join_samples : {X A B : Type 0} (P : Relation X A) (Q : A → Relation X B) (budget between left : ℕ) (a b : List X) (x : A) (y : B) → P 0 budget a x between
    → Q x 0 between b y left → InTurn P Q 0 budget (a ++ b) (x, y) left
join_samples P Q budget between left a b x y p q =
    record { front = a; back = b; between = between; joined = refl; first = p; second = subst (λ k. Q x k between b y left) (nothing_kept (length a)) q }

sample_turns : {X A B : Type 0} (P : Relation X A) (Q : A → Relation X B) → HasSample P → ((x : A) → HasSample (Q x)) → HasSample (InTurn P Q)
sample_turns P Q h k budget =
    let (a, x, between, p) = h budget in
    let (b, y, left, q) = k x between in
    (a ++ b, (x, y), left, join_samples P Q budget between left a b x y p q)

pub sample_chosen : {X A : Type 0} (b : Bool) (P Q : Relation X A) → HasSample P → HasSample Q → HasSample (Chosen b P Q)
sample_chosen true P Q h k budget = h budget
sample_chosen false P Q h k budget = k budget

pub has_sample : {W : Words} (K : Classes W) (sort_has : W.Sort → Bool) (Inner : (sort : W.Sort) → Relation W.Token (W.Tree sort))
    → ((sort : W.Sort) → sort_has sort ≡ true → HasSample (Inner sort))
    → {A : Type 0} (g : Grammar W A) → has_phrase sort_has g ≡ true → HasSample (PhraseIn Inner g)
has_sample K sort_has Inner s (one cost c f) h budget =
    (K.a_token c ∷ [], f (K.a_token c), budget - cost, record { token = K.a_token c; alone = refl; fits = K.token_is c; affordable = λ kept. absurd (omega arith); value_is = refl; left_is = refl })
has_sample K sort_has Inner s (nothing v) h budget = ([], v, budget, (refl, refl, refl))
has_sample K sort_has Inner s (both g h) e budget = let (eg, eh) = both_hold _ _ e in
    sample_turns (PhraseIn Inner g) (λ _. PhraseIn Inner h) (has_sample K sort_has Inner s g eg) (λ _. has_sample K sort_has Inner s h eh) budget
has_sample K sort_has Inner s (fork g test h i) e budget = let (eg, rest) = both_hold _ _ e in let (eh, ei) = both_hold _ _ rest in
    sample_turns (PhraseIn Inner g) (λ y. Chosen (test y) (PhraseIn Inner h) (PhraseIn Inner i)) (has_sample K sort_has Inner s g eg)
    (λ y. sample_chosen (test y) (PhraseIn Inner h) (PhraseIn Inner i) (has_sample K sort_has Inner s h eh) (has_sample K sort_has Inner s i ei)) budget
has_sample K sort_has Inner s (either g h) e budget = elim (one_holds _ _ e) [
  | inl eg ↦ let (ts, x, left, p) = has_sample K sort_has Inner s g eg budget in (ts, x, left, inl p)
  | inr eh ↦ let (ts, x, left, p) = has_sample K sort_has Inner s h eh budget in (ts, x, left, inr p)
]
has_sample K sort_has Inner s (many limit lead g) e budget = ([], [], budget, (refl, refl))
has_sample K sort_has Inner s (as_ f g) e budget = let (ts, x, left, p) = has_sample K sort_has Inner s g e budget in (ts, f x, left, (x, p, refl))
has_sample K sort_has Inner s (down cost c sort) e budget = let (ts, x, left, p) = s sort e (budget - cost) in
    (K.a_token c ∷ ts, x, left, record { token = K.a_token c; inner = ts; joined = refl; fits = K.token_is c; affordable = λ kept. absurd (omega arith); part = p })
has_sample K sort_has Inner s (afresh own g) e budget = let (ts, x, left, p) = has_sample K sort_has Inner s g e own in (ts, x, budget, (left, p, refl))

some_among : (W : Words) {A : Type 0} (o : Option A) (f : A → List W.Class) (t : W.Token) → is_among W (where_some o f) t ≡ true
    → (x : A) × (o ≡ Some x) × (is_among W (f x) t ≡ true)
some_among W (Some x) f t h = (x, refl, h)
some_among W None f t h = absurd cc

start_turns : (W : Words) {A B : Type 0} (P : Relation W.Token A) (Q : A → Relation W.Token B) (o : Option A) (cs : List W.Class) (f : A → List W.Class) (t : W.Token)
    → ((x : A) → o ≡ Some x → HasEmpty P x) → (is_among W cs t ≡ true → StartsWith P t)
    → ((x : A) → is_among W (f x) t ≡ true → StartsWith (Q x) t) → ((x : A) → HasSample (Q x)) → is_among W (cs ++ where_some o f) t ≡ true → StartsWith (InTurn P Q) t
start_turns W P Q o cs f t empties h k samples among budget = elim (among_either W cs (where_some o f) t among) [
  | inl e ↦ let (more, x, between, p) = h e budget in let (b, y, left, q) = samples x between in (more ++ b, (x, y), left, join_samples P Q budget between left (t ∷ more) b x y p q)
  | inr e ↦ let (x, is_x, among_x) = some_among W o f t e in let (more, y, left, q) = k x among_x budget in (more, (x, y), left, join_samples P Q budget budget left [] (t ∷ more) x y (empties x is_x 0 budget) q)
]

start_chosen : (W : Words) {A : Type 0} (b : Bool) (P Q : Relation W.Token A) (cs ds : List W.Class) (t : W.Token) → (is_among W cs t ≡ true → StartsWith P t)
    → (is_among W ds t ≡ true → StartsWith Q t) → is_among W (cond b cs ds) t ≡ true → StartsWith (Chosen b P Q) t
start_chosen W true P Q cs ds t h k among budget = h among budget
start_chosen W false P Q cs ds t h k among budget = k among budget

-- one member, which keeps no bound
pub lone_member : (W : Words) {A : Type 0} (lead : Option W.Class) (P : Relation W.Token A) (room : Option ℕ) (budget left : ℕ) (l ts : List W.Token) (x : A)
    → IsLead W.is_of lead l → P 0 budget ts x left → MembersOf W lead P room 0 budget (l ++ ts) (x ∷ []) left
lone_member W lead P room budget left l ts x leads p = record {
  lead = l;
  front = ts;
  back = [];
  between = left;
  joined = ap (λ a. l ++ a) (sym (append-nil ts));
  leads = leads;
  in_limit = λ kept. absurd (omega arith);
  member = subst (λ k. P k budget ts x left) (nothing_kept (length l)) p;
  rest = (refl, refl);
}

start_members : (W : Words) {A : Type 0} (lead : Option W.Class) (P : Relation W.Token A) (room : Option ℕ) (cs : List W.Class) (t : W.Token)
    → (is_among W cs t ≡ true → StartsWith P t) → HasSample P → is_among W (openers lead cs) t ≡ true → StartsWith (MembersOf W lead P room) t
start_members W None P room cs t h s among budget =
    let (more, x, left, p) = h among budget in (more, x ∷ [], left, lone_member W None P room budget left [] (t ∷ more) x refl p)
start_members W (Some c) P room cs t h s among budget =
    let (ts, x, left, p) = s budget in (ts, x ∷ [], left, lone_member W (Some c) P room budget left (t ∷ []) ts x (t, refl, among_one W c t among) p)

-- a token of the first classes begins a phrase
pub starts_with : {W : Words} (K : Classes W) (sort_has : W.Sort → Bool) (Inner : (sort : W.Sort) → Relation W.Token (W.Tree sort))
    → ((sort : W.Sort) → sort_has sort ≡ true → HasSample (Inner sort))
    → {A : Type 0} (g : Grammar W A) → completes sort_has g ≡ true → (t : W.Token) → is_among W (first_of g) t ≡ true → StartsWith (PhraseIn Inner g) t
starts_with {W} K sort_has Inner s (one cost c f) h t among budget =
    ([], f t, budget - cost, record { token = t; alone = refl; fits = among_one W c t among; affordable = λ kept. absurd (omega arith); value_is = refl; left_is = refl })
starts_with K sort_has Inner s (nothing v) h t among budget = absurd cc
starts_with {W} K sort_has Inner s (both g h) e t among budget = let (parts, has) = both_hold _ _ e in let (eg, eh) = both_hold _ _ parts in
    start_turns W (PhraseIn Inner g) (λ _. PhraseIn Inner h) (empty_of g) (first_of g) (λ _. first_of h) t (empty_is Inner g)
    (starts_with K sort_has Inner s g eg t) (λ _. starts_with K sort_has Inner s h eh t) (λ _. has_sample K sort_has Inner s h has) among budget
starts_with {W} K sort_has Inner s (fork g test h i) e t among budget =
    let (parts, has) = both_hold _ _ e in let (eg, rest) = both_hold _ _ parts in let (eh, ei) = both_hold _ _ rest in let (has_h, has_i) = both_hold _ _ has in
    start_turns W (PhraseIn Inner g) (λ y. Chosen (test y) (PhraseIn Inner h) (PhraseIn Inner i)) (empty_of g) (first_of g)
    (λ y. cond (test y) (first_of h) (first_of i)) t (empty_is Inner g) (starts_with K sort_has Inner s g eg t)
    (λ y. start_chosen W (test y) (PhraseIn Inner h) (PhraseIn Inner i) (first_of h) (first_of i) t (starts_with K sort_has Inner s h eh t) (starts_with K sort_has Inner s i ei t))
    (λ y. sample_chosen (test y) (PhraseIn Inner h) (PhraseIn Inner i) (has_sample K sort_has Inner s h has_h) (has_sample K sort_has Inner s i has_i)) among budget
starts_with {W} K sort_has Inner s (either g h) e t among budget = let (eg, eh) = both_hold _ _ e in elim (among_either W (first_of g) (first_of h) t among) [
  | inl a ↦ let (more, x, left, p) = starts_with K sort_has Inner s g eg t a budget in (more, x, left, inl p)
  | inr a ↦ let (more, x, left, p) = starts_with K sort_has Inner s h eh t a budget in (more, x, left, inr p)
]
starts_with {W} K sort_has Inner s (many limit lead g) e t among budget = let (eg, has) = both_hold _ _ e in
    start_members W lead (PhraseIn Inner g) limit (first_of g) t (starts_with K sort_has Inner s g eg t) (has_sample K sort_has Inner s g has) among budget
starts_with K sort_has Inner s (as_ f g) e t among budget = let (more, x, left, p) = starts_with K sort_has Inner s g e t among budget in (more, f x, left, (x, p, refl))
starts_with {W} K sort_has Inner s (down cost c sort) e t among budget = let (ts, x, left, p) = s sort e (budget - cost) in
    (ts, x, left, record { token = t; inner = ts; joined = refl; fits = among_one W c t among; affordable = λ kept. absurd (omega arith); part = p })
starts_with K sort_has Inner s (afresh own g) e t among budget =
    let (more, x, left, p) = starts_with K sort_has Inner s g e t among own in (more, x, budget, (left, p, refl))
