-- The phrase of no tokens, and what phrases begin with.
use Rattle.std.proofs.Common.{◌≡◌, inl, inr, refl, sym, ◌∙◌, ap, subst, ℕ, ◌-◌, Bool, true, false, cond, List, [], ◌∷◌, ◌++◌, Option, Some, None, option_map, is_none, length}
use Rattle.grammar_laws.specs.Grammars.{Words, Grammar, one, nothing, both, fork, either, many, as_, down, afresh}
use Rattle.grammar_laws.specs.Phrases.{Relation, InTurn, Chosen, Members, PhraseIn}
use Rattle.grammar_laws.specs.Prediction.{Classes, is_among, openers, empty_in_turn, where_some, empty_of, first_of, decides}
use Rattle.grammar_laws.proofs.ClassLemmas.{both_hold, the_none, among_front, among_back, one_among}
use Rattle.grammar_laws.proofs.ListLemmas.{no_parts, first_part, map_some}
use Rattle.grammar_laws.proofs.Sound.{MembersOf}

-- no tokens with this value, at no cost
abbrev pub HasEmpty : {X A : Type 0} → Relation X A → A → Type 0
HasEmpty P x = (kept budget : ℕ) → P kept budget [] x budget

empty_turns : {X A B : Type 0} (P : Relation X A) (Q : A → Relation X B) (o : Option A) (f : A → Option B) → ((x : A) → o ≡ Some x → HasEmpty P x)
    → ((x : A) (y : B) → f x ≡ Some y → HasEmpty (Q x) y) → (z : A × B) → empty_in_turn o f ≡ Some z → HasEmpty (InTurn P Q) z
empty_turns P Q None f h k z e kept budget = absurd cc
empty_turns P Q (Some x) f h k z e kept budget =
    let (y, is_y, same) = map_some (λ y. (x, y)) (f x) z e in
    subst (λ w. InTurn P Q kept budget [] w budget) same (record { front = []; back = []; between = budget; joined = refl; first = h x refl kept budget; second = k x y is_y (kept - 0) budget })

empty_chosen : {X A : Type 0} (b : Bool) (P Q : Relation X A) (o p : Option A) → ((x : A) → o ≡ Some x → HasEmpty P x) → ((x : A) → p ≡ Some x → HasEmpty Q x)
    → (x : A) → cond b o p ≡ Some x → HasEmpty (Chosen b P Q) x
empty_chosen true P Q o p h k x e kept budget = h x e kept budget
empty_chosen false P Q o p h k x e kept budget = k x e kept budget

-- the value of no tokens is one
pub empty_is : {W : Words} (Inner : (sort : W.Sort) → Relation W.Token (W.Tree sort)) {A : Type 0} (g : Grammar W A) (x : A) → empty_of g ≡ Some x
    → HasEmpty (PhraseIn Inner g) x
empty_is Inner (one cost c f) x e kept budget = absurd cc
empty_is Inner (nothing v) x e kept budget = (refl, cc, refl)
empty_is Inner (both g h) x e kept budget =
    empty_turns (PhraseIn Inner g) (λ _. PhraseIn Inner h) (empty_of g) (λ _. empty_of h) (empty_is Inner g) (λ _. empty_is Inner h) x e kept budget
empty_is Inner (fork g test h i) x e kept budget =
    empty_turns (PhraseIn Inner g) (λ y. Chosen (test y) (PhraseIn Inner h) (PhraseIn Inner i)) (empty_of g) (λ y. cond (test y) (empty_of h) (empty_of i))
    (empty_is Inner g)
    (λ y. empty_chosen (test y) (PhraseIn Inner h) (PhraseIn Inner i) (empty_of h) (empty_of i) (empty_is Inner h) (empty_is Inner i)) x e kept budget
empty_is Inner (either g h) x e kept budget = inr (empty_is Inner h x e kept budget)
empty_is {W} Inner (many {A = B} limit lead g) x e kept budget =
    let same : [] ≡ x = cc in subst (λ (xs : List B). Members W.is_of lead (PhraseIn Inner g) limit xs kept budget [] budget) same (refl, refl)
empty_is Inner (as_ f g) x e kept budget = let (y, is_y, same) = map_some f (empty_of g) x e in (y, empty_is Inner g y is_y kept budget, sym same)
empty_is Inner (down cost c sort) x e kept budget = absurd cc
empty_is Inner (afresh own g) x e kept budget = (own, empty_is Inner g x e kept own, refl)

-- no tokens have this value at most
abbrev pub EmptyOnly : {X A : Type 0} → Relation X A → Option A → Type 0
EmptyOnly {X} {A} P o = (kept budget : ℕ) (x : A) (left : ℕ) → P kept budget [] x left → o ≡ Some x

-- no tokens are no phrase
abbrev pub NeverEmpty : {X A : Type 0} → Relation X A → Type 0
NeverEmpty {X} {A} P = (kept budget : ℕ) (x : A) (left : ℕ) → P kept budget [] x left → ⊥

pub never_empty : {X A : Type 0} (P : Relation X A) (o : Option A) → EmptyOnly P o → is_none o ≡ true → NeverEmpty P
never_empty P o h e kept budget x left p = let none : o ≡ None = the_none o e in let some : o ≡ Some x = h kept budget x left p in cc

empty_only_turns : {X A B : Type 0} (P : Relation X A) (Q : A → Relation X B) (o : Option A) (f : A → Option B) → EmptyOnly P o
    → ((x : A) → EmptyOnly (Q x) (f x)) → EmptyOnly (InTurn P Q) (empty_in_turn o f)
empty_only_turns P Q o f h k kept budget z left turn =
    let (no_front, no_back) = no_parts turn.front turn.back turn.joined in
    let some : o ≡ Some z.0 = h kept budget z.0 turn.between (subst (λ a. P kept budget a z.0 turn.between) no_front turn.first) in
    let then : f z.0 ≡ Some z.1 = k z.0 (kept - length turn.front) turn.between z.1 left (subst (λ b. Q z.0 (kept - length turn.front) turn.between b z.1 left) no_back turn.second) in
    ap (λ p. empty_in_turn p f) some ∙ ap (option_map (λ y. (z.0, y))) then

empty_only_chosen : {X A : Type 0} (b : Bool) (P Q : Relation X A) (o p : Option A) → EmptyOnly P o → EmptyOnly Q p → EmptyOnly (Chosen b P Q) (cond b o p)
empty_only_chosen true P Q o p h k kept budget x left q = h kept budget x left q
empty_only_chosen false P Q o p h k kept budget x left q = k kept budget x left q

-- behind its lead a member has tokens
pub member_front : {X A : Type 0} (P : Relation X A) → NeverEmpty P → (kept budget : ℕ) (ts : List X) (x : A) (left : ℕ) → P kept budget ts x left
    → (t : X) × (us : List X) × (ts ≡ t ∷ us)
member_front P never kept budget [] x left p = absurd (never kept budget x left p)
member_front P never kept budget (t ∷ us) x left p = (t, us, refl)

pub empty_members : (W : Words) {A : Type 0} (lead : Option W.Class) (P : Relation W.Token A) (room : Option ℕ) → NeverEmpty P
    → EmptyOnly (MembersOf W lead P room) (Some [])
empty_members W lead P room never kept budget [] left p = refl
empty_members W lead P room never kept budget (x ∷ xs) left p =
    let (no_lead, none) = no_parts p.lead (p.front ++ p.back) p.joined in
    let (no_front, no_back) = no_parts p.front p.back (sym none) in
    absurd (never _ budget x p.between (subst (λ a. P (kept - length p.lead) budget a x p.between) no_front p.member))

-- where one token decides, the value of no tokens is the only one
pub empty_only : {W : Words} (K : Classes W) (ends : W.Sort → List W.Class) (Inner : (sort : W.Sort) → Relation W.Token (W.Tree sort)) {A : Type 0} (g : Grammar W A)
    → decides K ends g ≡ true → EmptyOnly (PhraseIn Inner g) (empty_of g)
empty_only K ends Inner (one cost c f) d kept budget x left p = absurd (let a = p.alone in cc)
empty_only K ends Inner (nothing v) d kept budget x left p = ap Some (sym p.1)
empty_only K ends Inner (both g h) d kept budget x left p =
    let (parts, apart) = both_hold _ _ d in let (dg, dh) = both_hold _ _ parts in
    empty_only_turns (PhraseIn Inner g) (λ _. PhraseIn Inner h) (empty_of g) (λ _. empty_of h) (empty_only K ends Inner g dg)
    (λ _. empty_only K ends Inner h dh) kept budget x left p
empty_only K ends Inner (fork g test h i) d kept budget x left p =
    let (parts, apart) = both_hold _ _ d in let (dg, rest) = both_hold _ _ parts in let (dh, di) = both_hold _ _ rest in
    empty_only_turns (PhraseIn Inner g) (λ y. Chosen (test y) (PhraseIn Inner h) (PhraseIn Inner i)) (empty_of g) (λ y. cond (test y) (empty_of h) (empty_of i))
    (empty_only K ends Inner g dg)
    (λ y. empty_only_chosen (test y) (PhraseIn Inner h) (PhraseIn Inner i) (empty_of h) (empty_of i) (empty_only K ends Inner h dh) (empty_only K ends Inner i di))
    kept budget x left p
empty_only K ends Inner (either g h) d kept budget x left p =
    let (parts, rest) = both_hold _ _ d in let (dg, dh) = both_hold _ _ parts in let (none, apart) = both_hold _ _ rest in
    elim p [ inl q ↦ absurd (never_empty (PhraseIn Inner g) (empty_of g) (empty_only K ends Inner g dg) none kept budget x left q) | inr q ↦ empty_only K ends Inner h dh kept budget x left q ]
empty_only {W} K ends Inner (many limit lead g) d kept budget x left p =
    let (dg, rest) = both_hold _ _ d in let (none, apart) = both_hold _ _ rest in
    empty_members W lead (PhraseIn Inner g) limit (never_empty (PhraseIn Inner g) (empty_of g) (empty_only K ends Inner g dg) none) kept budget x left p
empty_only K ends Inner (as_ f g) d kept budget x left (y, p, same) = ap (option_map f) (empty_only K ends Inner g d kept budget y left p) ∙ ap Some (sym same)
empty_only K ends Inner (down cost c sort) d kept budget x left p = absurd (let a = p.joined in cc)
empty_only K ends Inner (afresh own g) d kept budget x left (rest, p, same) = empty_only K ends Inner g d kept own x rest p

-- phrases begin with these classes
abbrev pub BeginsIn : (W : Words) {A : Type 0} → Relation W.Token A → List W.Class → Type 0
BeginsIn W {A} P cs = (kept budget : ℕ) (t : W.Token) (ts : List W.Token) (x : A) (left : ℕ) → P kept budget (t ∷ ts) x left → is_among W cs t ≡ true

among_some : (W : Words) {A : Type 0} (o : Option A) (x : A) (f : A → List W.Class) (t : W.Token) → o ≡ Some x → is_among W (f x) t ≡ true
    → is_among W (where_some o f) t ≡ true
among_some W o x f t e h = ap (λ p. is_among W (where_some p f) t) e ∙ h

first_turns : (W : Words) {A B : Type 0} (P : Relation W.Token A) (Q : A → Relation W.Token B) (o : Option A) (cs : List W.Class) (f : A → List W.Class)
    → EmptyOnly P o → BeginsIn W P cs → ((x : A) → BeginsIn W (Q x) (f x)) → BeginsIn W (InTurn P Q) (cs ++ where_some o f)
first_turns W P Q o cs f only h k kept budget t ts z left turn = elim (first_part t ts turn.front turn.back turn.joined) [
  | inl (us, same) ↦ among_front W cs (where_some o f) t (h kept budget t us z.0 turn.between (subst (λ a. P kept budget a z.0 turn.between) same turn.first))
  | inr (no_front, same) ↦ among_back W cs (where_some o f) t (among_some W o z.0 f t
      (only kept budget z.0 turn.between (subst (λ a. P kept budget a z.0 turn.between) no_front turn.first))
      (k z.0 (kept - length turn.front) turn.between t ts z.1 left (subst (λ b. Q z.0 (kept - length turn.front) turn.between b z.1 left) same turn.second)))
]

first_chosen : (W : Words) {A : Type 0} (b : Bool) (P Q : Relation W.Token A) (cs ds : List W.Class) → BeginsIn W P cs → BeginsIn W Q ds
    → BeginsIn W (Chosen b P Q) (cond b cs ds)
first_chosen W true P Q cs ds h k kept budget t ts x left p = h kept budget t ts x left p
first_chosen W false P Q cs ds h k kept budget t ts x left p = k kept budget t ts x left p

-- a list that has members begins with its openers
pub first_member : (W : Words) {A : Type 0} (lead : Option W.Class) (P : Relation W.Token A) (cs : List W.Class) (room : Option ℕ) → NeverEmpty P
    → BeginsIn W P cs → (kept budget : ℕ) (t : W.Token) (ts : List W.Token) (x : A) (xs : List A) (left : ℕ)
    → MembersOf W lead P room kept budget (t ∷ ts) (x ∷ xs) left → is_among W (openers lead cs) t ≡ true
first_member W None P cs room never h kept budget t ts x xs left p =
    let (u, us, is_front) = member_front P never (kept - length p.lead) budget p.front x p.between p.member in
    let leads = p.leads in
    let joined = p.joined in
    let same : t ∷ ts ≡ u ∷ (us ++ p.back) = joined ∙ ap (λ a. a ++ (p.front ++ p.back)) leads ∙ ap (λ a. a ++ p.back) is_front in
    let head : u ≡ t = cc in
    subst (λ v. is_among W cs v ≡ true) head
    (h (kept - length p.lead) budget u us x p.between (subst (λ a. P (kept - length p.lead) budget a x p.between) is_front p.member))
first_member W (Some c) P cs room never h kept budget t ts x xs left p =
    let (u, is_lead, fits) = p.leads in
    let same : t ∷ ts ≡ u ∷ (p.front ++ p.back) = p.joined ∙ ap (λ a. a ++ (p.front ++ p.back)) is_lead in
    let head : u ≡ t = cc in
    one_among W c t (subst (λ v. W.is_of c v ≡ true) head fits)

pub first_members : (W : Words) {A : Type 0} (lead : Option W.Class) (P : Relation W.Token A) (cs : List W.Class) (room : Option ℕ) → NeverEmpty P
    → BeginsIn W P cs → BeginsIn W (MembersOf W lead P room) (openers lead cs)
first_members W lead P cs room never h kept budget t ts [] left p = absurd (let a = p.0 in cc)
first_members W lead P cs room never h kept budget t ts (x ∷ xs) left p = first_member W lead P cs room never h kept budget t ts x xs left p

-- where one token decides, phrases begin with their first classes
pub first_is : {W : Words} (K : Classes W) (ends : W.Sort → List W.Class) (Inner : (sort : W.Sort) → Relation W.Token (W.Tree sort)) {A : Type 0} (g : Grammar W A)
    → decides K ends g ≡ true → BeginsIn W (PhraseIn Inner g) (first_of g)
first_is {W} K ends Inner (one cost c f) d kept budget t ts x left p =
    let a = p.alone in let head : p.token ≡ t = cc in one_among W c t (subst (λ v. W.is_of c v ≡ true) head p.fits)
first_is K ends Inner (nothing v) d kept budget t ts x left p = absurd (let a = p.0 in cc)
first_is {W} K ends Inner (both g h) d kept budget t ts x left p =
    let (parts, apart) = both_hold _ _ d in let (dg, dh) = both_hold _ _ parts in
    first_turns W (PhraseIn Inner g) (λ _. PhraseIn Inner h) (empty_of g) (first_of g) (λ _. first_of h) (empty_only K ends Inner g dg)
    (first_is K ends Inner g dg) (λ _. first_is K ends Inner h dh) kept budget t ts x left p
first_is {W} K ends Inner (fork g test h i) d kept budget t ts x left p =
    let (parts, apart) = both_hold _ _ d in let (dg, rest) = both_hold _ _ parts in let (dh, di) = both_hold _ _ rest in
    first_turns W (PhraseIn Inner g) (λ y. Chosen (test y) (PhraseIn Inner h) (PhraseIn Inner i)) (empty_of g) (first_of g)
    (λ y. cond (test y) (first_of h) (first_of i)) (empty_only K ends Inner g dg) (first_is K ends Inner g dg)
    (λ y. first_chosen W (test y) (PhraseIn Inner h) (PhraseIn Inner i) (first_of h) (first_of i) (first_is K ends Inner h dh) (first_is K ends Inner i di))
    kept budget t ts x left p
first_is {W} K ends Inner (either g h) d kept budget t ts x left p =
    let (parts, rest) = both_hold _ _ d in let (dg, dh) = both_hold _ _ parts in
    elim p [ inl q ↦ among_front W (first_of g) (first_of h) t (first_is K ends Inner g dg kept budget t ts x left q) | inr q ↦ among_back W (first_of g) (first_of h) t (first_is K ends Inner h dh kept budget t ts x left q) ]
first_is {W} K ends Inner (many limit lead g) d kept budget t ts x left p =
    let (dg, rest) = both_hold _ _ d in let (none, apart) = both_hold _ _ rest in
    first_members W lead (PhraseIn Inner g) (first_of g) limit (never_empty (PhraseIn Inner g) (empty_of g) (empty_only K ends Inner g dg) none)
    (first_is K ends Inner g dg) kept budget t ts x left p
first_is K ends Inner (as_ f g) d kept budget t ts x left (y, p, same) = first_is K ends Inner g d kept budget t ts y left p
first_is {W} K ends Inner (down cost c sort) d kept budget t ts x left p =
    let a = p.joined in let head : p.token ≡ t = cc in one_among W c t (subst (λ v. W.is_of c v ≡ true) head p.fits)
first_is K ends Inner (afresh own g) d kept budget t ts x left (rest, p, same) = first_is K ends Inner g d kept own t ts x rest p
