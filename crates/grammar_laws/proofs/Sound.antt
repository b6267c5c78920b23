-- What is read is a phrase, and the rest stands behind it.
use Rattle.std.proofs.Common.{◌≡◌, inl, inr, refl, sym, ◌∙◌, ap, subst, append_assoc, ℕ, zero, suc, ◌-◌, Bool, true, false, List, [], ◌∷◌, ◌++◌, Option, Ok, length}
use Rattle.grammar_laws.specs.Grammars.{Words, Grammar, Rules, one, nothing, both, fork, either, many, as_, down, afresh}
use Rattle.grammar_laws.specs.Phrases.{Relation, IsToken, InTurn, Chosen, has_room, less_one, Members, PhraseIn, Deeper}
use Rattle.grammar_laws.specs.Prediction.{begins, first_of}
use Rattle.grammar_laws.specs.Reading.{Found, Reader, choose, read_token, read_in_turn, read_members, behind, read_in, read_deeper}
use Rattle.grammar_laws.proofs.Steps.{ok_is, mapped_ok, with_budget_ok, chosen_one, token_ok, in_turn_ok, more_ok, lead_of}

-- the tokens before the rest are a phrase with this value, however many tokens keep the bounds
abbrev pub SoundAt : {X A : Type 0} → Relation X A → ℕ → List X → Found X A → Type 0
SoundAt {X} P budget ts y = (front : List X) × (ts ≡ front ++ y.2) × ((kept : ℕ) → P kept budget front y.0 y.1)

abbrev pub IsSound : {X A : Type 0} → Reader X A → Relation X A → Type 0
IsSound {X} {A} r P = (budget : ℕ) (ts : List X) (y : Found X A) → r budget ts ≡ Ok y → SoundAt P budget ts y

-- the same of an equal answer
sound_along : {X A : Type 0} (P : Relation X A) (budget : ℕ) (ts : List X) (y z : Found X A) → y ≡ z → SoundAt P budget ts y → SoundAt P budget ts z
sound_along P budget ts y z same h = subst (SoundAt P budget ts) same h

sound_one : {X A : Type 0} (is : X → Bool) (cost : ℕ) (f : X → A) → IsSound (read_token is cost (λ t left rest. Ok (f t, left, rest))) (IsToken is cost f)
sound_one is cost f budget ts y e =
    let (t, us, joined, fits, room, found) = token_ok is cost (λ t left rest. Ok (f t, left, rest)) budget ts y e in
    let same : (f t, budget - cost, us) ≡ y = ok_is _ y found in
    (t ∷ [], joined ∙ ap (λ z. t ∷ z.2) same, λ kept. record { token = t; alone = refl; fits = fits; affordable = λ _. room; value_is = ap (λ z. z.0) (sym same); left_is = ap (λ z. z.1) (sym same) })

sound_in_turn : {X A B : Type 0} (r : Reader X A) (s : A → Reader X B) (P : Relation X A) (Q : A → Relation X B) → IsSound r P → ((x : A) → IsSound (s x) (Q x))
    → IsSound (read_in_turn r s) (InTurn P Q)
sound_in_turn r s P Q h k budget ts z e =
    let (x, y, reads_x, reads_y, same) = in_turn_ok r s budget ts z e in
    let (a, joined_a, p) = h budget ts x reads_x in
    let (b, joined_b, q) = k x.0 x.1 x.2 y reads_y in
    sound_along (InTurn P Q) budget ts ((x.0, y.0), y.1, y.2) z same (
      a ++ b,
      joined_a ∙ ap (λ us. a ++ us) joined_b ∙ sym (append_assoc a b y.2),
      λ kept. record { front = a; back = b; between = x.1; joined = refl; first = p kept; second = q (kept - length a) },
    )

-- the members of a list as a value of their tokens
abbrev pub MembersOf : (W : Words) {A : Type 0} → Option W.Class → Relation W.Token A → Option ℕ → Relation W.Token (List A)
MembersOf W lead P room kept budget tokens xs left = Members W.is_of lead P room xs kept budget tokens left

sound_members : (W : Words) {A : Type 0} (lead : Option W.Class) (firsts : List W.Class) (r : Reader W.Token A) (P : Relation W.Token A) → IsSound r P
    → (n : ℕ) (room : Option ℕ) (budget : ℕ) (ts : List W.Token) (y : Found W.Token (List A))
    → read_members W lead firsts r n room budget ts ≡ Ok y → SoundAt (MembersOf W lead P room) budget ts y
sound_members W {A} lead firsts r P h zero room budget ts y e =
    sound_along (MembersOf W lead P room) budget ts ([], budget, ts) y (ok_is ([], budget, ts) y e) ([], refl, λ kept. (refl, refl))
sound_members W {A} lead firsts r P h (suc n) room budget ts y e =
    elim (more_ok W lead firsts r (has_room room) (λ left rest. read_members W lead firsts r n (less_one room) left rest) budget ts y e) [
      | inl (comes, x, xs, has, reads, reads_xs, same) ↦
          let (l, joined_l, leads) = lead_of W lead firsts ts comes in
          let (a, joined_a, p) = h budget (behind lead ts) x reads in
          let (b, joined_b, q) = sound_members W lead firsts r P h n (less_one room) x.1 x.2 xs reads_xs in
          sound_along (MembersOf W lead P room) budget ts (x.0 ∷ xs.0, xs.1, xs.2) y same (
            l ++ (a ++ b),
            joined_l ∙ ap (λ us. l ++ us) (joined_a ∙ ap (λ us. a ++ us) joined_b ∙ sym (append_assoc a b xs.2)) ∙ sym (append_assoc l (a ++ b) xs.2),
            λ kept. record { lead = l; front = a; back = b; between = x.1; joined = refl; leads = leads; in_limit = λ _. has; member = p (kept - length l); rest = q (kept - length l - length a) },
          )
      | inr (none, same) ↦ sound_along (MembersOf W lead P room) budget ts ([], budget, ts) y same ([], refl, λ kept. (refl, refl))
    ]

sound_chosen : {X A : Type 0} (b : Bool) (r s : Reader X A) (P Q : Relation X A) → IsSound r P → IsSound s Q
    → IsSound (λ left rest. choose b (λ _. r left rest) (λ _. s left rest)) (Chosen b P Q)
sound_chosen true r s P Q h k budget ts y e = h budget ts y e
sound_chosen false r s P Q h k budget ts y e = k budget ts y e

pub sound_in : {W : Words} (deeper : (sort : W.Sort) → W.Token → Reader W.Token (W.Tree sort)) (Inner : (sort : W.Sort) → Relation W.Token (W.Tree sort))
    → ((sort : W.Sort) (t : W.Token) → IsSound (deeper sort t) (Inner sort)) → {A : Type 0} (g : Grammar W A) → IsSound (read_in deeper g) (PhraseIn Inner g)
sound_in {W} deeper Inner d (one cost c f) budget ts y e = sound_one (W.is_of c) cost f budget ts y e
sound_in {W} deeper Inner d (nothing v) budget ts y e =
    sound_along (PhraseIn {W = W} Inner (nothing v)) budget ts (v, budget, ts) y (ok_is (v, budget, ts) y e) ([], refl, λ kept. (refl, refl, refl))
sound_in {W} deeper Inner d (both g h) budget ts y e =
    sound_in_turn (read_in deeper g) _ (PhraseIn Inner g) _ (sound_in deeper Inner d g) (λ _. sound_in deeper Inner d h) budget ts y e
sound_in {W} deeper Inner d (fork g test h i) budget ts y e = sound_in_turn (read_in deeper g) _ (PhraseIn Inner g) _ (sound_in deeper Inner d g)
    (λ x. sound_chosen (test x) (read_in deeper h) (read_in deeper i) (PhraseIn Inner h) (PhraseIn Inner i) (sound_in deeper Inner d h) (sound_in deeper Inner d i))
    budget ts y e
sound_in {W} deeper Inner d (either g h) budget ts y e = elim (chosen_one (begins W (first_of g) ts) _ _ _ e) [
  | inl p ↦ let (a, joined, is) = sound_in deeper Inner d g budget ts y p.1 in (a, joined, λ kept. inl (is kept))
  | inr p ↦ let (a, joined, is) = sound_in deeper Inner d h budget ts y p.1 in (a, joined, λ kept. inr (is kept))
]
sound_in {W} deeper Inner d (many limit lead g) budget ts y e =
    sound_members W lead (first_of g) (read_in deeper g) (PhraseIn Inner g) (sound_in deeper Inner d g) (length ts) limit budget ts y e
sound_in {W} deeper Inner d (as_ f g) budget ts y e =
    let (x, reads, same) = mapped_ok f (read_in deeper g budget ts) y e in
    let (a, joined, is) = sound_in deeper Inner d g budget ts x reads in
    sound_along (PhraseIn {W = W} Inner (as_ f g)) budget ts (f x.0, x.1, x.2) y same (a, joined, λ kept. (x.0, is kept, refl))
sound_in {W} deeper Inner d (down cost c sort) budget ts y e =
    let (t, us, joined, fits, room, found) = token_ok (W.is_of c) cost (deeper sort) budget ts y e in
    let (a, behind_t, is) = d sort t (budget - cost) us y found in
    (t ∷ a, joined ∙ ap (λ vs. t ∷ vs) behind_t, λ kept. record { token = t; inner = a; joined = refl; fits = fits; affordable = λ _. room; part = is kept })
sound_in {W} deeper Inner d (afresh own g) budget ts y e =
    let (x, reads, same) = with_budget_ok budget (read_in deeper g own ts) y e in
    let (a, joined, is) = sound_in deeper Inner d g own ts x reads in
    sound_along (PhraseIn {W = W} Inner (afresh own g)) budget ts (x.0, budget, x.2) y same (a, joined, λ kept. (x.1, is kept, refl))

pub sound_deeper : {W : Words} (rules : Rules W) (spare levels : ℕ) (sort : W.Sort) (t : W.Token)
    → IsSound (read_deeper rules levels sort t) (Deeper rules spare levels sort)
sound_deeper rules spare zero sort t budget ts y e = absurd cc
sound_deeper rules spare (suc levels) sort t budget ts y e =
    let (a, joined, is) = sound_in (read_deeper rules levels) (Deeper rules spare levels) (sound_deeper rules spare levels) (rules sort) budget ts y e in
    (a, joined, λ kept. is (kept - 1))
