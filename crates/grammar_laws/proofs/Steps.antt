-- What an answer of each reader tells of its parts.
use Rattle.std.proofs.Common.{◌≡◌, ◌⊎◌, inl, inr, refl, sym, ◌∙◌, ap, ℕ, ◌-◌, ◌≤◌, Bool, true, false, List, [], ◌∷◌, ◌++◌, Option, Some, None, Ok, Err, nat_le, leb-true}
use Rattle.grammar_laws.specs.Grammars.{Words}
use Rattle.grammar_laws.specs.Phrases.{IsLead}
use Rattle.grammar_laws.specs.Prediction.{begins, openers}
use Rattle.grammar_laws.specs.Reading.{Syntax, Limit, Found, Refused, Answer, Reader, and_then, mapped, with_budget, choose, read_token, read_in_turn, read_member, read_next, read_more, behind}
use Rattle.grammar_laws.proofs.ClassLemmas.{among_one}

pub ok_is : {X A : Type 0} (x y : Found X A) → ◌≡◌ {A = Answer X A} (Ok x) (Ok y) → x ≡ y
ok_is x y e = cc

pub err_is : {X A : Type 0} (x y : Refused X) → ◌≡◌ {A = Answer X A} (Err x) (Err y) → x ≡ y
err_is x y e = cc

pub and_then_ok : {X A B : Type 0} (o : Answer X A) (go : A → Reader X B) (y : Found X B) → and_then o go ≡ Ok y → (x : Found X A) × (o ≡ Ok x) × (go x.0 x.1 x.2 ≡ Ok y)
and_then_ok (Ok x) go y e = (x, refl, e)
and_then_ok (Err f) go y e = absurd cc

pub and_then_err : {X A B : Type 0} (o : Answer X A) (go : A → Reader X B) (f : Refused X) → and_then o go ≡ Err f
    → (o ≡ Err f) ⊎ ((x : Found X A) × (o ≡ Ok x) × (go x.0 x.1 x.2 ≡ Err f))
and_then_err (Ok x) go f e = inr (x, refl, e)
and_then_err {X} {A} {B} (Err g) go f e = inl (ap {B = Answer X A} (λ h. Err h) (err_is {A = B} g f e))

pub mapped_ok : {X A B : Type 0} (f : A → B) (o : Answer X A) (y : Found X B) → mapped f o ≡ Ok y → (x : Found X A) × (o ≡ Ok x) × ((f x.0, x.1, x.2) ≡ y)
mapped_ok f (Ok x) y e = (x, refl, ok_is _ y e)
mapped_ok f (Err g) y e = absurd cc

pub mapped_err : {X A B : Type 0} (f : A → B) (o : Answer X A) (g : Refused X) → mapped f o ≡ Err g → o ≡ Err g
mapped_err f (Ok x) g e = absurd cc
mapped_err {X} {A} {B} f (Err h) g e = ap {B = Answer X A} (λ k. Err k) (err_is {A = B} h g e)

pub with_budget_ok : {X A : Type 0} (budget : ℕ) (o : Answer X A) (y : Found X A) → with_budget budget o ≡ Ok y → (x : Found X A) × (o ≡ Ok x) × ((x.0, budget, x.2) ≡ y)
with_budget_ok budget (Ok x) y e = (x, refl, ok_is _ y e)
with_budget_ok budget (Err g) y e = absurd cc

pub with_budget_err : {X A : Type 0} (budget : ℕ) (o : Answer X A) (g : Refused X) → with_budget budget o ≡ Err g → o ≡ Err g
with_budget_err budget (Ok x) g e = absurd cc
with_budget_err budget (Err h) g e = e

pub chosen_one : {A : Type 0} (b : Bool) (f g : Unit {0} → A) (y : A) → choose b f g ≡ y → ((b ≡ true) × (f tt ≡ y)) ⊎ ((b ≡ false) × (g tt ≡ y))
chosen_one true f g y e = inl (refl, e)
chosen_one false f g y e = inr (refl, e)

pub choose_first : {A : Type 0} (b : Bool) (f g : Unit {0} → A) → b ≡ true → choose b f g ≡ f tt
choose_first true f g e = refl
choose_first false f g e = absurd cc

pub choose_second : {A : Type 0} (b : Bool) (f g : Unit {0} → A) → b ≡ false → choose b f g ≡ g tt
choose_second true f g e = absurd cc
choose_second false f g e = refl

-- the token was read and the reader behind it gave this
abbrev pub Passed : {X A : Type 0} → (X → Bool) → ℕ → (X → Reader X A) → ℕ → List X → Answer X A → Type 0
Passed {X} is cost go budget ts y = (t : X) × (us : List X) × (ts ≡ t ∷ us) × (is t ≡ true) × (cost ≤ budget) × (go t (budget - cost) us ≡ y)

-- no token was of the class, or it was too dear
abbrev pub Unread : {X : Type 0} → (X → Bool) → ℕ → ℕ → List X → Refused X → Type 0
Unread {X} is cost budget ts f = (f ≡ (Syntax, ts)) ⊎ ((t : X) × (us : List X) × (ts ≡ t ∷ us) × (is t ≡ true) × (f ≡ (Limit, ts)))

pub token_ok : {X A : Type 0} (is : X → Bool) (cost : ℕ) (go : X → Reader X A) (budget : ℕ) (ts : List X) (y : Found X A)
    → read_token is cost go budget ts ≡ Ok y → Passed is cost go budget ts (Ok y)
token_ok is cost go budget [] y e = absurd cc
token_ok is cost go budget (t ∷ ts) y e = elim (chosen_one (is t) _ _ _ e) [
  | inl p ↦ elim (chosen_one (nat_le cost budget) _ _ _ p.1) [ inl q ↦ (t, ts, refl, p.0, leb-true _ _ q.0, q.1) | inr q ↦ absurd (ok_not_err q.1) ]
  | inr p ↦ absurd (ok_not_err p.1)
]
  where
    ok_not_err : {X A : Type 0} {x : Found X A} {f : Refused X} → Err f ≡ Ok x → ⊥
    ok_not_err e = cc

pub token_err : {X A : Type 0} (is : X → Bool) (cost : ℕ) (go : X → Reader X A) (budget : ℕ) (ts : List X) (f : Refused X)
    → read_token is cost go budget ts ≡ Err f → Unread is cost budget ts f ⊎ Passed is cost go budget ts (Err f)
token_err {X} {A} is cost go budget [] f e = inl (inl (sym (err_is {A = A} _ f e)))
token_err {X} {A} is cost go budget (t ∷ ts) f e = elim (chosen_one (is t) _ _ _ e) [
  | inl p ↦ elim (chosen_one (nat_le cost budget) _ _ _ p.1) [ inl q ↦ inr (t, ts, refl, p.0, leb-true _ _ q.0, q.1) | inr q ↦ inl (inr (t, ts, refl, p.0, sym (err_is {A = A} _ f q.1))) ]
  | inr p ↦ inl (inl (sym (err_is {A = A} _ f p.1)))
]

pub in_turn_ok : {X A B : Type 0} (r : Reader X A) (s : A → Reader X B) (budget : ℕ) (ts : List X) (z : Found X (A × B)) → read_in_turn r s budget ts ≡ Ok z
    → (x : Found X A) × (y : Found X B) × (r budget ts ≡ Ok x) × (s x.0 x.1 x.2 ≡ Ok y) × (((x.0, y.0), y.1, y.2) ≡ z)
in_turn_ok r s budget ts z e =
    let (x, p, q) = and_then_ok (r budget ts) _ z e in
    let (y, u, v) = mapped_ok (λ y. (x.0, y)) (s x.0 x.1 x.2) z q in
    (x, y, p, u, v)

pub in_turn_of : {X A B : Type 0} (r : Reader X A) (s : A → Reader X B) (budget : ℕ) (ts : List X) (x : Found X A) (o : Answer X B) → r budget ts ≡ Ok x
    → s x.0 x.1 x.2 ≡ o → read_in_turn r s budget ts ≡ mapped (λ y. (x.0, y)) o
in_turn_of {X} {A} {B} r s budget ts x o e f =
    ap {B = Answer X (A × B)} (λ p. and_then p (λ x' left rest. mapped (λ y. (x', y)) (s x' left rest))) e ∙ ap {B = Answer X (A × B)} (mapped (λ y. (x.0, y))) f

pub in_turn_refused : {X A B : Type 0} (r : Reader X A) (s : A → Reader X B) (budget : ℕ) (ts : List X) (f : Refused X) → r budget ts ≡ Err f
    → read_in_turn r s budget ts ≡ Err f
in_turn_refused {X} {A} {B} r s budget ts f e = ap {B = Answer X (A × B)} (λ p. and_then p (λ x' left rest. mapped (λ y. (x', y)) (s x' left rest))) e

pub in_turn_err : {X A B : Type 0} (r : Reader X A) (s : A → Reader X B) (budget : ℕ) (ts : List X) (f : Refused X) → read_in_turn r s budget ts ≡ Err f
    → (r budget ts ≡ Err f) ⊎ ((x : Found X A) × (r budget ts ≡ Ok x) × (s x.0 x.1 x.2 ≡ Err f))
in_turn_err r s budget ts f e = elim (and_then_err (r budget ts) _ f e) [
  | inl p ↦ inl p
  | inr (x, p, q) ↦ inr (x, p, mapped_err (λ y. (x.0, y)) (s x.0 x.1 x.2) f q)
]

pub member_ok : {X A : Type 0} (room : Bool) (is_begun : List X → Bool) (r : Reader X A) (budget : ℕ) (ts : List X) (x : Found X A)
    → read_member room is_begun r budget ts ≡ Ok x → (room ≡ true) × (r budget ts ≡ Ok x)
member_ok true is_begun r budget ts x e = (refl, e)
member_ok false is_begun r budget ts x e = elim (chosen_one (is_begun ts) _ _ _ e) [ inl p ↦ absurd cc | inr p ↦ absurd cc ]

-- a member is refused by its reader, or there is no room for it
pub member_err : {X A : Type 0} (room : Bool) (is_begun : List X → Bool) (r : Reader X A) (budget : ℕ) (ts : List X) (f : Refused X)
    → read_member room is_begun r budget ts ≡ Err f
    → ((room ≡ true) × (r budget ts ≡ Err f)) ⊎ (((is_begun ts ≡ true) × (f ≡ (Limit, ts))) ⊎ (f ≡ (Syntax, ts)))
member_err true is_begun r budget ts f e = inl (refl, e)
member_err {X} {A} false is_begun r budget ts f e =
    elim (chosen_one (is_begun ts) _ _ _ e) [ inl p ↦ inr (inl (p.0, sym (err_is {A = A} _ f p.1))) | inr p ↦ inr (inr (sym (err_is {A = A} _ f p.1))) ]

-- a member was read and the rest behind it, or none comes
pub more_ok : (W : Words) {A : Type 0} (lead : Option W.Class) (firsts : List W.Class) (r : Reader W.Token A) (room : Bool) (more : Reader W.Token (List A))
    (budget : ℕ) (ts : List W.Token) (y : Found W.Token (List A))
    → read_more W lead firsts r room more budget ts ≡ Ok y
    → ((begins W (openers lead firsts) ts ≡ true) × (x : Found W.Token A) × (xs : Found W.Token (List A)) × (room ≡ true) × (r budget (behind lead ts) ≡ Ok x) × (more x.1 x.2 ≡ Ok xs) × ((x.0 ∷ xs.0, xs.1, xs.2) ≡ y))
    ⊎ ((begins W (openers lead firsts) ts ≡ false) × (([], budget, ts) ≡ y))
more_ok W {A} lead firsts r room more budget ts y e =
    elim (chosen_one (begins W (openers lead firsts) ts) (λ _. read_next room (begins W firsts) r more budget (behind lead ts)) (λ _. Ok ([], budget, ts)) (Ok y) e) [
      | inl (comes, found) ↦
          let (z, reads_z, found_z) = mapped_ok (λ w. w.0 ∷ w.1) (read_in_turn (read_member room (begins W firsts) r) (λ _. more) budget (behind lead ts)) y found in
          let (x, xs, reads_x, reads_xs, same) = in_turn_ok (read_member room (begins W firsts) r) (λ _. more) budget (behind lead ts) z reads_z in
          let (has, reads) = member_ok room (begins W firsts) r budget (behind lead ts) x reads_x in
          let joined : ◌≡◌ {A = Found W.Token (List A)} (x.0 ∷ xs.0, xs.1, xs.2) (z.0.0 ∷ z.0.1, z.1, z.2) = ap (λ w. (w.0.0 ∷ w.0.1, w.1, w.2)) same in
          inl (comes, x, xs, has, reads, reads_xs, joined ∙ found_z)
      | inr (none, found) ↦ inr (none, ok_is ([], budget, ts) y found)
    ]

-- a member is refused, or the rest behind one
pub more_err : (W : Words) {A : Type 0} (lead : Option W.Class) (firsts : List W.Class) (r : Reader W.Token A) (room : Bool) (more : Reader W.Token (List A))
    (budget : ℕ) (ts : List W.Token) (f : Refused W.Token)
    → read_more W lead firsts r room more budget ts ≡ Err f
    → (begins W (openers lead firsts) ts ≡ true) × (read_member room (begins W firsts) r budget (behind lead ts) ≡ Err f ⊎ ((x : Found W.Token A) × (room ≡ true) × (r budget (behind lead ts) ≡ Ok x) × (more x.1 x.2 ≡ Err f)))
more_err W lead firsts r room more budget ts f e =
    elim (chosen_one (begins W (openers lead firsts) ts) (λ _. read_next room (begins W firsts) r more budget (behind lead ts)) (λ _. Ok ([], budget, ts)) (Err f) e) [
      | inl (comes, found) ↦ (
        comes,
        elim (in_turn_err (read_member room (begins W firsts) r) (λ _. more) budget (behind lead ts) f (mapped_err (λ w. w.0 ∷ w.1) (read_in_turn (read_member room (begins W firsts) r) (λ _. more) budget (behind lead ts)) f found)) [
          | inl refused ↦ inl refused
          | inr (x, reads_x, refused) ↦ let (has, reads) = member_ok room (begins W firsts) r budget (behind lead ts) x reads_x in inr (x, has, reads, refused)
        ],
      )
      | inr (none, found) ↦ absurd cc
    ]

-- what leads a member stands in front of it
pub lead_of : (W : Words) (lead : Option W.Class) (firsts : List W.Class) (ts : List W.Token) → begins W (openers lead firsts) ts ≡ true
    → (front : List W.Token) × (ts ≡ front ++ behind lead ts) × IsLead W.is_of lead front
lead_of W None firsts ts h = ([], refl, refl)
lead_of W (Some c) firsts [] h = absurd cc
lead_of W (Some c) firsts (t ∷ ts) h = (t ∷ [], refl, (t, refl, among_one W c t h))
