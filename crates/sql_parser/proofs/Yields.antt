-- What the values have in common that a part of the grammar yields, part by part.
use Rattle.std.proofs.Common.{◌≡◌, refl, ap, subst, arith, ℕ, zero, suc, ◌-◌, ◌<◌, ◌≤◌, Bool, true, false, ◌&&◌, List, [], ◌∷◌, Option, Some, None, Ok, length, inl, inr}
use Rattle.std.specs.List.{list_all}
use Rattle.grammar_laws.specs.Grammars.{Words, Grammar, Rules, one, nothing, both, fork, either, many, as_, down, afresh}
use Rattle.grammar_laws.specs.Phrases.{has_room, less_one}
use Rattle.grammar_laws.specs.Prediction.{begins, first_of}
use Rattle.grammar_laws.specs.Reading.{Found, Reader, choose, read, read_members, behind, read_deeper}
use Rattle.grammar_laws.proofs.Steps.{ok_is, mapped_ok, in_turn_ok, token_ok, more_ok, chosen_one, with_budget_ok}

-- of the budget before, a value, and the budget left
abbrev pub Says : Type 0 → Type 1
Says A = ℕ → A → ℕ → Type 0

abbrev pub All : {X : Type 0} → (X → Bool) → List X → Type 0
All test ts = list_all test ts ≡ true

-- Of tokens that pass a test, each value that the reader gives is as P says, and the tokens behind pass it too.
abbrev pub Yields : {X A : Type 0} → (X → Bool) → Reader X A → Says A → Type 0
Yields {X} {A} test r P = (budget : ℕ) (ts : List X) (x : A) (left : ℕ) (rest : List X) → All test ts → r budget ts ≡ Ok (x, left, rest) → P budget x left × All test rest

split : (a b : Bool) → a && b ≡ true → (a ≡ true) × (b ≡ true)
split true b e = (refl, e)
split false b e = absurd cc

head_passes : {X : Type 0} (test : X → Bool) (t : X) (ts : List X) → All test (t ∷ ts) → (test t ≡ true) × All test ts
head_passes test t ts all = split (test t) (list_all test ts) all

found_is : {X A : Type 0} (x y : A) (m l : ℕ) (us vs : List X) → ◌≡◌ {A = Found X A} (x, m, us) (y, l, vs) → (x ≡ y) × (m ≡ l) × (us ≡ vs)
found_is {X} {A} x y m l us vs e =
    (ap (λ (f : Found X A). f.0) e, ap (λ (f : Found X A). f.1) e, ap (λ (f : Found X A). f.2) e)

-- along equal parts
moved : {X A : Type 0} (test : X → Bool) (P : Says A) (b : ℕ) (x y : A) (m l : ℕ) (us vs : List X) → ◌≡◌ {A = Found X A} (x, m, us) (y, l, vs) → P b x m × All test us
    → P b y l × All test vs
moved {X} {A} test P b x y m l us vs e h = subst (λ (f : Found X A). P b f.0 f.1 × All test f.2) e h

pub yields_one : {W : Words} {A : Type 0} (test : W.Token → Bool) (cost : ℕ) (c : W.Class) (f : W.Token → A) (P : Says A) (rules : Rules W) (levels : ℕ)
    → ((t : W.Token) (b : ℕ) → W.is_of c t ≡ true → cost ≤ b → test t ≡ true → P b (f t) (b - cost)) → Yields test (read rules levels (one cost c f)) P
yields_one {W} test cost c f P rules levels h b ts x left rest all e =
    let (t, us, joined, fits, enough, goes) = token_ok (W.is_of c) cost (λ t l r. Ok (f t, l, r)) b ts (x, left, rest) e in
    let (passes, more) = head_passes test t us (subst (λ vs. All test vs) joined all) in
    moved test P b (f t) x (b - cost) left us rest (ok_is _ _ goes) (h t b fits enough passes, more)

pub yields_nothing : {W : Words} {A : Type 0} (test : W.Token → Bool) (v : A) (P : Says A) (rules : Rules W) (levels : ℕ) → ((b : ℕ) → P b v b)
    → Yields test (read rules levels (nothing v)) P
yields_nothing test v P rules levels h b ts x left rest all e = moved test P b v x b left ts rest (ok_is _ _ e) (h b, all)

pub yields_as : {W : Words} {A B : Type 0} (test : W.Token → Bool) (f : A → B) (g : Grammar W A) (P : Says A) (Q : Says B) (rules : Rules W) (levels : ℕ)
    → Yields test (read rules levels g) P → ((b : ℕ) (x : A) (l : ℕ) → P b x l → Q b (f x) l) → Yields test (read rules levels (as_ f g)) Q
yields_as test f g P Q rules levels part h b ts y left rest all e =
    let (x, reads, same) = mapped_ok f (read rules levels g b ts) (y, left, rest) e in
    let (is, more) = part b ts x.0 x.1 x.2 all reads in
    moved test Q b (f x.0) y x.1 left x.2 rest same (h b x.0 x.1 is, more)

pub yields_both : {W : Words} {A B : Type 0} (test : W.Token → Bool) (g : Grammar W A) (k : Grammar W B) (P : Says A) (Q : Says B) (R : Says (A × B)) (rules : Rules W) (levels : ℕ)
    → Yields test (read rules levels g) P → Yields test (read rules levels k) Q
    → ((b : ℕ) (x : A) (m : ℕ) (y : B) (l : ℕ) → P b x m → Q m y l → R b (x, y) l) → Yields test (read rules levels (both g k)) R
yields_both test g k P Q R rules levels first second h b ts z left rest all e =
    let (x, y, reads_x, reads_y, same) = in_turn_ok (read rules levels g) (λ _. read rules levels k) b ts (z, left, rest) e in
    let (is_x, more) = first b ts x.0 x.1 x.2 all reads_x in
    let (is_y, last) = second x.1 x.2 y.0 y.1 y.2 more reads_y in
    moved test R b (x.0, y.0) z y.1 left y.2 rest same (h b x.0 x.1 y.0 y.1 is_x is_y, last)

pub yields_either : {W : Words} {A : Type 0} (test : W.Token → Bool) (g k : Grammar W A) (P : Says A) (rules : Rules W) (levels : ℕ)
    → Yields test (read rules levels g) P → Yields test (read rules levels k) P → Yields test (read rules levels (either g k)) P
yields_either {W} test g k P rules levels first second b ts x left rest all e =
    elim (chosen_one (begins W (first_of g) ts) (λ _. read rules levels g b ts) (λ _. read rules levels k b ts) (Ok (x, left, rest)) e) [
      | inl p ↦ first b ts x left rest all p.1
      | inr p ↦ second b ts x left rest all p.1
    ]

yields_chosen : {W : Words} {A : Type 0} (test : W.Token → Bool) (chosen : Bool) (g k : Grammar W A) (P : Says A) (rules : Rules W) (levels : ℕ)
    → (chosen ≡ true → Yields test (read rules levels g) P) → (chosen ≡ false → Yields test (read rules levels k) P)
    → Yields test (λ b ts. choose chosen (λ _. read rules levels g b ts) (λ _. read rules levels k b ts)) P
yields_chosen test true g k P rules levels first second = first refl
yields_chosen test false g k P rules levels first second = second refl

pub yields_fork : {W : Words} {A B : Type 0} (test : W.Token → Bool) (g : Grammar W A) (choice : A → Bool) (k l : Grammar W B) (P : Says A) (Q : A → Says B) (R : Says (A × B))
    (rules : Rules W) (levels : ℕ)
    → Yields test (read rules levels g) P → ((x : A) → choice x ≡ true → Yields test (read rules levels k) (Q x))
    → ((x : A) → choice x ≡ false → Yields test (read rules levels l) (Q x))
    → ((b : ℕ) (x : A) (m : ℕ) (y : B) (n : ℕ) → P b x m → Q x m y n → R b (x, y) n) → Yields test (read rules levels (fork g choice k l)) R
yields_fork test g choice k l P Q R rules levels first second third h b ts z left rest all e =
    let (x, y, reads_x, reads_y, same) =
    in_turn_ok (read rules levels g) (λ x b ts. choose (choice x) (λ _. read rules levels k b ts) (λ _. read rules levels l b ts)) b ts (z, left, rest) e in
    let (is_x, more) = first b ts x.0 x.1 x.2 all reads_x in
    let (is_y, last) = yields_chosen test (choice x.0) k l (Q x.0) rules levels (second x.0) (third x.0) x.1 x.2 y.0 y.1 y.2 more reads_y in
    moved test R b (x.0, y.0) z y.1 left y.2 rest same (h b x.0 x.1 y.0 y.1 is_x is_y, last)

behind_passes : {X C : Type 0} (test : X → Bool) (lead : Option C) (ts : List X) → All test ts → All test (behind lead ts)
behind_passes test None ts all = all
behind_passes test (Some c) [] all = all
behind_passes test (Some c) (t ∷ ts) all = (head_passes test t ts all).1

yields_members : {W : Words} {A : Type 0} (test : W.Token → Bool) (lead : Option W.Class) (g : Grammar W A) (P : Says A) (R : Option ℕ → Says (List A)) (rules : Rules W) (levels : ℕ)
    → Yields test (read rules levels g) P → ((room : Option ℕ) (b : ℕ) → R room b [] b)
    → ((room : Option ℕ) (b : ℕ) (x : A) (m : ℕ) (xs : List A) (l : ℕ) → has_room room ≡ true → P b x m → R (less_one room) m xs l → R room b (x ∷ xs) l)
    → (n : ℕ) (room : Option ℕ) → Yields test (read_members W lead (first_of g) (read rules levels g) n room) (R room)
yields_members test lead g P R rules levels part none more zero room b ts xs left rest all e = moved test (R room) b [] xs b left ts rest (ok_is _ _ e) (none room b, all)
yields_members {W} test lead g P R rules levels part none more (suc n) room b ts xs left rest all e =
    elim (more_ok W lead (first_of g) (read rules levels g) (has_room room) (λ l r. read_members W lead (first_of g) (read rules levels g) n (less_one room) l r) b ts (xs, left, rest) e) [
      | inl (comes, x, ys, has, reads_x, reads_ys, same) ↦
          let (is_x, behind_x) = part b (behind lead ts) x.0 x.1 x.2 (behind_passes test lead ts all) reads_x in
          let (is_ys, last) = yields_members test lead g P R rules levels part none more n (less_one room) x.1 x.2 ys.0 ys.1 ys.2 behind_x reads_ys in
          moved test (R room) b (x.0 ∷ ys.0) xs ys.1 left ys.2 rest same (more room b x.0 x.1 ys.0 ys.1 has is_x is_ys, last)
      | inr (ends, same) ↦ moved test (R room) b [] xs b left ts rest same (none room b, all)
    ]

pub yields_many : {W : Words} {A : Type 0} (test : W.Token → Bool) (room : Option ℕ) (lead : Option W.Class) (g : Grammar W A) (P : Says A) (R : Option ℕ → Says (List A)) (rules : Rules W) (levels : ℕ)
    → Yields test (read rules levels g) P → ((room : Option ℕ) (b : ℕ) → R room b [] b)
    → ((room : Option ℕ) (b : ℕ) (x : A) (m : ℕ) (xs : List A) (l : ℕ) → has_room room ≡ true → P b x m → R (less_one room) m xs l → R room b (x ∷ xs) l)
    → Yields test (read rules levels (many room lead g)) (R room)
yields_many test room lead g P R rules levels part none more b ts = yields_members test lead g P R rules levels part none more (length ts) room b ts

pub yields_afresh : {W : Words} {A : Type 0} (test : W.Token → Bool) (own : ℕ) (g : Grammar W A) (P Q : Says A) (rules : Rules W) (levels : ℕ)
    → Yields test (read rules levels g) P → ((b : ℕ) (x : A) (l : ℕ) → P own x l → Q b x b) → Yields test (read rules levels (afresh own g)) Q
yields_afresh test own g P Q rules levels part h b ts x left rest all e =
    let (y, reads, same) = with_budget_ok b (read rules levels g own ts) (x, left, rest) e in
    let (is, more) = part own ts y.0 y.1 y.2 all reads in
    moved test Q b y.0 x b left y.2 rest same (h b y.0 y.1 is, more)

yields_deeper : {W : Words} (test : W.Token → Bool) (sort : W.Sort) (P : Says (W.Tree sort)) (rules : Rules W) (levels : ℕ)
    → ((n : ℕ) → n < levels → Yields test (read rules n (rules sort)) P) → (t : W.Token) → Yields test (read_deeper rules levels sort t) P
yields_deeper test sort P rules zero part t b ts x left rest all e = absurd cc
yields_deeper test sort P rules (suc n) part t b ts x left rest all e = part n (omega arith) b ts x left rest all e

-- one level deeper
pub yields_down : {W : Words} (test : W.Token → Bool) (cost : ℕ) (c : W.Class) (sort : W.Sort) (P Q : Says (W.Tree sort)) (rules : Rules W) (levels : ℕ)
    → ((n : ℕ) → n < levels → Yields test (read rules n (rules sort)) P)
    → ((b : ℕ) (x : W.Tree sort) (l : ℕ) → cost ≤ b → P (b - cost) x l → Q b x l) → Yields test (read rules levels (down cost c sort)) Q
yields_down {W} test cost c sort P Q rules levels part h b ts x left rest all e =
    let (t, us, joined, fits, enough, goes) = token_ok (W.is_of c) cost (read_deeper rules levels sort) b ts (x, left, rest) e in
    let (passes, more) = head_passes test t us (subst (λ vs. All test vs) joined all) in
    let (is, last) = yields_deeper test sort P rules levels part t (b - cost) us x left rest more goes in
    (h b x left enough is, last)
