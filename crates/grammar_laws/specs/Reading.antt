-- Reading a grammar from the left: a value and the tokens behind it, or the first place that is refused.
use Rattle.std.specs.Prelude.{ℕ, zero, suc, ◌-◌, nat_le, Bool, true, false, List, [], ◌∷◌, Option, Some, None, Result, Ok, Err, length}
use Rattle.grammar_laws.specs.Grammars.{Words, Grammar, Rules, one, nothing, both, fork, either, many, as_, down, afresh}
use Rattle.grammar_laws.specs.Phrases.{has_room, less_one}
use Rattle.grammar_laws.specs.Prediction.{first_of, begins, openers}

-- Why a token is refused: no phrase goes on with it, or only such as pass a bound.
pub data Refusal : Type 0 where
  Syntax Limit : Refusal

-- a value, what is left of the budget, and the tokens behind
abbrev pub Found : Type 0 → Type 0 → Type 0
Found X A = A × ℕ × List X

-- why, and the tokens from the refused place on
abbrev pub Refused : Type 0 → Type 0
Refused X = Refusal × List X

abbrev pub Answer : Type 0 → Type 0 → Type 0
Answer X A = Result (Found X A) (Refused X)

-- its answer to a budget and tokens
abbrev pub Reader : Type 0 → Type 0 → Type 0
Reader X A = ℕ → List X → Answer X A

abbrev pub and_then : {X A B : Type 0} → Answer X A → (A → Reader X B) → Answer X B
and_then (Ok x) go = go x.0 x.1 x.2
and_then (Err e) go = Err e

-- the same answer with another value
abbrev pub mapped : {X A B : Type 0} → (A → B) → Answer X A → Answer X B
mapped f (Ok x) = Ok (f x.0, x.1, x.2)
mapped f (Err e) = Err e

-- the same answer with this much of the budget
abbrev pub with_budget : {X A : Type 0} → ℕ → Answer X A → Answer X A
with_budget budget (Ok x) = Ok (x.0, budget, x.2)
with_budget budget (Err e) = Err e

-- one of two; only the chosen one is computed
abbrev pub choose : {A : Type 0} → Bool → (Unit {0} → A) → (Unit {0} → A) → A
choose true a b = a tt
choose false a b = b tt

-- goes on behind a token that fits and that the budget affords
abbrev pub read_token : {X A : Type 0} → (is : X → Bool) → (cost : ℕ) → (X → Reader X A) → Reader X A
read_token is cost go budget [] = Err (Syntax, [])
read_token is cost go budget (t ∷ ts) =
    choose (is t) (λ _. choose (nat_le cost budget) (λ _. go t (budget - cost) ts) (λ _. Err (Limit, t ∷ ts))) (λ _. Err (Syntax, t ∷ ts))

abbrev pub read_in_turn : {X A B : Type 0} → Reader X A → (A → Reader X B) → Reader X (A × B)
read_in_turn r s budget ts = and_then (r budget ts) (λ x left rest. mapped (λ y. (x, y)) (s x left rest))

-- the tokens behind what leads a member
abbrev pub behind : {X C : Type 0} → (lead : Option C) → List X → List X
behind None ts = ts
behind (Some c) [] = []
behind (Some c) (t ∷ ts) = ts

-- A member, where there is room for it. Where there is none, a token that could begin one is beyond the limit.
abbrev pub read_member : {X A : Type 0} → (room : Bool) → (is_begun : List X → Bool) → Reader X A → Reader X A
read_member room is_begun r budget ts = choose room (λ _. r budget ts) (λ _. choose (is_begun ts) (λ _. Err (Limit, ts)) (λ _. Err (Syntax, ts)))

-- a member and then more of them
abbrev pub read_next : {X A : Type 0} → (room : Bool) → (is_begun : List X → Bool) → Reader X A → (more : Reader X (List A)) → Reader X (List A)
read_next room is_begun r more budget ts = mapped (λ z. z.0 ∷ z.1) (read_in_turn (read_member room is_begun r) (λ _. more) budget ts)

-- the same where a member comes, and else no more; members begin with the classes `firsts`, behind what leads them
abbrev pub read_more : (W : Words) {A : Type 0} → (lead : Option W.Class) → (firsts : List W.Class) → Reader W.Token A → (room : Bool)
    → (more : Reader W.Token (List A)) → Reader W.Token (List A)
read_more W lead firsts r room more budget ts =
    choose (begins W (openers lead firsts) ts) (λ _. read_next room (begins W firsts) r more budget (behind lead ts)) (λ _. Ok ([], budget, ts))

-- at most n members; where each takes a token, as many as there are tokens is enough
abbrev pub read_members : (W : Words) {A : Type 0} → (lead : Option W.Class) → (firsts : List W.Class) → Reader W.Token A → (n : ℕ) → (limit : Option ℕ)
    → Reader W.Token (List A)
read_members W lead firsts r zero limit budget ts = Ok ([], budget, ts)
read_members W lead firsts r (suc n) limit budget ts =
    read_more W lead firsts r (has_room limit) (λ left rest. read_members W lead firsts r n (less_one limit) left rest) budget ts

-- Reads a grammar. `deeper sort t` reads behind the token t that opens a level.
abbrev pub read_in : {W : Words} → ((sort : W.Sort) → W.Token → Reader W.Token (W.Tree sort)) → {A : Type 0} → Grammar W A → Reader W.Token A
read_in {W} deeper (one cost c f) budget ts = read_token (W.is_of c) cost (λ t left rest. Ok (f t, left, rest)) budget ts
read_in deeper (nothing v) budget ts = Ok (v, budget, ts)
read_in deeper (both g h) budget ts = read_in_turn (read_in deeper g) (λ _. read_in deeper h) budget ts
read_in deeper (fork g test h i) budget ts =
    read_in_turn (read_in deeper g) (λ x left rest. choose (test x) (λ _. read_in deeper h left rest) (λ _. read_in deeper i left rest)) budget ts
read_in {W} deeper (either g h) budget ts = choose (begins W (first_of g) ts) (λ _. read_in deeper g budget ts) (λ _. read_in deeper h budget ts)
read_in {W} deeper (many limit lead g) budget ts = read_members W lead (first_of g) (read_in deeper g) (length ts) limit budget ts
read_in deeper (as_ f g) budget ts = mapped f (read_in deeper g budget ts)
read_in {W} deeper (down cost c sort) budget ts = read_token (W.is_of c) cost (deeper sort) budget ts
read_in deeper (afresh own g) budget ts = with_budget budget (read_in deeper g own ts)

-- One level deeper, where so many levels are left. With none left, the token that opens it is beyond the bound.
abbrev pub read_deeper : {W : Words} → Rules W → (levels : ℕ) → (sort : W.Sort) → W.Token → Reader W.Token (W.Tree sort)
read_deeper rules zero sort t budget ts = Err (Limit, t ∷ ts)
read_deeper rules (suc levels) sort t budget ts = read_in (read_deeper rules levels) (rules sort) budget ts

-- reads a grammar with so many levels
abbrev pub read : {W : Words} {A : Type 0} → Rules W → (levels : ℕ) → Grammar W A → Reader W.Token A
read rules levels g = read_in (read_deeper rules levels) g

-- a value where no tokens are left; else the next is refused
abbrev pub ended : {X A : Type 0} → A → List X → Result A (Refused X)
ended x [] = Ok x
ended x (t ∷ ts) = Err (Syntax, t ∷ ts)

abbrev pub of_all : {X A : Type 0} → Answer X A → Result A (Refused X)
of_all (Ok x) = ended x.0 x.2
of_all (Err e) = Err e

-- reads all tokens, with so many levels and this budget
abbrev pub read_all : {W : Words} {A : Type 0} → Rules W → (levels budget : ℕ) → Grammar W A → List W.Token → Result A (Refused W.Token)
read_all rules levels budget g tokens = of_all (read rules levels g budget tokens)
