-- Which lists of tokens are phrases of a grammar, and with which value.
use Rattle.std.specs.Prelude.{◌≡◌, ◌⊎◌, ◌<◌, ◌≤◌, ◌-◌, ℕ, zero, suc, Bool, true, false, List, [], ◌∷◌, ◌++◌, Option, Some, None, length}
use Rattle.grammar_laws.specs.Grammars.{Words, Grammar, Rules, one, nothing, both, fork, either, many, as_, down, afresh}

-- Tokens against a value. The bounds are kept in the first `kept` tokens, and where more are kept than there are, also
-- behind the last; from there on they don't count. `budget` is what tokens may cost from the first on, and `left` what
-- is left of it behind the last.
abbrev pub Relation : Type 0 → Type 0 → Type 1
Relation X A = (kept budget : ℕ) (tokens : List X) (value : A) (left : ℕ) → Type 0

-- one token
pub record IsToken {X A : Type 0} (is : X → Bool) (cost : ℕ) (value_of : X → A) (kept budget : ℕ) (tokens : List X) (value : A) (left : ℕ) : Type 0 where
  pub token : X
  pub alone : tokens ≡ token ∷ []
  pub fits : is token ≡ true
  pub affordable : 0 < kept → cost ≤ budget
  pub value_is : value ≡ value_of token
  pub left_is : left ≡ budget - cost

-- a part and then another, which may hang on the value of the first
pub record InTurn {X A B : Type 0} (P : Relation X A) (Q : A → Relation X B) (kept budget : ℕ) (tokens : List X) (value : A × B) (left : ℕ) : Type 0 where
  pub front : List X
  pub back : List X
  pub between : ℕ
  pub joined : tokens ≡ front ++ back
  pub first : P kept budget front value.0 between
  pub second : Q value.0 (kept - length front) between back value.1 left

-- the first of two or the second
abbrev pub Chosen : {X A : Type 0} → Bool → Relation X A → Relation X A → Relation X A
Chosen true P Q kept budget tokens value left = P kept budget tokens value left
Chosen false P Q kept budget tokens value left = Q kept budget tokens value left

-- whether another member may come
abbrev pub has_room : Option ℕ → Bool
has_room None = true
has_room (Some zero) = false
has_room (Some (suc n)) = true

-- the room behind a member
abbrev pub less_one : Option ℕ → Option ℕ
less_one None = None
less_one (Some zero) = Some zero
less_one (Some (suc n)) = Some n

-- what stands in front of a member: nothing, or a token of the class
abbrev pub IsLead : {X C : Type 0} → (C → X → Bool) → Option C → List X → Type 0
IsLead is_of None lead = lead ≡ []
IsLead {X} is_of (Some c) lead = (token : X) × (lead ≡ token ∷ []) × (is_of c token ≡ true)

-- a member, where there is room, and then what `Rest` says
pub record Member {X A : Type 0} (Lead : List X → Type 0) (room : Bool) (P : Relation X A) (Rest : (kept budget : ℕ) → List X → ℕ → Type 0) (kept budget : ℕ)
    (tokens : List X) (value : A) (left : ℕ) : Type 0 where
  pub lead : List X
  pub front : List X
  pub back : List X
  pub between : ℕ
  pub joined : tokens ≡ lead ++ (front ++ back)
  pub leads : Lead lead
  pub in_limit : 0 < kept - length lead → room ≡ true
  pub member : P (kept - length lead) budget front value between
  pub rest : Rest (kept - length lead - length front) between back left

-- the members of a list
abbrev pub Members : {X C A : Type 0} → (C → X → Bool) → (lead : Option C) → Relation X A → (limit : Option ℕ)
    → (values : List A) (kept budget : ℕ) (tokens : List X) (left : ℕ) → Type 0
Members is_of lead P limit [] kept budget tokens left = (tokens ≡ []) × (left ≡ budget)
Members is_of lead P limit (x ∷ xs) kept budget tokens left =
    Member (IsLead is_of lead) (has_room limit) P (Members is_of lead P (less_one limit) xs) kept budget tokens x left

-- a token and then a part one level deeper
pub record Opened {X A : Type 0} (is : X → Bool) (cost : ℕ) (P : Relation X A) (kept budget : ℕ) (tokens : List X) (value : A) (left : ℕ) : Type 0 where
  pub token : X
  pub inner : List X
  pub joined : tokens ≡ token ∷ inner
  pub fits : is token ≡ true
  pub affordable : 0 < kept → cost ≤ budget
  pub part : P kept (budget - cost) inner value left

-- The phrases of a grammar. `Inner sort` is of what stands behind the token that opens a level, and its `kept` counts
-- that token too.
abbrev pub PhraseIn : {W : Words} → (Inner : (sort : W.Sort) → Relation W.Token (W.Tree sort)) → {A : Type 0} → Grammar W A → Relation W.Token A
PhraseIn {W} Inner (one cost c f) kept budget tokens x left = IsToken (W.is_of c) cost f kept budget tokens x left
PhraseIn Inner (nothing v) kept budget tokens x left = (tokens ≡ []) × (x ≡ v) × (left ≡ budget)
PhraseIn Inner (both g h) kept budget tokens x left = InTurn (PhraseIn Inner g) (λ _. PhraseIn Inner h) kept budget tokens x left
PhraseIn Inner (fork g test h i) kept budget tokens x left =
    InTurn (PhraseIn Inner g) (λ y. Chosen (test y) (PhraseIn Inner h) (PhraseIn Inner i)) kept budget tokens x left
PhraseIn Inner (either g h) kept budget tokens x left = PhraseIn Inner g kept budget tokens x left ⊎ PhraseIn Inner h kept budget tokens x left
PhraseIn {W} Inner (many limit lead g) kept budget tokens x left = Members W.is_of lead (PhraseIn Inner g) limit x kept budget tokens left
PhraseIn Inner (as_ f g) kept budget tokens x left = (y : _) × PhraseIn Inner g kept budget tokens y left × (x ≡ f y)
PhraseIn {W} Inner (down cost c sort) kept budget tokens x left = Opened (W.is_of c) cost (Inner sort) kept budget tokens x left
PhraseIn Inner (afresh own g) kept budget tokens x left = (rest : ℕ) × PhraseIn Inner g kept own tokens x rest × (left ≡ budget)

-- Past the bound on levels, at most `spare` levels deeper: the token that opens a level keeps no bounds, and nor does
-- what stands behind it.
abbrev pub Past : {W : Words} → Rules W → (spare : ℕ) → (sort : W.Sort) → Relation W.Token (W.Tree sort)
Past rules zero sort kept budget tokens x left = ⊥
Past rules (suc spare) sort kept budget tokens x left = (kept ≡ 0) × PhraseIn (Past rules spare) (rules sort) 0 budget tokens x left

-- One level deeper, where so many levels are left, and `spare` past the bound.
abbrev pub Deeper : {W : Words} → Rules W → (spare levels : ℕ) → (sort : W.Sort) → Relation W.Token (W.Tree sort)
Deeper rules spare zero sort kept budget tokens x left = Past rules spare sort kept budget tokens x left
Deeper rules spare (suc levels) sort kept budget tokens x left = PhraseIn (Deeper rules spare levels) (rules sort) (kept - 1) budget tokens x left

-- The tokens are a phrase with this value, which keeps the bounds in the first `kept` of them.
abbrev pub KeepsIn : {W : Words} {A : Type 0} → Rules W → (levels budget : ℕ) → Grammar W A → (kept : ℕ) → List W.Token → A → Type 0
KeepsIn rules levels budget g kept tokens x = (spare left : ℕ) × PhraseIn (Deeper rules spare levels) g kept budget tokens x left

-- The tokens are a phrase with this value, which keeps all bounds, in each token and behind the last.
abbrev pub IsPhrase : {W : Words} {A : Type 0} → Rules W → (levels budget : ℕ) → Grammar W A → List W.Token → A → Type 0
IsPhrase rules levels budget g tokens x = (left : ℕ) × PhraseIn (Deeper rules 0 levels) g (suc (length tokens)) budget tokens x left
