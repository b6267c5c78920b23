-- Grammars as typed data: each has a type of values, and says which lists of tokens are its phrases.
use Rattle.std.specs.Prelude.{ℕ, pred, Bool, List, ◌∷◌, Option, Some, None, option_map}

-- What grammars speak of: tokens, the classes that a token may be of, and the sorts of parts that may stand inside
-- themselves, each with the type of its values.
pub record Words : Type 1 where
  pub Token : Type 0
  pub Class : Type 0
  pub Sort : Type 0
  pub Tree : Sort → Type 0
  pub is_of : Class → Token → Bool

-- Three bounds stand in a grammar: a list has at most so many members, a token costs so much of a budget, and a part
-- of a sort stands one level deeper.
pub data Grammar (W : Words) : Type 0 → Type 1 where
  -- a token of a class, at a cost
  one : {A : Type 0} → (cost : ℕ) → W.Class → (W.Token → A) → Grammar W A
  -- no token
  nothing : {A : Type 0} → A → Grammar W A
  -- a part and then another
  both : {A B : Type 0} → Grammar W A → Grammar W B → Grammar W (A × B)
  -- a part, and then the first of two others where its value passes the test, or else the second
  fork : {A B : Type 0} → Grammar W A → (A → Bool) → Grammar W B → Grammar W B → Grammar W (A × B)
  -- one part or the other
  either : {A : Type 0} → Grammar W A → Grammar W A → Grammar W A
  -- none or more members, at most `limit` where there is one, and each behind a token of `lead` where there is one
  many : {A : Type 0} → (limit : Option ℕ) → (lead : Option W.Class) → Grammar W A → Grammar W (List A)
  -- a part, with another value
  as_ : {A B : Type 0} → (A → B) → Grammar W A → Grammar W B
  -- a token of a class, at a cost, and then a part of a sort, one level deeper
  down : (cost : ℕ) → W.Class → (sort : W.Sort) → Grammar W (W.Tree sort)
  -- a part with a budget of its own
  afresh : {A : Type 0} → (own : ℕ) → Grammar W A → Grammar W A

-- the grammar of each sort
abbrev pub Rules : Words → Type 1
Rules W = (sort : W.Sort) → Grammar W (W.Tree sort)

-- a token that costs nothing
abbrev pub plain : {W : Words} {A : Type 0} → W.Class → (W.Token → A) → Grammar W A
plain c f = one 0 c f

-- a token that costs one of the budget
abbrev pub counted : {W : Words} {A : Type 0} → W.Class → (W.Token → A) → Grammar W A
counted c f = one 1 c f

-- the same where the token has no value of its own
abbrev pub mark : {W : Words} → W.Class → Grammar W (Unit {0})
mark c = one 0 c (λ _. tt)

abbrev pub counted_mark : {W : Words} → W.Class → Grammar W (Unit {0})
counted_mark c = one 1 c (λ _. tt)

-- a part or nothing
abbrev pub maybe : {W : Words} {A : Type 0} → Grammar W A → Grammar W (Option A)
maybe g = either (as_ Some g) (nothing None)

-- two parts of which one has the value; these bind more than `&`
infixl 30 ◌<<◌
abbrev pub ◌<<◌ : {W : Words} {A B : Type 0} → Grammar W A → Grammar W B → Grammar W A
g << h = as_ (λ x. x.0) (both g h)

infixl 30 ◌>>◌
abbrev pub ◌>>◌ : {W : Words} {A B : Type 0} → Grammar W A → Grammar W B → Grammar W B
g >> h = as_ (λ x. x.1) (both g h)

-- two parts with both values
infixr 20 ◌&◌
abbrev pub ◌&◌ : {W : Words} {A B : Type 0} → Grammar W A → Grammar W B → Grammar W (A × B)
g & h = both g h

-- one or more members, with a token of `separator` between them
abbrev pub listed : {W : Words} {A : Type 0} → (limit : Option ℕ) → (separator : W.Class) → Grammar W A → Grammar W (List A)
listed limit separator g = as_ (λ x. x.0 ∷ x.1) (g & many (option_map pred limit) (Some separator) g)

-- one or more members, one behind another
abbrev pub several : {W : Words} {A : Type 0} → (limit : Option ℕ) → Grammar W A → Grammar W (List A)
several limit g = as_ (λ x. x.0 ∷ x.1) (g & many (option_map pred limit) None g)
