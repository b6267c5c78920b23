-- The laws of predictive grammars.
use Rattle.std.specs.Prelude.{◌≡◌, ◌⊎◌, ◌↔◌, ◌+◌, ◌-◌, ◌<◌, ◌≤◌, ℕ, suc, true, false, List, [], ◌∷◌, ◌++◌, Option, Some, None, Ok, Err, length}
use Rattle.grammar_laws.specs.Grammars.{many, down}
use Rattle.grammar_laws.specs.Phrases.{IsPhrase, has_room, less_one}
use Rattle.grammar_laws.specs.Prediction.{begins, empty_of, first_of, goes_on}
use Rattle.grammar_laws.specs.Reading.{Refusal, Syntax, Limit, read, read_more}
use Rattle.grammar_laws.specs.Definitions.{Definition, Tokens, IsSentence, IsSentenceIn, read_sentence, read_sentence_alone}

-- What is read is a sentence that keeps the bounds, and the rest is what follows it.
abbrev pub ReadsSentences : Definition → Type 0
ReadsSentences D = (levels budget : ℕ) (tokens : Tokens D) (value : D.Value) (left : ℕ) (rest : Tokens D)
    → read_sentence D levels budget tokens ≡ Ok (value, left, rest)
    → (front : Tokens D) × (tokens ≡ front ++ rest) × IsSentence D levels budget front value

-- no sentence goes on with what these tokens begin with
abbrev pub Ends : (D : Definition) → Tokens D → Type 0
Ends D more = begins D.words (goes_on D.ends D.grammar) more ≡ false

-- Each sentence that keeps the bounds is read whole, where what follows doesn't go on with it.
abbrev pub ReadsEachSentence : Definition → Type 0
ReadsEachSentence D = (levels budget : ℕ) (tokens : Tokens D) (value : D.Value) → IsSentence D levels budget tokens value → (more : Tokens D) → Ends D more
    → (left : ℕ) × (read_sentence D levels budget (tokens ++ more) ≡ Ok (value, left, more))

-- Each sentence at all is read whole or meets a limit, at one of its tokens and behind those in which it keeps the bounds.
abbrev pub ReadsOrMeetsLimit : Definition → Type 0
ReadsOrMeetsLimit D = (levels budget kept : ℕ) (tokens : Tokens D) (value : D.Value) → IsSentenceIn D levels budget kept tokens value → (more : Tokens D) → Ends D more
    → ((left : ℕ) × (read_sentence D levels budget (tokens ++ more) ≡ Ok (value, left, more)))
    ⊎
    ((rest : Tokens D) × (read_sentence D levels budget (tokens ++ more) ≡ Err (Limit, rest)) × (kept + length rest ≤ length tokens + length more) × (length more < length rest))

-- An answer hangs on no token behind the first of its rest.
abbrev pub FindsOneAhead : Definition → Type 0
FindsOneAhead D = (levels budget : ℕ) (front back : Tokens D) (t : D.words.Token) (us vs : Tokens D) (value : D.Value) (left : ℕ)
    → read_sentence D levels budget (front ++ (t ∷ us)) ≡ Ok (value, left, back ++ (t ∷ us))
    → read_sentence D levels budget (front ++ (t ∷ vs)) ≡ Ok (value, left, back ++ (t ∷ vs))

abbrev pub RefusesOneAhead : Definition → Type 0
RefusesOneAhead D = (levels budget : ℕ) (front back : Tokens D) (t : D.words.Token) (us vs : Tokens D) (kind : Refusal)
    → read_sentence D levels budget (front ++ (t ∷ us)) ≡ Err (kind, back ++ (t ∷ us))
    → read_sentence D levels budget (front ++ (t ∷ vs)) ≡ Err (kind, back ++ (t ∷ vs))

-- Tokens in place of the refused rest: any where the refusal is Syntax, and at Limit such that begin with the refused token.
abbrev pub Continues : {X : Type 0} → Refusal → (rest more : List X) → Type 0
Continues Syntax rest more = Unit {0}
Continues {X} Limit rest more = (t : X) × (us vs : List X) × (rest ≡ t ∷ us) × (more ≡ t ∷ vs)

-- Tokens that begin as the rest does: with its first token, or there are none.
abbrev pub BeginsAs : {X : Type 0} → (rest more : List X) → Type 0
BeginsAs [] more = more ≡ []
BeginsAs {X} (t ∷ us) more = (vs : List X) × (more ≡ t ∷ vs)

-- In how many tokens a sentence would have to keep the bounds to refute a refusal behind so many tokens: at Syntax in none,
-- and at Limit in these and the refused one.
abbrev pub refuted_by : Refusal → (before : ℕ) → ℕ
refuted_by Syntax before = 0
refuted_by Limit before = suc before

-- The tokens of `front` begin a sentence that keeps the bounds in them, and at Limit one that goes on with the refused token.
-- No sentence begins with them and the refused token, and at Limit none that keeps the bounds so far.
-- What completes `front` need not keep the bounds, and can't always: behind the separator of a full list each member is
-- one too many, and yet the place that is refused is the token that begins this member, and not the separator.
pub record IsFirstPlace (D : Definition) (levels budget : ℕ) (front : Tokens D) (kind : Refusal) (rest : Tokens D) : Type 0 where
  pub begun : (more : Tokens D) × (value : D.Value) × Continues kind rest more × IsSentenceIn D levels budget (length front) (front ++ more) value
  pub stopped : (more : Tokens D) (value : D.Value) → BeginsAs rest more → IsSentenceIn D levels budget (refuted_by kind (length front)) (front ++ more) value → ⊥

-- the rest stands at the first place of the tokens that is refused
abbrev pub IsFirstRefused : (D : Definition) → (levels budget : ℕ) → (tokens : Tokens D) → Refusal → (rest : Tokens D) → Type 0
IsFirstRefused D levels budget tokens kind rest = (front : Tokens D) × (tokens ≡ front ++ rest) × IsFirstPlace D levels budget front kind rest

-- A refusal is at the first place.
abbrev pub RefusesFirstPlace : Definition → Type 0
RefusesFirstPlace D = (levels budget : ℕ) (tokens : Tokens D) (kind : Refusal) (rest : Tokens D)
    → read_sentence D levels budget tokens ≡ Err (kind, rest) → IsFirstRefused D levels budget tokens kind rest

-- Of all tokens a value is read exactly where they are a sentence with it.
abbrev pub ReadsExactlySentences : Definition → Type 0
ReadsExactlySentences D = (levels budget : ℕ) (tokens : Tokens D) (value : D.Value)
    → (read_sentence_alone D levels budget tokens ≡ Ok value) ↔ IsSentence D levels budget tokens value

-- Of all tokens the refusal is exactly the first place.
abbrev pub RefusesExactlyFirstPlace : Definition → Type 0
RefusesExactlyFirstPlace D = (levels budget : ℕ) (tokens : Tokens D) (kind : Refusal) (rest : Tokens D)
    → (read_sentence_alone D levels budget tokens ≡ Err (kind, rest)) ↔ IsFirstRefused D levels budget tokens kind rest

-- Tokens have at most one value.
abbrev pub HasOneValue : Definition → Type 0
HasOneValue D = (levels budget : ℕ) (tokens : Tokens D) (x y : D.Value) → IsSentence D levels budget tokens x → IsSentence D levels budget tokens y → x ≡ y

-- A sentence that keeps the bounds in each of its tokens keeps all bounds.
abbrev pub KeepsThroughout : Definition → Type 0
KeepsThroughout D =
    (levels budget : ℕ) (tokens : Tokens D) (value : D.Value) → IsSentenceIn D levels budget (length tokens) tokens value → IsSentence D levels budget tokens value

-- Bounds that are kept in some tokens are kept in fewer.
abbrev pub KeepsInFewer : Definition → Type 0
KeepsInFewer D =
    (levels budget kept fewer : ℕ) (tokens : Tokens D) (value : D.Value) → fewer ≤ kept → IsSentenceIn D levels budget kept tokens value → IsSentenceIn D levels
    budget fewer tokens value

-- A list has no more members than its limit.
abbrev pub KeepsLimit : Definition → Type 0
KeepsLimit D = (levels budget limit : ℕ) (lead : Option D.words.Class) (tokens : Tokens D) (values : List D.Value)
    → IsPhrase D.rules levels budget (many (Some limit) lead D.grammar) tokens values → length values ≤ limit

-- What is read takes a token, where no sentence is empty.
abbrev pub TakesToken : Definition → Type 0
TakesToken D = empty_of D.grammar ≡ None → (levels budget : ℕ) (tokens : Tokens D) (value : D.Value) (left : ℕ) (rest : Tokens D)
    → read_sentence D levels budget tokens ≡ Ok (value, left, rest) → length rest < length tokens

-- A list is read a member at a time.
abbrev pub ReadsMembersInTurn : Definition → Type 0
ReadsMembersInTurn D = empty_of D.grammar ≡ None → (levels budget : ℕ) (limit : Option ℕ) (lead : Option D.words.Class) (tokens : Tokens D)
    → read D.rules levels (many limit lead D.grammar) budget tokens
    ≡ read_more D.words lead (first_of D.grammar) (read D.rules levels D.grammar) (has_room limit) (read D.rules levels (many (less_one limit) lead D.grammar))
    budget tokens

-- A token that opens a level is refused with no level left, and else its sort is read behind it with one fewer.
abbrev pub OpensLevels : Definition → Type 0
OpensLevels D = (levels budget cost : ℕ) (c : D.words.Class) (sort : D.words.Sort) (t : D.words.Token) (tokens : Tokens D) → D.words.is_of c t ≡ true → cost ≤ budget
    → (levels ≡ 0 → read D.rules levels (down cost c sort) budget (t ∷ tokens) ≡ Err (Limit, t ∷ tokens))
    × (0 < levels → read D.rules levels (down cost c sort) budget (t ∷ tokens) ≡ read D.rules (levels - 1) (D.rules sort) (budget - cost) tokens)
