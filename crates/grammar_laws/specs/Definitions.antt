-- The definition of a language: the grammar of its sentences, and what shows that one token tells how to go on.
use Rattle.std.specs.Prelude.{◌≡◌, ℕ, true, List, Result}
use Rattle.grammar_laws.specs.Grammars.{Words, Grammar, Rules}
use Rattle.grammar_laws.specs.Phrases.{IsPhrase, KeepsIn}
use Rattle.grammar_laws.specs.Prediction.{Classes, is_predictive, is_predictive_sort}
use Rattle.grammar_laws.specs.Reading.{Answer, Refused, read, read_all}

-- `rules` are the grammars of the sorts, and `grammar` is that of the sentences. `classes` tells of the classes of tokens,
-- and `ends` with which of them a phrase of each sort may go on.
pub record Definition : Type 1 where
  pub words : Words
  pub classes : Classes words
  pub rules : Rules words
  pub ends : words.Sort → List words.Class
  pub Value : Type 0
  pub grammar : Grammar words Value

-- One token tells how to go on. Each part is a test that computes.
pub record IsPredictive (D : Definition) : Type 0 where
  pub whole : is_predictive D.classes D.rules D.ends D.grammar ≡ true
  pub each : (sort : D.words.Sort) → is_predictive_sort D.classes D.rules D.ends sort ≡ true

abbrev pub Tokens : Definition → Type 0
Tokens D = List D.words.Token

-- the tokens are a sentence with this value, which keeps all bounds
abbrev pub IsSentence : (D : Definition) → (levels budget : ℕ) → Tokens D → D.Value → Type 0
IsSentence D levels budget tokens value = IsPhrase D.rules levels budget D.grammar tokens value

-- the same where the bounds are kept in the first `kept` tokens
abbrev pub IsSentenceIn : (D : Definition) → (levels budget kept : ℕ) → Tokens D → D.Value → Type 0
IsSentenceIn D levels budget kept tokens value = KeepsIn D.rules levels budget D.grammar kept tokens value

-- reads a sentence, behind which tokens may follow
abbrev pub read_sentence : (D : Definition) → (levels budget : ℕ) → Tokens D → Answer D.words.Token D.Value
read_sentence D levels budget tokens = read D.rules levels D.grammar budget tokens

-- reads a sentence of all tokens
abbrev pub read_sentence_alone : (D : Definition) → (levels budget : ℕ) → Tokens D → Result D.Value (Refused D.words.Token)
read_sentence_alone D levels budget tokens = read_all D.rules levels budget D.grammar tokens
