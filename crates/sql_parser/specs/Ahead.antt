-- What a parser has ahead, and how it reads a part of the grammar.
use Rattle.std.specs.Prelude.{◌≡◌, ℕ, Bool, List, [], ◌∷◌, Option, Some, None, Result, Ok, Err, length}
use Rattle.grammar_laws.specs.Prediction.{begins}
use Rattle.grammar_laws.specs.Reading.{Answer, Refusal, Syntax, Limit, read}
use Rattle.sql_tokens.specs.declared.faults.BadToken.{BadToken}
use Rattle.sql_tokens.specs.declared.lexemes.Lexed.{Lexed}
use Rattle.sql_tokens.specs.declared.lexemes.Lexeme.{Lexeme}
use Rattle.sql_tokens.specs.declared.lexemes.Next.{Next}
use Rattle.sql_tokens.specs.Scans.{begun}
use Rattle.sql_parser.specs.declared.stops.Limits.{Limits}
use Rattle.sql_parser.specs.declared.stops.Limits.TheVariants as limits
use Rattle.sql_parser.specs.declared.stops.Stop.{Stop}
use Rattle.sql_parser.specs.declared.stops.Stop.TheVariants as stop
use Rattle.sql_parser.specs.Classes.{Class, words}
use Rattle.sql_parser.specs.Grammar.{Form, rules}

-- What stands behind the tokens of a script: bytes that are no token, or nothing; and how many bytes there are in all.
pub record Ending : Type 0 where
  pub refused : Option BadToken
  pub bytes : ℕ

-- The tokens ahead, what stands behind them, and how many operators the expression may still have.
pub record Ahead : Type 0 where
  pub tokens : List Lexed
  pub ending : Ending
  pub operators : ℕ

abbrev pub ahead_of : Next → List ℕ → ℕ → Ahead
ahead_of next bytes operators =
    let s = begun next bytes in
    record { tokens = s.tokens; ending = record { refused = s.refused; bytes = length bytes }; operators = operators }

abbrev pub refusal_of : Limits → Refusal
refusal_of limits.Syntax = Syntax
refusal_of limits.Limit = Limit

-- reads a part with so many levels
abbrev pub reading : {A : Type 0} → (levels : ℕ) → Form A → Ahead → Answer Lexed A
reading levels g before = read rules levels g before.operators before.tokens

-- how many parentheses and NOTs may stand round a token of an expression
unfoldable pub most_levels : ℕ
most_levels = 100

abbrev pub Stops : {A : Type 0} → Stop → Ahead → Answer Lexed A → Type 0
Stops (stop.Refused kind) after read = read ≡ Err (refusal_of kind, after.tokens)
Stops stop.NoMemory after read = Unit {0}

-- What a function answered, seen by `view`, with what is ahead of it then, is what reading gives, unless memory ran out.
abbrev pub Gives : {X A : Type 0} → (X → A) → Result X Stop → Ahead → Answer Lexed A → Type 0
Gives view (Ok x) after read = read ≡ Ok (view x, after.operators, after.tokens)
Gives view (Err s) after read = Stops s after read

-- whether the next token is of one of the classes
abbrev pub is_at : List Class → Ahead → Bool
is_at classes before = begins words classes before.tokens

abbrev pub next_lexeme_in : List Lexed → Option Lexeme
next_lexeme_in [] = None
next_lexeme_in (t ∷ ts) = Some t.lexeme

abbrev pub behind_first : List Lexed → List Lexed
behind_first [] = []
behind_first (t ∷ ts) = ts
