-- The list of a script's tokens as `tokens` answers it.
use Rattle.std.specs.Prelude.{◌≡◌, ◌<◌, ◌≤◌, ℕ, List, [], ◌∷◌, Option, Some, option_map}
use Rattle.sql_tokens.specs.declared.faults.ParseFault.{ParseFault}
use Rattle.sql_tokens.specs.declared.faults.ParseFault.TheVariants.{Refused, NoMemory}
use Rattle.sql_tokens.specs.declared.faults.ScriptBad.{ScriptBad}
use Rattle.sql_tokens.specs.declared.lexemes.Lexed.{Lexed}
use Rattle.sql_tokens.specs.declared.lexemes.Lexeme.{Lexeme}
use Rattle.sql_tokens.specs.declared.lexemes.Lexeme.TheVariants as lexeme
use Rattle.sql_tokens.specs.declared.listing.Token.{Token}
use Rattle.sql_tokens.specs.declared.listing.TokenKind.{TokenKind}
use Rattle.sql_tokens.specs.declared.listing.TokenKind.TheVariants as kind
use Rattle.sql_tokens.specs.Tokens.{IsTokenFault, keyword_text, sign_text}
use Rattle.sql_tokens.specs.Places.{bad_of}
use Rattle.sql_tokens.specs.Scans.{scan}

-- a keyword and a sign as they are spelled
abbrev pub kind_of : Lexeme → TokenKind
kind_of (lexeme.Name name) = kind.Name name
kind_of (lexeme.Keyword keyword) = kind.Keyword (keyword_text keyword)
kind_of (lexeme.Number number) = kind.Number number
kind_of (lexeme.Text text) = kind.Text text
kind_of (lexeme.Session session) = kind.Session session
kind_of (lexeme.Sign sign) = kind.Sign (sign_text sign)

abbrev pub token_of : Lexed → Token
token_of t = record { start = t.start; end = t.end; kind = kind_of t.lexeme }

-- The first place at which the bytes are no token, and why.
abbrev pub refusal_of : List ℕ → Option ScriptBad
refusal_of bytes = option_map (bad_of bytes) (scan 0 bytes).refused

-- The fault tells of this refusal. Want of memory tells nothing.
abbrev pub TellsOf : Option ScriptBad → ParseFault → Type 0
TellsOf refusal (Refused bad) = refusal ≡ Some bad
TellsOf refusal NoMemory = Unit {0}

-- bytes are refused only where they are no token
abbrev pub TellsTokenFault : ParseFault → Type 0
TellsTokenFault (Refused bad) = IsTokenFault bad.kind
TellsTokenFault NoMemory = Unit {0}

-- Between these places each token has a byte or more, and stands behind the one before.
abbrev pub AreInOrder : ℕ → ℕ → List Token → Type 0
AreInOrder from to [] = from ≤ to
AreInOrder from to (t ∷ tokens) = (from ≤ t.start) × (t.start < t.end) × AreInOrder t.end to tokens
