-- Where a script is refused, and why.
use Rattle.std.specs.Prelude.{ℕ, nat_le, not, ◌&&◌, Bool, true, false, if◌then◌else◌, List, [], ◌∷◌, Option, None, Some, is_none}
use Rattle.grammar_laws.specs.Reading.{Refusal, Syntax, Limit}
use Rattle.sql_tokens.specs.declared.faults.BadToken.{BadToken}
use Rattle.sql_tokens.specs.declared.faults.ParseKind.{ParseKind}
use Rattle.sql_tokens.specs.declared.faults.ParseKind.TheVariants as bad
use Rattle.sql_tokens.specs.declared.lexemes.Lexed.{Lexed}
use Rattle.sql_tokens.specs.declared.lexemes.Lexeme.{Lexeme}
use Rattle.sql_tokens.specs.declared.lexemes.Lexeme.TheVariants as lexeme
use Rattle.sql_tokens.specs.declared.faults.ParseFault.{ParseFault}
use Rattle.sql_tokens.specs.declared.faults.ParseFault.TheVariants as fault
use Rattle.sql_tokens.specs.Places.{bad_of}
use Rattle.sql_parser.specs.declared.stops.Stop.{Stop}
use Rattle.sql_parser.specs.declared.stops.Stop.TheVariants as stop
use Rattle.sql_parser.specs.Ahead.{Ahead, refusal_of}
use Rattle.sql_parser.specs.Grammar.{most_number}

-- a number that may stand behind a minus at most
abbrev pub is_big : Lexeme → Bool
is_big (lexeme.Number n) = not (nat_le n most_number)
is_big _ = false

abbrev pub kind_of : Refusal → ParseKind
kind_of Syntax = bad.Syntax
kind_of Limit = bad.Limit

-- A big number is refused as such, whatever may stand there.
abbrev pub kind_at : Refusal → Lexeme → ParseKind
kind_at kind x = if is_big x then bad.BigNumber else kind_of kind

abbrev pub refused_token : Refusal → Lexed → BadToken
refused_token kind t = record { place = t.start; kind = kind_at kind t.lexeme }

-- What is refused where the tokens end: the bytes behind them that are no token, or the end of all bytes.
abbrev pub refused_end : ℕ → Option BadToken → BadToken
refused_end bytes (Some at) = at
refused_end bytes None = record { place = bytes; kind = bad.Syntax }

-- the same of what is ahead of a parser
abbrev pub refused_in : Refusal → ℕ → Option BadToken → List Lexed → BadToken
refused_in kind bytes refused [] = refused_end bytes refused
refused_in kind bytes refused (t ∷ ts) = refused_token kind t

abbrev pub refused_next : Refusal → Ahead → BadToken
refused_next kind now = refused_in kind now.ending.bytes now.ending.refused now.tokens

abbrev pub is_nil : List Lexed → Bool
is_nil [] = true
is_nil (t ∷ ts) = false

-- no token is left, and nothing behind the tokens
abbrev pub is_all_read : Ahead → Bool
is_all_read now = is_nil now.tokens && is_none now.ending.refused

-- the fault where the parser was stopped at what is ahead
abbrev pub fault_of : List ℕ → Ahead → Stop → ParseFault
fault_of bytes now (stop.Refused kind) = fault.Refused (bad_of bytes (refused_next (refusal_of kind) now))
fault_of bytes now stop.NoMemory = fault.NoMemory
