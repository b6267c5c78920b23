-- The tokens of a script's bytes, in order, up to the end or to the first place that is no token.
use Rattle.std.specs.Prelude.{ℕ, suc, zero, ◌+◌, ◌-◌, ◌<◌, ◌≤◌, List, [], ◌∷◌, Option, None, Some, drop}
use Rattle.sql_tokens.specs.declared.faults.BadToken.{BadToken}
use Rattle.sql_tokens.specs.declared.lexemes.Lexed.{Lexed}
use Rattle.sql_tokens.specs.declared.lexemes.Next.{Next}
use Rattle.sql_tokens.specs.declared.lexemes.Next.TheVariants.{Token, End, Refused}
use Rattle.sql_tokens.specs.declared.fronts.Front.{Front}
use Rattle.sql_tokens.specs.declared.fronts.Front.TheVariants as fronts
use Rattle.sql_tokens.specs.Tokens.{IsTokenFault, gap, front}

pub record Scan : Type 0 where
  pub tokens : List Lexed
  pub refused : Option BadToken

-- a token and those behind it
abbrev pub token_before : Lexed → Scan → Scan
token_before t rest = record { tokens = t ∷ rest.tokens; refused = rest.refused }

-- no token more
abbrev pub scan_end : Scan
scan_end = record { tokens = []; refused = None }

-- no token more, but bytes that are none
abbrev pub scan_refused : BadToken → Scan
scan_refused at = record { tokens = []; refused = Some at }

-- What stands at a place, by the gap or the token there, and then the tokens behind it, by how many bytes it has.
abbrev pub scan_next : ℕ → Option ℕ → Front → (ℕ → Scan) → Scan
scan_next place (Some size) x behind = behind size
scan_next place None (fronts.Token x size) behind = token_before (record { start = place; end = place + size; lexeme = x }) (behind size)
scan_next place None (fronts.Bad kind) behind = scan_refused (record { place = place; kind = kind })

-- The tokens of bytes whose first stands at the place, once `passed` of them are passed.
unfoldable pub scan_behind : ℕ → ℕ → List ℕ → Scan
scan_behind place passed [] = scan_end
scan_behind place (suc passed) (b ∷ rest) = scan_behind (place + 1) passed rest
scan_behind place zero (b ∷ rest) = scan_next place (gap (b ∷ rest)) (front (b ∷ rest)) (λ size. scan_behind (place + 1) (size - 1) rest)

-- The tokens of bytes whose first stands at the place.
unfoldable pub scan : ℕ → List ℕ → Scan
scan place bytes = scan_behind place 0 bytes

-- The tokens of the bytes from a place on.
abbrev pub scan_at : ℕ → List ℕ → Scan
scan_at from bytes = scan from (drop from bytes)

-- The tokens where this stands next.
abbrev pub begun : Next → List ℕ → Scan
begun (Token t) bytes = token_before t (scan_at t.end bytes)
begun End bytes = scan_end
begun (Refused at) bytes = scan_refused at

-- a token has a byte at least, and ends within the bytes
abbrev pub IsBehind : ℕ → ℕ → Next → Type 0
IsBehind from len (Token t) = (from ≤ t.start) × (t.start < t.end) × (t.end ≤ len)
IsBehind from len End = Unit {0}
IsBehind from len (Refused at) = (from ≤ at.place) × (at.place < len)

-- bytes are refused only where they are no token
abbrev pub RefusesByTokenFault : Next → Type 0
RefusesByTokenFault (Refused at) = IsTokenFault at.kind
RefusesByTokenFault next = Unit {0}
