-- What stands at the front of a script's bytes: a gap between tokens, a token with the number of its bytes, or what is
-- wrong with bytes that are no token.
use Rattle.std.specs.Prelude.{ℕ, ◌<◌, ◌≤◌, ◌+◌, ◌*◌, ◌-◌, ◌==◌, Bool, false, not, ◌&&◌, ◌||◌, nat_eq, nat_le, List, [], ◌∷◌, map, fold, length, take, drop, min, Option, None, Some, is_some, if◌then◌else◌, codes}
use Rattle.std.specs.List.{find, prefix_len}
use Rattle.std.specs.Str.{is_utf8}
use Rattle.std.specs.Cmp.Lexicographic.{pointwise}
use Rattle.sql_tokens.specs.declared.faults.ParseKind.{ParseKind}
use Rattle.sql_tokens.specs.declared.faults.ParseKind.TheVariants.{BadChar, OpenText, NotUtf8, LongText, LongName, BigNumber, Limit, Syntax}
use Rattle.sql_tokens.specs.declared.fronts.Front.{Front}
use Rattle.sql_tokens.specs.declared.fronts.Front.TheVariants.{Token, Bad}
use Rattle.sql_tokens.specs.declared.keywords.Keyword.{Keyword}
use Rattle.sql_tokens.specs.declared.keywords.Keyword.TheVariants as key
use Rattle.sql_tokens.specs.declared.lexemes.Lexeme.{Lexeme}
use Rattle.sql_tokens.specs.declared.lexemes.Lexeme.TheVariants as token
use Rattle.sql_tokens.specs.declared.signs.Sign.{Sign}
use Rattle.sql_tokens.specs.declared.signs.Sign.TheVariants as sign

-- what can be wrong with the bytes of a token
abbrev pub IsTokenFault : ParseKind → Type 0
IsTokenFault BigNumber = ⊥
IsTokenFault Limit = ⊥
IsTokenFault Syntax = ⊥
IsTokenFault kind = Unit {0}

-- A token has a byte at least, and at most so many.
abbrev pub IsWithin : ℕ → Front → Type 0
IsWithin len (Token x size) = (0 < size) × (size ≤ len)
IsWithin len (Bad kind) = IsTokenFault kind

-- bytes

abbrev pub is_between : ℕ → ℕ → ℕ → Bool
is_between low high b = nat_le low b && nat_le b high

-- a tab, a line feed, a carriage return or a space
abbrev pub is_blank : ℕ → Bool
is_blank b = b == 9 || b == 10 || b == 13 || b == 32

abbrev pub is_digit : ℕ → Bool
is_digit b = is_between 48 57 b

-- a letter or an underscore
abbrev pub is_letter : ℕ → Bool
is_letter b = is_between 65 90 b || is_between 97 122 b || b == 95

-- a byte that a name goes on with
abbrev pub is_word : ℕ → Bool
is_word b = is_letter b || is_digit b

-- a byte that a comment goes on with: any but a line feed
abbrev pub is_in_line : ℕ → Bool
is_in_line b = not (b == 10)

-- the lower case of a letter
abbrev pub folded : ℕ → ℕ
folded b = if is_between 65 90 b then b + 32 else b

abbrev pub same_bytes : List ℕ → List ℕ → Bool
same_bytes = pointwise nat_eq

-- the first byte passes the test
abbrev pub begins_with : (ℕ → Bool) → List ℕ → Bool
begins_with test [] = false
begins_with test (b ∷ bytes) = test b

-- names and keywords

abbrev pub keyword_text : Keyword → List ℕ
keyword_text key.And = codes "and"
keyword_text key.As = codes "as"
keyword_text key.Asc = codes "asc"
keyword_text key.Begin = codes "begin"
keyword_text key.By = codes "by"
keyword_text key.Checkpoint = codes "checkpoint"
keyword_text key.Collect = codes "collect"
keyword_text key.Commit = codes "commit"
keyword_text key.Compact = codes "compact"
keyword_text key.Count = codes "count"
keyword_text key.Create = codes "create"
keyword_text key.Delete = codes "delete"
keyword_text key.Desc = codes "desc"
keyword_text key.Distribute = codes "distribute"
keyword_text key.From = codes "from"
keyword_text key.Group = codes "group"
keyword_text key.Inner = codes "inner"
keyword_text key.Insert = codes "insert"
keyword_text key.Int = codes "int"
keyword_text key.Into = codes "into"
keyword_text key.Is = codes "is"
keyword_text key.Join = codes "join"
keyword_text key.Limit = codes "limit"
keyword_text key.Max = codes "max"
keyword_text key.Min = codes "min"
keyword_text key.Not = codes "not"
keyword_text key.Null = codes "null"
keyword_text key.On = codes "on"
keyword_text key.Or = codes "or"
keyword_text key.Order = codes "order"
keyword_text key.Parallel = codes "parallel"
keyword_text key.Retain = codes "retain"
keyword_text key.Rollback = codes "rollback"
keyword_text key.Select = codes "select"
keyword_text key.Set = codes "set"
keyword_text key.Sum = codes "sum"
keyword_text key.Table = codes "table"
keyword_text key.Text = codes "text"
keyword_text key.Transaction = codes "transaction"
keyword_text key.Update = codes "update"
keyword_text key.Values = codes "values"
keyword_text key.Where = codes "where"

abbrev pub keywords : List Keyword
keywords =
    key.And ∷ key.As ∷ key.Asc ∷ key.Begin ∷ key.By ∷ key.Checkpoint ∷ key.Collect ∷ key.Commit ∷ key.Compact ∷
    key.Count ∷ key.Create ∷ key.Delete ∷ key.Desc ∷ key.Distribute ∷ key.From ∷ key.Group ∷ key.Inner ∷ key.Insert ∷
    key.Int ∷ key.Into ∷ key.Is ∷ key.Join ∷ key.Limit ∷ key.Max ∷ key.Min ∷ key.Not ∷ key.Null ∷ key.On ∷ key.Or ∷
    key.Order ∷ key.Parallel ∷ key.Retain ∷ key.Rollback ∷ key.Select ∷ key.Set ∷ key.Sum ∷ key.Table ∷ key.Text ∷
    key.Transaction ∷ key.Update ∷ key.Values ∷ key.Where ∷ []

-- the keyword that a name in lower case is
unfoldable pub keyword_of : List ℕ → Option Keyword
keyword_of name = find (λ keyword. same_bytes (keyword_text keyword) name) keywords

-- a name in lower case, which may be a keyword
abbrev pub name_or : List ℕ → Option Keyword → Lexeme
name_or name None = token.Name name
name_or name (Some keyword) = token.Keyword keyword

-- a name or a keyword has 64 bytes at most
unfoldable pub word : List ℕ → Front
word bytes =
    let size = prefix_len is_word bytes in
    let name = map folded (take size bytes) in
    if nat_le size 64 then Token (name_or name (keyword_of name)) size else Bad LongName

-- numbers

abbrev pub with_digit : ℕ → ℕ → ℕ
with_digit n digit = 10 * n + (digit - 48)

-- The number that digits spell. One above 2^63 counts as 2^63 + 1.
abbrev pub number_value : List ℕ → ℕ
number_value digits = min (fold with_digit 0 digits) 9223372036854775809

unfoldable pub number : List ℕ → Front
number bytes = let size = prefix_len is_digit bytes in Token (token.Number (number_value (take size bytes))) size

-- texts

-- Where the quote (39) stands that closes a text: the first that no other quote follows, where two that stand side
-- by side are passed as a pair. `behind_quote` says that the byte before is a quote, and not the second of a pair.
abbrev pub closing : ℕ → Bool → List ℕ → Option ℕ
closing place behind_quote [] = if behind_quote then Some (place - 1) else None
closing place behind_quote (b ∷ rest) =
    if b == 39 then closing (place + 1) (not behind_quote) rest
    else if behind_quote then Some (place - 1)
    else closing (place + 1) false rest

-- the bytes with each pair of quotes once
abbrev pub undoubled : Bool → List ℕ → List ℕ
undoubled behind_quote [] = []
undoubled behind_quote (b ∷ rest) =
    if behind_quote && b == 39 then undoubled false rest
    else b ∷ undoubled (b == 39) rest

-- a text is UTF-8 and has 4,096 bytes at most
unfoldable pub closed_text : List ℕ → ℕ → Front
closed_text value size =
    if not (is_utf8 value) then Bad NotUtf8
    else if nat_le (length value) 4096 then Token (token.Text value) size
    else Bad LongText

abbrev pub text_to : List ℕ → Option ℕ → Front
text_to rest None = Bad OpenText
text_to rest (Some quote) = closed_text (undoubled false (take quote rest)) (quote + 2)

-- the text whose opening quote stands right before these bytes
unfoldable pub text : List ℕ → Front
text rest = text_to rest (closing 0 false rest)

-- session marks

-- behind an `@` a letter from a to p in lower case, which no other byte of a name follows
unfoldable pub session : List ℕ → Front
session [] = Bad BadChar
session (b ∷ rest) = if is_between 97 112 b && not (begins_with is_word rest) then Token (token.Session (b - 96)) 2 else Bad BadChar

-- signs

abbrev pub sign_text : Sign → List ℕ
sign_text sign.OpenParenthesis = codes "("
sign_text sign.CloseParenthesis = codes ")"
sign_text sign.OpenBrace = codes "{"
sign_text sign.CloseBrace = codes "}"
sign_text sign.Comma = codes ","
sign_text sign.Semicolon = codes ";"
sign_text sign.Dot = codes "."
sign_text sign.Star = codes "*"
sign_text sign.Plus = codes "+"
sign_text sign.Minus = codes "-"
sign_text sign.Equal = codes "="
sign_text sign.NotEqual = codes "<>"
sign_text sign.LessOrEqual = codes "<="
sign_text sign.GreaterOrEqual = codes ">="
sign_text sign.Less = codes "<"
sign_text sign.Greater = codes ">"

-- `!=` is another spelling of `<>`
abbrev pub double_signs : List (List ℕ × Sign)
double_signs =
    (codes "<>", sign.NotEqual) ∷ (codes "!=", sign.NotEqual) ∷ (codes "<=", sign.LessOrEqual) ∷
    (codes ">=", sign.GreaterOrEqual) ∷ []

abbrev pub single_signs : List (List ℕ × Sign)
single_signs =
    (codes "(", sign.OpenParenthesis) ∷ (codes ")", sign.CloseParenthesis) ∷ (codes "{", sign.OpenBrace) ∷
    (codes "}", sign.CloseBrace) ∷ (codes ",", sign.Comma) ∷ (codes ";", sign.Semicolon) ∷ (codes ".", sign.Dot) ∷
    (codes "*", sign.Star) ∷ (codes "+", sign.Plus) ∷ (codes "-", sign.Minus) ∷ (codes "=", sign.Equal) ∷
    (codes "<", sign.Less) ∷ (codes ">", sign.Greater) ∷ []

-- the sign of the list that is spelled so
abbrev pub sign_among : List (List ℕ × Sign) → List ℕ → Option Sign
sign_among [] spelling = None
sign_among (s ∷ signs) spelling = if same_bytes s.0 spelling then Some s.1 else sign_among signs spelling

unfoldable pub double_sign : ℕ → ℕ → Option Sign
double_sign b c = sign_among double_signs (b ∷ c ∷ [])

unfoldable pub single_sign : ℕ → Option Sign
single_sign b = sign_among single_signs (b ∷ [])

abbrev pub sign_or_bad : ℕ → Option Sign → Front
sign_or_bad size None = Bad BadChar
sign_or_bad size (Some s) = Token (token.Sign s) size

-- a sign and the number of its bytes, as what stands at the front
abbrev pub sized_sign_or_bad : Option (Sign × ℕ) → Front
sized_sign_or_bad None = Bad BadChar
sized_sign_or_bad (Some s) = Token (token.Sign s.0) s.1

-- the longest sign that fits
unfoldable pub sign_front : List ℕ → Front
sign_front [] = Bad BadChar
sign_front (b ∷ []) = sign_or_bad 1 (single_sign b)
sign_front (b ∷ c ∷ rest) = if is_some (double_sign b c) then sign_or_bad 2 (double_sign b c) else sign_or_bad 1 (single_sign b)

-- the token at the front of bytes that begin with no gap: 39 is a quote, and 64 an `@`
unfoldable pub front : List ℕ → Front
front bytes =
    if begins_with is_letter bytes then word bytes
    else if begins_with is_digit bytes then number bytes
    else if begins_with (λ b. b == 39) bytes then text (drop 1 bytes)
    else if begins_with (λ b. b == 64) bytes then session (drop 1 bytes)
    else sign_front bytes

-- gaps

abbrev pub is_dash : ℕ → Bool
is_dash b = b == 45

-- how many bytes a gap at the front has: one blank, or a comment from two dashes up to the end of its line
unfoldable pub gap : List ℕ → Option ℕ
gap bytes =
    if begins_with is_blank bytes then Some 1
    else if begins_with is_dash bytes && begins_with is_dash (drop 1 bytes) then Some (2 + prefix_len is_in_line (drop 2 bytes))
    else None
