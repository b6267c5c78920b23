-- What a script is: bytes whose tokens are a sentence of the grammar, and where bytes that are none are refused.
use Rattle.std.specs.Prelude.{◌≡◌, ◌⊎◌, ◌↔◌, ◌+◌, ◌<◌, ◌≤◌, ◌^◌, ℕ, List, [], ◌∷◌, None, Some, Result, Ok, Err, length, Bool, true}
use Rattle.std.specs.List.{list_all}
use Rattle.grammar_laws.specs.Definitions.{IsSentence, read_sentence_alone}
use Rattle.grammar_laws.specs.Laws.{IsFirstRefused}
use Rattle.grammar_laws.specs.Reading.{Refusal, Refused}
use Rattle.sql_model.specs.declared.scripts.Step.{Step}
use Rattle.sql_model.specs.declared.scripts.Step.TheVariants.{One, Parallel}
use Rattle.sql_model.specs.declared.statements.Statement.{Statement}
use Rattle.sql_tokens.specs.declared.faults.BadToken.{BadToken}
use Rattle.sql_tokens.specs.declared.faults.ScriptBad.{ScriptBad}
use Rattle.sql_tokens.specs.declared.lexemes.Lexed.{Lexed}
use Rattle.sql_tokens.specs.Places.{bad_of}
use Rattle.sql_tokens.specs.Scans.{Scan, scan_at}
use Rattle.sql_parser.specs.Ahead.{most_levels}
use Rattle.sql_parser.specs.Language.{sql}
use Rattle.sql_parser.specs.Refusals.{refused_token, refused_end}

-- The bytes are all tokens, and these are a script.
pub record IsScript (bytes : List ℕ) (steps : List Step) : Type 0 where
  pub all_tokens : (scan_at 0 bytes).refused ≡ None
  pub sentence : IsSentence sql most_levels 0 (scan_at 0 bytes).tokens steps

-- Each step is one statement, of a session from 1 to 16, and their places follow each other from this one on.
abbrev pub AreNumberedFrom : ℕ → List Step → Type 0
AreNumberedFrom place [] = Unit {0}
AreNumberedFrom place (One n ∷ steps) = (n.place ≡ place) × (1 ≤ n.session) × (n.session ≤ 16) × AreNumberedFrom (place + 1) steps
AreNumberedFrom place (Parallel group ∷ steps) = ⊥

-- The steps are single statements of the sessions 1 to 16, numbered from 1, and their places have 32 bits.
pub record AreNumbered (steps : List Step) : Type 0 where
  pub in_turn : AreNumberedFrom 1 steps
  pub few : length steps < 2 ^ 32

-- a step all of whose statements pass a test
abbrev pub all_of_step : (Statement → Bool) → Step → Bool
all_of_step test (One n) = test n.statement
all_of_step test (Parallel group) = list_all (λ n. test n.statement) group

-- each statement of the steps passes the test
abbrev pub AllStatements : (Statement → Bool) → List Step → Type 0
AllStatements test steps = list_all (all_of_step test) steps ≡ true

-- The token from which on the tokens begin no script, or the end of all tokens if they are no script, or bytes behind
-- all tokens that are no token.
abbrev pub RefusedBehind : List ℕ → Scan → (rest : List Lexed) → Refusal → BadToken → Type 0
RefusedBehind bytes s (t ∷ ts) kind at = at ≡ refused_token kind t
RefusedBehind bytes s [] kind at = at ≡ refused_end (length bytes) s.refused

-- The first place at which the bytes are refused.
abbrev pub IsRefusedAt : List ℕ → BadToken → Type 0
IsRefusedAt bytes at =
    let s = scan_at 0 bytes in
    ((kind : Refusal) × (rest : List Lexed) × IsFirstRefused sql most_levels 0 s.tokens kind rest × RefusedBehind bytes s rest kind at)
    ⊎
    ((steps : List Step) × IsSentence sql most_levels 0 s.tokens steps × (s.refused ≡ Some at))

-- the same as the line and the column
abbrev pub IsRefused : List ℕ → ScriptBad → Type 0
IsRefused bytes refusal = (at : BadToken) × IsRefusedAt bytes at × (refusal ≡ bad_of bytes at)

-- The answer for bytes, as it is computed from reading their tokens.
abbrev pub judged : List ℕ → Scan → Result (List Step) (Refused Lexed) → Result (List Step) BadToken
judged bytes s (Ok steps) = elim s.refused [ None ↦ Ok steps | Some at ↦ Err at ]
judged bytes s (Err (kind, [])) = Err (refused_end (length bytes) s.refused)
judged bytes s (Err (kind, t ∷ ts)) = Err (refused_token kind t)

abbrev pub placed : List ℕ → Result (List Step) BadToken → Result (List Step) ScriptBad
placed bytes (Ok steps) = Ok steps
placed bytes (Err at) = Err (bad_of bytes at)

-- the script, or where the bytes are refused
unfoldable pub script_of : List ℕ → Result (List Step) ScriptBad
script_of bytes = let s = scan_at 0 bytes in placed bytes (judged bytes s (read_sentence_alone sql most_levels 0 s.tokens))

-- A script is answered exactly where the bytes are that script.
abbrev pub ReadsExactlyScripts : Type 0
ReadsExactlyScripts = (bytes : List ℕ) (steps : List Step) → (script_of bytes ≡ Ok steps) ↔ IsScript bytes steps

-- Bytes are refused exactly at the first place.
abbrev pub RefusesFirstPlace : Type 0
RefusesFirstPlace = (bytes : List ℕ) (refusal : ScriptBad) → (script_of bytes ≡ Err refusal) ↔ IsRefused bytes refusal

-- Bytes are one script at most, are refused at one place at most, and not both.
abbrev pub HasOneAnswer : Type 0
HasOneAnswer =
    ((bytes : List ℕ) (x y : List Step) → IsScript bytes x → IsScript bytes y → x ≡ y)
    × ((bytes : List ℕ) (x y : ScriptBad) → IsRefused bytes x → IsRefused bytes y → x ≡ y)
    × ((bytes : List ℕ) (x : List Step) (y : ScriptBad) → IsScript bytes x → IsRefused bytes y → ⊥)

-- The steps of every script are single statements of the sessions 1 to 16, numbered from 1.
abbrev pub NumbersScripts : Type 0
NumbersScripts = (bytes : List ℕ) (steps : List Step) → script_of bytes ≡ Ok steps → AreNumbered steps
