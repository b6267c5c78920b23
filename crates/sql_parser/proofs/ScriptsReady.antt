-- What the steps of every script are.
use Rattle.std.proofs.Common.{◌≡◌, refl, sym, subst, ◌∙◌, arith, ℕ, ◌<◌, ◌^◌, List, [], ◌∷◌, Option, None, Some, Result, Ok, Err, length}
use Rattle.grammar_laws.specs.Reading.{Answer}
use Rattle.sql_model.specs.declared.scripts.Step.{Step}
use Rattle.sql_tokens.specs.declared.faults.BadToken.{BadToken}
use Rattle.sql_tokens.specs.declared.lexemes.Lexed.{Lexed}
use Rattle.sql_tokens.specs.Scans.{Scan, scan_at}
use Rattle.sql_parser.specs.declared.scripts.Line.{Line}
use Rattle.sql_parser.specs.Ahead.{Ahead, reading, most_levels}
use Rattle.sql_parser.specs.Grammar.{lines, steps_from}
use Rattle.sql_parser.specs.Scripts.{AreNumbered, placed, script_of}
use Rattle.sql_parser.proofs.Judging.{answer, few_lines, from_lines}
use Rattle.sql_parser.proofs.ReadLines.{AreReady, steps_ready}

-- at the first token of the bytes
abbrev at_first : List ℕ → Ahead
at_first bytes =
    let s = scan_at 0 bytes in
    record { tokens = s.tokens; ending = record { refused = s.refused; bytes = length bytes }; operators = 0 }

-- behind the last token
abbrev behind_last : List ℕ → ℕ → Ahead
behind_last bytes operators = record (at_first bytes) { tokens = []; operators = operators }

-- the lines were read to the end of all tokens, and are the steps
record AreLines (steps : List Step) (read : Answer Lexed (List Line)) : Type 0 where
  lines : List Line
  operators : ℕ
  whole : read ≡ Ok (lines, operators, [])
  same : steps ≡ steps_from 1 lines

none_behind : (bytes : List ℕ) (xs steps : List Step) (refused : Option BadToken)
    → placed bytes (elim refused as (λ _. Result (List Step) BadToken) [ None ↦ Ok xs | Some at ↦ Err at ]) ≡ Ok steps → steps ≡ xs
none_behind bytes xs steps None is = cc
none_behind bytes xs steps (Some at) is = absurd cc

are_lines : (bytes : List ℕ) (s : Scan) (read : Answer Lexed (List Line)) (steps : List Step) → answer bytes s read ≡ Ok steps → AreLines steps read
are_lines bytes s (Ok (xs, n, [])) steps is = record { lines = xs; operators = n; whole = refl; same = none_behind bytes (steps_from 1 xs) steps s.refused is }
are_lines bytes s (Ok (xs, n, t ∷ ts)) steps is = absurd cc
are_lines bytes s (Err (kind, [])) steps is = absurd cc
are_lines bytes s (Err (kind, t ∷ ts)) steps is = absurd cc

pub script_ready : (bytes : List ℕ) (steps : List Step) → script_of bytes ≡ Ok steps → AreReady steps
script_ready bytes steps is =
    let first = at_first bytes in
    let from = from_lines bytes first (record { tokens = refl; refused = refl; bytes_are = refl; operators = refl }) in
    let read = are_lines bytes (scan_at 0 bytes) (reading most_levels lines first) steps (sym from ∙ is) in
    let last = behind_last bytes read.operators in
    let few = few_lines first last read.lines read.whole in
    steps_ready bytes first last read.lines steps refl read.whole (omega (arith, few)) read.same

pub script_numbered : (bytes : List ℕ) (steps : List Step) → script_of bytes ≡ Ok steps → AreNumbered steps
script_numbered bytes steps is = (script_ready bytes steps is).numbered
