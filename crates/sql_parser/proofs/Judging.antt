-- What is answered for the bytes of a script, from reading its lines.
use Rattle.std.proofs.Common.{◌≡◌, refl, sym, ap, ◌∙◌, ℕ, suc, ◌≤◌, ◌&&◌, true, false, List, [], ◌∷◌, Option, None, Some, is_none, Result, Ok, Err, length, le_refl}
use Rattle.grammar_laws.specs.Phrases.{PhraseIn, Deeper}
use Rattle.grammar_laws.specs.Reading.{Answer, Refusal, Syntax, mapped, of_all, read, read_deeper}
use Rattle.grammar_laws.proofs.Kept.{members_in_limit}
use Rattle.grammar_laws.proofs.Sound.{sound_in, sound_deeper}
use Rattle.sql_model.specs.declared.scripts.Step.{Step}
use Rattle.sql_tokens.specs.declared.faults.BadToken.{BadToken}
use Rattle.sql_tokens.specs.declared.faults.ParseFault.{ParseFault}
use Rattle.sql_tokens.specs.declared.faults.ParseFault.TheVariants as fault
use Rattle.sql_tokens.specs.declared.faults.ScriptBad.{ScriptBad}
use Rattle.sql_tokens.specs.declared.lexemes.Lexed.{Lexed}
use Rattle.sql_tokens.specs.Places.{bad_of}
use Rattle.sql_tokens.specs.Scans.{Scan, scan_at}
use Rattle.sql_parser.specs.declared.scripts.Line.{Line}
use Rattle.sql_parser.specs.declared.stops.Stop.{Stop}
use Rattle.sql_parser.specs.declared.stops.Stop.TheVariants as stop
use Rattle.sql_parser.specs.Ahead.{Ahead, Ending, Stops, reading, refusal_of, most_levels}
use Rattle.sql_parser.specs.Classes.{words}
use Rattle.sql_parser.specs.Grammar.{rules, line, lines, script, steps_from, most_statements}
use Rattle.sql_parser.specs.Refusals.{refused_end, refused_in, refused_next, fault_of, is_nil, is_all_read}
use Rattle.sql_parser.specs.Scripts.{judged, placed, script_of}

-- The parser stands at the first token of the bytes.
pub record AtFirst (bytes : List ℕ) (first : Ahead) : Type 0 where
  pub tokens : first.tokens ≡ (scan_at 0 bytes).tokens
  pub refused : first.ending.refused ≡ (scan_at 0 bytes).refused
  pub bytes_are : first.ending.bytes ≡ length bytes
  pub operators : first.operators ≡ 0

pub few_lines : (before after : Ahead) (xs : List Line) → reading most_levels lines before ≡ Ok (xs, after.operators, after.tokens) → length xs ≤ most_statements
unfolding lines
few_lines before after xs reads =
    let (front, joined, p) =
    sound_in (read_deeper rules most_levels) (Deeper rules 0 most_levels) (sound_deeper rules 0 most_levels) lines before.operators before.tokens (xs, after.operators, after.tokens) reads in
    members_in_limit words None (PhraseIn (Deeper rules 0 most_levels) line) most_statements (suc (length front)) before.operators front xs after.operators (le_refl _) (p (suc (length front)))

-- the answer to what reading the lines gives
abbrev pub answer : List ℕ → Scan → Answer Lexed (List Line) → Result (List Step) ScriptBad
answer bytes s read = placed bytes (judged bytes s (of_all (mapped (steps_from 1) read)))

pub from_lines : (bytes : List ℕ) (first : Ahead) → AtFirst bytes first → script_of bytes ≡ answer bytes (scan_at 0 bytes) (reading most_levels lines first)
unfolding script_of script
from_lines bytes first at =
    let same = ap (λ n. answer bytes (scan_at 0 bytes) (read rules most_levels lines n (scan_at 0 bytes).tokens)) (sym at.operators) in
    same ∙ ap (λ ts. answer bytes (scan_at 0 bytes) (read rules most_levels lines first.operators ts)) (sym at.tokens)

nothing_behind : (bytes : List ℕ) (xs : List Step) (refused : Option BadToken) → is_none refused ≡ true
    → placed bytes (elim refused as (λ _. Result (List Step) BadToken) [ None ↦ Ok xs | Some at ↦ Err at ]) ≡ Ok xs
nothing_behind bytes xs None ends = refl
nothing_behind bytes xs (Some at) ends = absurd cc

something_behind : (bytes : List ℕ) (xs : List Step) (refused : Option BadToken) → is_none refused ≡ false
    → placed bytes (elim refused as (λ _. Result (List Step) BadToken) [ None ↦ Ok xs | Some at ↦ Err at ]) ≡ Err (bad_of bytes (refused_end (length bytes) refused))
something_behind bytes xs None ends = absurd cc
something_behind bytes xs (Some at) ends = refl

read_to_end : (bytes : List ℕ) (s : Scan) (xs : List Line) (n : ℕ) (ts : List Lexed) → is_nil ts && is_none s.refused ≡ true
    → answer bytes s (Ok (xs, n, ts)) ≡ Ok (steps_from 1 xs)
read_to_end bytes s xs n [] ends = nothing_behind bytes (steps_from 1 xs) s.refused ends
read_to_end bytes s xs n (t ∷ ts) ends = absurd cc

-- a script
pub all_read : (bytes : List ℕ) (first now : Ahead) (xs : List Line) → AtFirst bytes first → reading most_levels lines first ≡ Ok (xs, now.operators, now.tokens)
    → now.ending ≡ first.ending → is_all_read now ≡ true → script_of bytes ≡ Ok (steps_from 1 xs)
all_read bytes first now xs at reads same ends =
    let refused : now.ending.refused ≡ (scan_at 0 bytes).refused = ap (λ (e : Ending). e.refused) same ∙ at.refused in
    from_lines bytes first at ∙ ap (answer bytes (scan_at 0 bytes)) reads
    ∙ read_to_end bytes (scan_at 0 bytes) xs now.operators now.tokens (sym (ap (λ r. is_nil now.tokens && is_none r) refused) ∙ ends)

-- a refused place

not_to_end : (bytes : List ℕ) (s : Scan) (xs : List Line) (n : ℕ) (ts : List Lexed) → is_nil ts && is_none s.refused ≡ false
    → answer bytes s (Ok (xs, n, ts)) ≡ Err (bad_of bytes (refused_in Syntax (length bytes) s.refused ts))
not_to_end bytes s xs n [] left = something_behind bytes (steps_from 1 xs) s.refused left
not_to_end bytes s xs n (t ∷ ts) left = refl

refused_behind : (bytes : List ℕ) (s : Scan) (kind : Refusal) (ts : List Lexed) → answer bytes s (Err (kind, ts)) ≡ Err (bad_of bytes (refused_in kind (length bytes) s.refused ts))
refused_behind bytes s kind [] = refl
refused_behind bytes s kind (t ∷ ts) = refl

same_refusal : (bytes : List ℕ) (first now : Ahead) (kind : Refusal) → AtFirst bytes first → now.ending ≡ first.ending
    → refused_in kind (length bytes) (scan_at 0 bytes).refused now.tokens ≡ refused_next kind now
same_refusal bytes first now kind at same =
    let refused : (scan_at 0 bytes).refused ≡ now.ending.refused = sym (ap (λ (e : Ending). e.refused) same ∙ at.refused) in
    let size : length bytes ≡ now.ending.bytes = sym (ap (λ (e : Ending). e.bytes) same ∙ at.bytes_are) in
    ap (λ n. refused_in kind n (scan_at 0 bytes).refused now.tokens) size ∙ ap (λ r. refused_in kind now.ending.bytes r now.tokens) refused

pub left_over : (bytes : List ℕ) (first now : Ahead) (xs : List Line) → AtFirst bytes first → reading most_levels lines first ≡ Ok (xs, now.operators, now.tokens)
    → now.ending ≡ first.ending → is_all_read now ≡ false → script_of bytes ≡ Err (bad_of bytes (refused_next Syntax now))
left_over bytes first now xs at reads same left =
    let refused : now.ending.refused ≡ (scan_at 0 bytes).refused = ap (λ (e : Ending). e.refused) same ∙ at.refused in
    from_lines bytes first at ∙ ap (answer bytes (scan_at 0 bytes)) reads
    ∙ not_to_end bytes (scan_at 0 bytes) xs now.operators now.tokens (sym (ap (λ r. is_nil now.tokens && is_none r) refused) ∙ left)
    ∙ ap (λ b. Err (bad_of bytes b)) (same_refusal bytes first now Syntax at same)

pub refused : (bytes : List ℕ) (first now : Ahead) (kind : Refusal) → AtFirst bytes first → reading most_levels lines first ≡ Err (kind, now.tokens)
    → now.ending ≡ first.ending → script_of bytes ≡ Err (bad_of bytes (refused_next kind now))
refused bytes first now kind at reads same =
    from_lines bytes first at ∙ ap (answer bytes (scan_at 0 bytes)) reads ∙ refused_behind bytes (scan_at 0 bytes) kind now.tokens
    ∙ ap (λ b. Err (bad_of bytes b)) (same_refusal bytes first now kind at same)

pub stopped : (bytes : List ℕ) (first now : Ahead) (s : Stop) (at : ScriptBad) → AtFirst bytes first → Stops s now (reading most_levels lines first) → now.ending ≡ first.ending
    → ◌≡◌ {A = Result (List Step) ParseFault} (Err (fault_of bytes now s)) (Err (fault.Refused at)) → script_of bytes ≡ Err at
stopped bytes first now (stop.Refused kind) at first_is reads same is =
    let place : bad_of bytes (refused_next (refusal_of kind) now) ≡ at = cc in
    refused bytes first now (refusal_of kind) first_is reads same ∙ ap Err place
stopped bytes first now stop.NoMemory at first_is reads same is = absurd cc
