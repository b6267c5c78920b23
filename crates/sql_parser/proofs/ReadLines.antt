-- The lines of a script that is read: their sessions, and their statements in form.
use Rattle.std.proofs.Common.{◌≡◌, refl, sym, arith, ℕ, ◌+◌, ◌<◌, ◌^◌, nat_le, leb-true, Bool, true, ◌&&◌, List, [], ◌∷◌, Option, Some, None, unwrap_or, length, drop, subst, Ok}
use Rattle.std.specs.List.{list_all}
use Rattle.sql_model.specs.declared.scripts.Step.{Step}
use Rattle.sql_model.specs.declared.statements.Statement.{Statement}
use Rattle.sql_model.specs.Form.{is_form}
use Rattle.sql_tokens.specs.declared.lexemes.Lexeme.{Lexeme}
use Rattle.sql_tokens.specs.declared.lexemes.Lexeme.TheVariants as lexeme
use Rattle.sql_tokens.specs.Scans.{scan_at}
use Rattle.sql_parser.specs.declared.scripts.Line.{Line}
use Rattle.sql_parser.specs.Ahead.{Ahead, reading, most_levels}
use Rattle.sql_parser.specs.Classes.{a_session, fits, session_in}
use Rattle.sql_parser.specs.Grammar
use Rattle.sql_parser.specs.Grammar.{steps_from}
use Rattle.sql_model.specs.ScriptStatements.{is_script_statement}
use Rattle.sql_parser.specs.Scripts.{AllStatements, AreNumbered, AreNumberedFrom, all_of_step}
use Rattle.sql_parser.proofs.InForm.{Members, is_ready, as_passes, reads_members, reads_statement}
use Rattle.sql_parser.proofs.InFormExpressions.{Reads, Passes, is_session, is_bounded, bounded, if_any, reads_token, reads_any, reads_before, reads_maybe, passes_both, passes_later, both_true, both_parts}
use Rattle.sql_parser.proofs.Numbering.{steps_from-length}
use Rattle.sql_parser.proofs.TokenBounds.{tokens_bounded}
use Rattle.sql_parser.proofs.Yields.{All}

session_bounded : (x : Lexeme) → fits a_session x ≡ true → is_bounded x ≡ true → is_session (session_in (record { start = 0; end = 0; lexeme = x })) ≡ true
session_bounded (lexeme.Session n) fit is = is
session_bounded (lexeme.Name w) fit is = absurd cc
session_bounded (lexeme.Keyword k) fit is = absurd cc
session_bounded (lexeme.Number n) fit is = absurd cc
session_bounded (lexeme.Text w) fit is = absurd cc
session_bounded (lexeme.Sign s) fit is = absurd cc

reads_session : {levels : ℕ} → Reads levels Grammar.session (Passes is_session)
reads_session = reads_token (Passes is_session) (λ t b fit enough is. (session_bounded t.lexeme fit is, omega arith))

mark_or_first : (mark : Option ℕ) → if_any is_session mark ≡ true → is_session (unwrap_or mark 1) ≡ true
mark_or_first None is = refl
mark_or_first (Some n) is = is

reads_session_of_line : {levels : ℕ} → Reads levels Grammar.session_of_line (Passes is_session)
unfolding Grammar.session_of_line
reads_session_of_line = as_passes {f = λ mark. unwrap_or mark 1} is_session mark_or_first (reads_maybe reads_session)

-- a line of a session from 1 to 16, whose statement is of a script and in form
abbrev pub is_ready_line : Line → Bool
is_ready_line x = is_session x.session && is_ready x.statement

reads_line : {levels : ℕ} → Reads levels Grammar.line (Passes is_ready_line)
unfolding Grammar.line
reads_line =
    as_passes {f = λ x. Grammar.line_of x.0 x.1} is_ready_line (λ x p. p) (passes_both reads_session_of_line (reads_before (passes_later is_ready) reads_statement reads_any))

reads_lines : {levels : ℕ} → Reads levels Grammar.lines (Members is_ready_line (Some Grammar.most_statements))
unfolding Grammar.lines
reads_lines = reads_members reads_line

-- the lines of a script's bytes, from the first token on
lines_ready : (bytes : List ℕ) (first now : Ahead) (xs : List Line) → first.tokens ≡ (scan_at 0 bytes).tokens → reading most_levels Grammar.lines first ≡ Ok (xs, now.operators, now.tokens)
    → list_all is_ready_line xs ≡ true
lines_ready bytes first now xs at reads =
    let all : All bounded first.tokens = subst (λ ts. All bounded ts) (sym at) (tokens_bounded 0 (drop 0 bytes)) in
    (reads_lines.holds first.operators first.tokens xs now.operators now.tokens all reads).0.0

-- what the statements of ready lines pass, those of their steps pass
steps_pass : (test : Statement → Bool) → ((x : Statement) → is_ready x ≡ true → test x ≡ true) → (place : ℕ) (xs : List Line) → list_all is_ready_line xs ≡ true
    → list_all (all_of_step test) (steps_from place xs) ≡ true
steps_pass test passes place [] all = refl
steps_pass test passes place (x ∷ xs) all =
    let (this, those) = both_parts (is_ready_line x) (list_all is_ready_line xs) all in
    let ready = (both_parts (is_session x.session) (is_ready x.statement) this).1 in
    both_true (test x.statement) (list_all (all_of_step test) (steps_from (place + 1) xs)) (passes x.statement ready) (steps_pass test passes (place + 1) xs those)

numbered_from : (place : ℕ) (xs : List Line) → list_all is_ready_line xs ≡ true → AreNumberedFrom place (steps_from place xs)
numbered_from place [] all = tt
numbered_from place (x ∷ xs) all =
    let (this, those) = both_parts (is_ready_line x) (list_all is_ready_line xs) all in
    let session = (both_parts (is_session x.session) (is_ready x.statement) this).0 in
    let (from, to) = both_parts (nat_le 1 x.session) (nat_le x.session 16) session in
    (refl, leb-true 1 x.session from, leb-true x.session 16 to, numbered_from (place + 1) xs those)

-- what the steps of a script are
pub record AreReady (steps : List Step) : Type 0 where
  pub numbered : AreNumbered steps
  pub kinds : AllStatements is_script_statement steps
  pub forms : AllStatements is_form steps

from_lines : (xs : List Line) → list_all is_ready_line xs ≡ true → length xs < 2 ^ 32 → AreReady (steps_from 1 xs)
from_lines xs all few = record {
  numbered = record { in_turn = numbered_from 1 xs all; few = let same = steps_from-length 1 xs in omega (arith, same, few) };
  kinds = steps_pass is_script_statement (λ x ready. (both_parts (is_script_statement x) (is_form x) ready).0) 1 xs all;
  forms = steps_pass is_form (λ x ready. (both_parts (is_script_statement x) (is_form x) ready).1) 1 xs all;
}

pub steps_ready : (bytes : List ℕ) (first now : Ahead) (xs : List Line) (steps : List Step) → first.tokens ≡ (scan_at 0 bytes).tokens
    → reading most_levels Grammar.lines first ≡ Ok (xs, now.operators, now.tokens) → length xs < 2 ^ 32 → steps ≡ steps_from 1 xs → AreReady steps
steps_ready bytes first now xs steps at reads few same = subst AreReady (sym same) (from_lines xs (lines_ready bytes first now xs at reads) few)
