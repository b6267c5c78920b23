-- What is read behind a token that opens a level.
use Rattle.std.proofs.Common.{◌≡◌, refl, ap, ◌∙◌, arith, ℕ, zero, suc, ◌-◌, ◌<◌, nat_le, Bool, true, false, ◌||◌, List, [], ◌∷◌, Result, Ok, Err}
use Rattle.grammar_laws.specs.Prediction.{begins}
use Rattle.grammar_laws.specs.Reading.{Syntax, Limit, Refused, mapped, choose, read, read_token, read_deeper}
use Rattle.grammar_laws.proofs.Steps.{ok_is}
use Rattle.sql_model.specs.declared.expressions.Expr.{Expr}
use Rattle.sql_model.specs.declared.expressions.Expr.TheVariants as expr
use Rattle.sql_tokens.specs.declared.keywords.Keyword.TheVariants as keyword
use Rattle.sql_tokens.specs.declared.lexemes.Lexed.{Lexed}
use Rattle.sql_tokens.specs.declared.signs.Sign.TheVariants as sign
use Rattle.sql_parser.specs.Classes.{Class, Sort, an_expression, a_negation, the_keyword, the_sign, is_of, words}
use Rattle.sql_parser.specs.Grammar.{rules, key_operator, the, negated, negation, parenthesized, disjunction}
use Rattle.sql_parser.specs.Ahead.{Ahead, reading, is_at}

-- a token alone
abbrev pub read_mark : Class → ℕ → ℕ → List Lexed → Result (Unit {0} × ℕ × List Lexed) (Refused Lexed)
read_mark c cost budget ts = read_token {A = Unit {0}} (is_of c) cost (λ t left rest. Ok (tt {0}, left, rest)) budget ts

deeper_some : (levels : ℕ) (sort : Sort) (t : Lexed) (budget : ℕ) (ts : List Lexed) → 0 < levels
    → read_deeper rules levels sort t budget ts ≡ read rules (levels - 1) (rules sort) budget ts
deeper_some zero sort t budget ts some = absurd (omega arith)
deeper_some (suc levels) sort t budget ts some = let one_fewer : levels ≡ suc levels - 1 = omega arith in ap (λ n. read rules n (rules sort) budget ts) one_fewer

deeper_none : (levels : ℕ) (sort : Sort) (t : Lexed) (budget : ℕ) (ts : List Lexed) → levels ≡ 0 → read_deeper rules levels sort t budget ts ≡ Err (Limit, t ∷ ts)
deeper_none zero sort t budget ts none = refl
deeper_none (suc levels) sort t budget ts none = absurd (omega arith)

opened_if : (fits affords : Bool) (levels cost budget left : ℕ) (sort : Sort) (t : Lexed) (ts rest : List Lexed)
    → choose {A = Result (Unit {0} × ℕ × List Lexed) (Refused Lexed)} fits (λ _. choose affords (λ _. Ok (tt {0}, budget - cost, ts)) (λ _. Err (Limit, t ∷ ts))) (λ _. Err (Syntax, t ∷ ts)) ≡ Ok (tt, left, rest)
    → 0 < levels
    → choose fits (λ _. choose affords (λ _. read_deeper rules levels sort t (budget - cost) ts) (λ _. Err (Limit, t ∷ ts))) (λ _. Err (Syntax, t ∷ ts)) ≡ read rules (levels - 1) (rules sort) left rest
opened_if true true levels cost budget left sort t ts rest is some =
    let found = ok_is (tt {0}, budget - cost, ts) (tt {0}, left, rest) is in
    let same_left : budget - cost ≡ left = ap (λ (f : Unit {0} × ℕ × List Lexed). f.1) found in
    let same_rest : ts ≡ rest = ap (λ (f : Unit {0} × ℕ × List Lexed). f.2) found in
    deeper_some levels sort t (budget - cost) ts some ∙ ap (λ b. read rules (levels - 1) (rules sort) b ts) same_left ∙ ap (λ r. read rules (levels - 1) (rules sort) left r) same_rest
opened_if true false levels cost budget left sort t ts rest is some = absurd cc
opened_if false affords levels cost budget left sort t ts rest is some = absurd cc

-- behind the token, with levels left
pub opened : (levels cost budget left : ℕ) (c : Class) (sort : Sort) (ts rest : List Lexed) → read_mark c cost budget ts ≡ Ok (tt, left, rest) → 0 < levels
    → read_token (is_of c) cost (read_deeper rules levels sort) budget ts ≡ read rules (levels - 1) (rules sort) left rest
opened levels cost budget left c sort [] rest is some = absurd cc
opened levels cost budget left c sort (t ∷ ts) rest is some = opened_if (is_of c t) (nat_le cost budget) levels cost budget left sort t ts rest is some

unopened_if : (fits affords : Bool) (levels cost budget : ℕ) (sort : Sort) (t : Lexed) (ts : List Lexed) (e : Refused Lexed)
    → choose {A = Result (Unit {0} × ℕ × List Lexed) (Refused Lexed)} fits (λ _. choose affords (λ _. Ok (tt {0}, budget - cost, ts)) (λ _. Err (Limit, t ∷ ts))) (λ _. Err (Syntax, t ∷ ts)) ≡ Err e
    → choose fits (λ _. choose affords (λ _. read_deeper rules levels sort t (budget - cost) ts) (λ _. Err (Limit, t ∷ ts))) (λ _. Err (Syntax, t ∷ ts)) ≡ Err e
unopened_if true true levels cost budget sort t ts e is = absurd cc
unopened_if true false levels cost budget sort t ts e is = let same : (Limit, t ∷ ts) ≡ e = cc in ap Err same
unopened_if false affords levels cost budget sort t ts e is = let same : (Syntax, t ∷ ts) ≡ e = cc in ap Err same

-- where the token is refused
pub unopened : (levels cost budget : ℕ) (c : Class) (sort : Sort) (ts : List Lexed) (e : Refused Lexed) → read_mark c cost budget ts ≡ Err e
    → read_token (is_of c) cost (read_deeper rules levels sort) budget ts ≡ Err e
unopened levels cost budget c sort [] e is = let same : (Syntax, []) ≡ e = cc in ap Err same
unopened levels cost budget c sort (t ∷ ts) e is = unopened_if (is_of c t) (nat_le cost budget) levels cost budget sort t ts e is

too_deep_if : (fits affords : Bool) (levels cost budget : ℕ) (sort : Sort) (t : Lexed) (ts : List Lexed) → fits ≡ true → levels ≡ 0
    → choose fits (λ _. choose affords (λ _. read_deeper rules levels sort t (budget - cost) ts) (λ _. Err (Limit, t ∷ ts))) (λ _. Err (Syntax, t ∷ ts)) ≡ Err (Limit, t ∷ ts)
too_deep_if true true levels cost budget sort t ts is none = deeper_none levels sort t (budget - cost) ts none
too_deep_if true false levels cost budget sort t ts is none = refl
too_deep_if false affords levels cost budget sort t ts is none = absurd cc

fits_of : (b : Bool) → (b || false) ≡ true → b ≡ true
fits_of true h = refl
fits_of false h = h

-- with no level left
pub too_deep : (levels cost budget : ℕ) (c : Class) (sort : Sort) (ts : List Lexed) → begins words (c ∷ []) ts ≡ true → levels ≡ 0
    → read_token (is_of c) cost (read_deeper rules levels sort) budget ts ≡ Err (Limit, ts)
too_deep levels cost budget c sort [] comes none = absurd cc
too_deep levels cost budget c sort (t ∷ ts) comes none = too_deep_if (is_of c t) (nat_le cost budget) levels cost budget sort t ts (fits_of _ comes) none

-- NOT and what it turns

pub negated_reads : (levels : ℕ) (before mid after : Ahead) (inner : Expr) → reading 0 (key_operator keyword.Not) before ≡ Ok (tt, mid.operators, mid.tokens) → 0 < levels
    → reading (levels - 1) negation mid ≡ Ok (inner, after.operators, after.tokens) → reading levels negated before ≡ Ok (expr.Not inner, after.operators, after.tokens)
unfolding negated
negated_reads levels before mid after inner first some second =
    ap (mapped expr.Not)
    (opened levels 1 before.operators mid.operators (the_keyword keyword.Not) a_negation before.tokens mid.tokens first some ∙ second)

pub negated_unopened : (levels : ℕ) (before : Ahead) (e : Refused Lexed) → reading 0 (key_operator keyword.Not) before ≡ Err e → reading levels negated before ≡ Err e
unfolding negated
negated_unopened levels before e refused =
    ap (mapped expr.Not) (unopened levels 1 before.operators (the_keyword keyword.Not) a_negation before.tokens e refused)

pub negated_stops : (levels : ℕ) (before mid : Ahead) (e : Refused Lexed) → reading 0 (key_operator keyword.Not) before ≡ Ok (tt, mid.operators, mid.tokens) → 0 < levels
    → reading (levels - 1) negation mid ≡ Err e → reading levels negated before ≡ Err e
unfolding negated
negated_stops levels before mid e first some second =
    ap (mapped expr.Not)
    (opened levels 1 before.operators mid.operators (the_keyword keyword.Not) a_negation before.tokens mid.tokens first some ∙ second)

pub negated_too_deep : (levels : ℕ) (before : Ahead) → is_at (the_keyword keyword.Not ∷ []) before ≡ true → levels ≡ 0 → reading levels negated before ≡ Err (Limit, before.tokens)
unfolding negated
negated_too_deep levels before comes none =
    ap (mapped expr.Not) (too_deep levels 1 before.operators (the_keyword keyword.Not) a_negation before.tokens comes none)

-- an expression in parentheses

pub parenthesized_reads : (levels : ℕ) (before mid last after : Ahead) (inner : Expr) → reading 0 (the sign.OpenParenthesis) before ≡ Ok (tt, mid.operators, mid.tokens) → 0 < levels
    → reading (levels - 1) disjunction mid ≡ Ok (inner, last.operators, last.tokens) → reading 0 (the sign.CloseParenthesis) last ≡ Ok (tt, after.operators, after.tokens)
    → reading levels parenthesized before ≡ Ok (inner, after.operators, after.tokens)
unfolding parenthesized
parenthesized_reads levels before mid last after inner first some second third =
    rw (opened levels 0 before.operators mid.operators (the_sign sign.OpenParenthesis) an_expression before.tokens mid.tokens first some, second, third) refl

pub parenthesized_unopened : (levels : ℕ) (before : Ahead) (e : Refused Lexed) → reading 0 (the sign.OpenParenthesis) before ≡ Err e → reading levels parenthesized before ≡ Err e
unfolding parenthesized
parenthesized_unopened levels before e refused =
    rw (unopened levels 0 before.operators (the_sign sign.OpenParenthesis) an_expression before.tokens e refused) refl

pub parenthesized_stops : (levels : ℕ) (before mid : Ahead) (e : Refused Lexed) → reading 0 (the sign.OpenParenthesis) before ≡ Ok (tt, mid.operators, mid.tokens) → 0 < levels
    → reading (levels - 1) disjunction mid ≡ Err e → reading levels parenthesized before ≡ Err e
unfolding parenthesized
parenthesized_stops levels before mid e first some second =
    rw (opened levels 0 before.operators mid.operators (the_sign sign.OpenParenthesis) an_expression before.tokens mid.tokens first some, second) refl

pub parenthesized_unclosed : (levels : ℕ) (before mid last : Ahead) (inner : Expr) (e : Refused Lexed) → reading 0 (the sign.OpenParenthesis) before ≡ Ok (tt, mid.operators, mid.tokens)
    → 0 < levels → reading (levels - 1) disjunction mid ≡ Ok (inner, last.operators, last.tokens) → reading 0 (the sign.CloseParenthesis) last ≡ Err e
    → reading levels parenthesized before ≡ Err e
unfolding parenthesized
parenthesized_unclosed levels before mid last inner e first some second third =
    rw (opened levels 0 before.operators mid.operators (the_sign sign.OpenParenthesis) an_expression before.tokens mid.tokens first some, second, third) refl

pub parenthesized_too_deep : (levels : ℕ) (before : Ahead) → is_at (the_sign sign.OpenParenthesis ∷ []) before ≡ true → levels ≡ 0
    → reading levels parenthesized before ≡ Err (Limit, before.tokens)
unfolding parenthesized
parenthesized_too_deep levels before comes none =
    rw (too_deep levels 0 before.operators (the_sign sign.OpenParenthesis) an_expression before.tokens comes none) refl
