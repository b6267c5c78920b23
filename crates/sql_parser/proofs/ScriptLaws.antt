-- What a script and a refusal are, against reading the tokens.
use Rattle.std.proofs.Common.{◌≡◌, ◌⊎◌, inl, inr, refl, sym, ap, ◌∙◌, ℕ, List, [], ◌∷◌, Option, None, Some, Result, Ok, Err, length}
use Rattle.grammar_laws.specs.Definitions.{IsSentence, read_sentence_alone}
use Rattle.grammar_laws.specs.Laws.{IsFirstRefused}
use Rattle.grammar_laws.specs.Reading.{Refusal, Refused}
use Rattle.grammar_laws.proofs.Places.{reads_exactly_sentences, refuses_exactly_first_place}
use Rattle.sql_model.specs.declared.scripts.Step.{Step}
use Rattle.sql_tokens.specs.declared.faults.BadToken.{BadToken}
use Rattle.sql_tokens.specs.declared.faults.ScriptBad.{ScriptBad}
use Rattle.sql_tokens.specs.declared.lexemes.Lexed.{Lexed}
use Rattle.sql_tokens.specs.Places.{bad_of}
use Rattle.sql_tokens.specs.Scans.{Scan, scan_at}
use Rattle.sql_parser.specs.Ahead.{most_levels}
use Rattle.sql_parser.specs.Language.{sql, sql_predictive}
use Rattle.sql_parser.specs.Refusals.{refused_token, refused_end}
use Rattle.sql_parser.specs.Scripts.{RefusedBehind, IsRefusedAt, judged, placed, script_of, ReadsExactlyScripts, RefusesFirstPlace, HasOneAnswer}

abbrev Read : Type 0
Read = Result (List Step) (Refused Lexed)

-- what is read of the tokens
abbrev read_of : List ℕ → Read
read_of bytes = read_sentence_alone sql most_levels 0 (scan_at 0 bytes).tokens

unfolded : (bytes : List ℕ) → script_of bytes ≡ placed bytes (judged bytes (scan_at 0 bytes) (read_of bytes))
unfolding script_of
unfolded bytes = refl

-- a script

accepted : (bytes : List ℕ) (refused : Option BadToken) (xs steps : List Step)
    → placed bytes (elim refused as (λ _. Result (List Step) BadToken) [ None ↦ Ok xs | Some at ↦ Err at ]) ≡ Ok steps → (refused ≡ None) × (xs ≡ steps)
accepted bytes None xs steps e = (refl, cc)
accepted bytes (Some at) xs steps e = absurd cc

accepted_by : (bytes : List ℕ) (s : Scan) (o : Read) (steps : List Step) → placed bytes (judged bytes s o) ≡ Ok steps → (s.refused ≡ None) × (o ≡ Ok steps)
accepted_by bytes s (Ok xs) steps e = let (none, same) = accepted bytes s.refused xs steps e in (none, ap Ok same)
accepted_by bytes s (Err (kind, [])) steps e = absurd cc
accepted_by bytes s (Err (kind, t ∷ ts)) steps e = absurd cc

accepts : (bytes : List ℕ) (refused : Option BadToken) (steps : List Step) → refused ≡ None
    → placed bytes (elim refused as (λ _. Result (List Step) BadToken) [ None ↦ Ok steps | Some at ↦ Err at ]) ≡ Ok steps
accepts bytes None steps none = refl
accepts bytes (Some at) steps none = absurd cc

pub reads_exactly : ReadsExactlyScripts
reads_exactly bytes steps =
    let tokens = (scan_at 0 bytes).tokens in
    let exact = reads_exactly_sentences sql sql_predictive most_levels 0 tokens steps in (
      λ e. let (none, reads) = accepted_by bytes (scan_at 0 bytes) (read_of bytes) steps (sym (unfolded bytes) ∙ e) in record { all_tokens = none; sentence = exact.0 reads },
      λ is. unfolded bytes ∙ ap (λ o. placed bytes (judged bytes (scan_at 0 bytes) o)) (exact.1 is.sentence) ∙ accepts bytes (scan_at 0 bytes).refused steps is.all_tokens,
    )

-- a refusal

refused_after : (bytes : List ℕ) (s : Scan) (refused : Option BadToken) (xs : List Step) (bad : ScriptBad)
    → placed bytes (elim refused as (λ _. Result (List Step) BadToken) [ None ↦ Ok xs | Some at ↦ Err at ]) ≡ Err bad → (at : BadToken) × (refused ≡ Some at) × (bad ≡ bad_of bytes at)
refused_after bytes s None xs bad e = absurd cc
refused_after bytes s (Some at) xs bad e = (at, refl, cc)

refused_by : (bytes : List ℕ) (s : Scan) (o : Read) (bad : ScriptBad)
    → ((kind : Refusal) (rest : List Lexed) → o ≡ Err (kind, rest) → IsFirstRefused sql most_levels 0 s.tokens kind rest)
    → ((steps : List Step) → o ≡ Ok steps → IsSentence sql most_levels 0 s.tokens steps)
    → placed bytes (judged bytes s o) ≡ Err bad
    → (at : BadToken)
    × (((kind : Refusal) × (rest : List Lexed) × IsFirstRefused sql most_levels 0 s.tokens kind rest × RefusedBehind bytes s rest kind at)
    ⊎ ((steps : List Step) × IsSentence sql most_levels 0 s.tokens steps × (s.refused ≡ Some at)))
    × (bad ≡ bad_of bytes at)
refused_by bytes s (Ok xs) bad first sentence e =
    let (at, is, place) = refused_after bytes s s.refused xs bad e in (at, inr (xs, sentence xs refl, is), place)
refused_by bytes s (Err (kind, [])) bad first sentence e =
    (refused_end (length bytes) s.refused, inl (kind, [], first kind [] refl, refl), cc)
refused_by bytes s (Err (kind, t ∷ ts)) bad first sentence e = (refused_token kind t, inl (kind, t ∷ ts, first kind (t ∷ ts) refl, refl), cc)

refuses_behind : (bytes : List ℕ) (s : Scan) (kind : Refusal) (rest : List Lexed) (at : BadToken) → RefusedBehind bytes s rest kind at
    → placed bytes (judged bytes s (Err (kind, rest))) ≡ Err (bad_of bytes at)
refuses_behind bytes s kind [] at is = ap (λ b. Err (bad_of bytes b)) (sym is)
refuses_behind bytes s kind (t ∷ ts) at is = ap (λ b. Err (bad_of bytes b)) (sym is)

refuses_after : (bytes : List ℕ) (refused : Option BadToken) (xs : List Step) (at : BadToken) → refused ≡ Some at
    → placed bytes (elim refused as (λ _. Result (List Step) BadToken) [ None ↦ Ok xs | Some at ↦ Err at ]) ≡ Err (bad_of bytes at)
refuses_after bytes None xs at is = absurd cc
refuses_after bytes (Some b) xs at is = let same : b ≡ at = cc in ap (λ c. Err (bad_of bytes c)) same

refuses_at : (bytes : List ℕ) (at : BadToken) → IsRefusedAt bytes at → script_of bytes ≡ Err (bad_of bytes at)
refuses_at bytes at (inl (kind, rest, first, behind)) =
    let exact = refuses_exactly_first_place sql sql_predictive most_levels 0 (scan_at 0 bytes).tokens kind rest in
    unfolded bytes ∙ ap (λ o. placed bytes (judged bytes (scan_at 0 bytes) o)) (exact.1 first) ∙ refuses_behind bytes (scan_at 0 bytes) kind rest at behind
refuses_at bytes at (inr (steps, sentence, is)) =
    let exact = reads_exactly_sentences sql sql_predictive most_levels 0 (scan_at 0 bytes).tokens steps in
    unfolded bytes ∙ ap (λ o. placed bytes (judged bytes (scan_at 0 bytes) o)) (exact.1 sentence) ∙ refuses_after bytes (scan_at 0 bytes).refused steps at is

pub refuses_first : RefusesFirstPlace
refuses_first bytes refusal =
    let tokens = (scan_at 0 bytes).tokens in (
      λ e. refused_by bytes (scan_at 0 bytes) (read_of bytes) refusal
          (λ kind rest. (refuses_exactly_first_place sql sql_predictive most_levels 0 tokens kind rest).0)
          (λ steps. (reads_exactly_sentences sql sql_predictive most_levels 0 tokens steps).0)
          (sym (unfolded bytes) ∙ e),
      λ (at, is, place). refuses_at bytes at is ∙ ap Err (sym place),
    )

pub one_answer : HasOneAnswer
one_answer = (
  λ bytes x y is_x is_y.
      let both : ◌≡◌ {A = Result (List Step) ScriptBad} (Ok x) (Ok y) = sym ((reads_exactly bytes x).1 is_x) ∙ (reads_exactly bytes y).1 is_y in cc,
  λ bytes x y is_x is_y.
      let both : ◌≡◌ {A = Result (List Step) ScriptBad} (Err x) (Err y) = sym ((refuses_first bytes x).1 is_x) ∙ (refuses_first bytes y).1 is_y in cc,
  λ bytes x y is_x is_y.
      let both : ◌≡◌ {A = Result (List Step) ScriptBad} (Ok x) (Err y) = sym ((reads_exactly bytes x).1 is_x) ∙ (refuses_first bytes y).1 is_y in cc,
)
