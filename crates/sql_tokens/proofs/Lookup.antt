-- A keyword is found among those that begin with its first letter.
use Rattle.std.proofs.Common.{◌≡◌, ◌==◌, ◌&&◌, ℕ, Bool, true, false, nat_eq, List, [], ◌∷◌, Option, Some, None, refl, ap, ◌∙◌, sym, cond, ◌<◌, length, get_or, arith}
use Rattle.std.specs.List.{filter, find}
use Rattle.std.specs.Cmp.Lexicographic.{pointwise}
use Rattle.sql_tokens.specs.declared.keywords.Keyword.{Keyword}
use Rattle.sql_tokens.specs.Tokens.{begins_with, keyword_of, keyword_text, keywords, same_bytes}

unlike : (b : ℕ) (rest text : List ℕ) → begins_with (λ c. c == b) text ≡ false → same_bytes text (b ∷ rest) ≡ false
unlike b rest [] e = refl
unlike b rest (c ∷ text) e = ap (λ (t : Bool). t && pointwise nat_eq text rest) e

pub find-beginning : (b : ℕ) (rest : List ℕ) (keywords : List Keyword) →
    find (λ keyword. same_bytes (keyword_text keyword) (b ∷ rest)) (filter (λ keyword. begins_with (λ c. c == b) (keyword_text keyword)) keywords)
    ≡ find (λ keyword. same_bytes (keyword_text keyword) (b ∷ rest)) keywords
find-beginning b rest [] = refl
find-beginning b rest (k ∷ keywords) =
    let found = λ (ks : List Keyword). find (λ keyword. same_bytes (keyword_text keyword) (b ∷ rest)) ks in
    let kept = filter (λ keyword. begins_with (λ c. c == b) (keyword_text keyword)) keywords in
    elim (begins_with (λ c. c == b) (keyword_text k)) as (λ t. begins_with (λ c. c == b) (keyword_text k) ≡ t → found (cond t (k ∷ kept) kept) ≡ cond (same_bytes (keyword_text k) (b ∷ rest)) (Some k) (found keywords)) [
      | true ↦ λ e. ap (λ (more : Option Keyword). cond (same_bytes (keyword_text k) (b ∷ rest)) (Some k) more) (find-beginning b rest keywords)
      | false ↦ λ e. find-beginning b rest keywords ∙ ap (λ (t : Bool). cond t (Some k) (found keywords)) (sym (unlike b rest (keyword_text k) e))
    ] refl

pub keyword_of-beginning : (name : List ℕ) → 0 < length name →
    find (λ keyword. same_bytes (keyword_text keyword) name) (filter (λ keyword. begins_with (λ c. c == get_or name 0 0) (keyword_text keyword)) keywords) ≡ keyword_of name
unfolding keyword_of
keyword_of-beginning [] some = absurd (omega arith)
keyword_of-beginning (b ∷ rest) some = find-beginning b rest keywords

pub keyword_of-empty : (name : List ℕ) → length name ≡ 0 → keyword_of name ≡ None
unfolding keyword_of
keyword_of-empty [] e = refl
keyword_of-empty (b ∷ rest) e = absurd (omega arith)
