use Rattle.std.proofs.Common.{◌≡◌, ◌<◌, ◌∙◌, ℕ, List, All, map, take, sym, ap, subst}
use Rattle.std.specs.List.{prefix_len}
use Rattle.sql_tokens.specs.Tokens.{folded, is_word}
use Rattle.sql_tokens.proofs.Ascii.{word_ascii}
use Rattle.sql_tokens.proofs.words.read_word.Goals as goal

pub name_or_keyword-requires-clause-ascii : goal.name_or_keyword-requires-clause-ascii
name_or_keyword-requires-clause-ascii c =
    let name = c.fold_into.new.name in
    let bytes = c.args.bytes.now in
    let e : c.split_at-2.result.0.now ≡ map folded (take (prefix_len is_word bytes) bytes) =
    c.split_at-2.ensures.front
    ∙ ap (λ (n : ℕ). take n name) (sym c.split_at.ensures.front_len)
    ∙ c.fold_into.ensures
    ∙ ap (λ (xs : List ℕ). map folded xs) (c.split_at.ensures.front ∙ ap (λ (n : ℕ). take n bytes) c.count_word-size.ensures.count) in
    let P : List ℕ → Type 0 = λ xs. All (λ b. b < 128) xs in
    subst P (sym e) (word_ascii bytes)
