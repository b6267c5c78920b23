-- The bytes of names are ASCII.
use Rattle.std.proofs.Common.{◌≡◌, ℕ, ◌+◌, ◌<◌, true, false, List, [], ◌∷◌, map, take, All, refl, arith, cond, ap, sym, subst, suc}
use Rattle.std.specs.List.{prefix_len, AllByRecursion}
use Rattle.std.proofs.lemmas.Bool.Decides.{nat_tests}
use Rattle.std.proofs.lemmas.List.Elements.{All-from_recursion}
use Rattle.sql_tokens.specs.Tokens.{folded, is_word}

folded_ascii : (b : ℕ) → is_word b ≡ true → folded b < 128
folded_ascii b h = grind (arith, nat_tests)

one_more : (n b : ℕ) (bytes : List ℕ) → take (1 + n) (b ∷ bytes) ≡ b ∷ take n bytes
one_more n b bytes = let e : 1 + n ≡ suc n = omega arith in ap (λ (k : ℕ). take k (b ∷ bytes)) e

each_ascii : (bytes : List ℕ) → AllByRecursion (λ b. b < 128) (map folded (take (prefix_len is_word bytes) bytes))
each_ascii [] = tt
each_ascii (b ∷ bytes) =
    elim (is_word b) as (λ t. is_word b ≡ t → AllByRecursion (λ x. x < 128) (map folded (take (cond t (1 + prefix_len is_word bytes) 0) (b ∷ bytes)))) [
      | true ↦ λ e. (let P : List ℕ → Type 0 = λ xs. AllByRecursion (λ x. x < 128) (map folded xs) in
          subst P (sym (one_more (prefix_len is_word bytes) b bytes)) (folded_ascii b e, each_ascii bytes))
      | false ↦ λ e. tt
    ] refl

pub word_ascii : (bytes : List ℕ) → All (λ b. b < 128) (map folded (take (prefix_len is_word bytes) bytes))
word_ascii bytes = All-from_recursion (λ (b : ℕ). b < 128) _ (each_ascii bytes)
